-- the runs so far and the one that still grows cover, with what is left, what all the intervals cover
use Rattle.std.proofs.Common.{drop}
use Rattle.fx_subset.proofs.Apart.{Grows}
use Rattle.fx_subset.proofs.runs.joined_in_order.Given as goal

abbrev pub invariant-loop-next : goal.invariant-loop-next
invariant-loop-next l = Grows l.runs.items l.first l.last (drop l.next-index l.rest) l.sorted
