-- The entries so far are in the map, and their indices rise to below the least that may follow.
use Rattle.std.proofs.Common.{not}
use Rattle.std.specs.Ordering.{nat_cmp}
use Rattle.std.specs.Prelude.{nat_lt}
use Rattle.std.specs.Vec.Iter.{into_iter_items}
use Rattle.fx_trace.proofs.RisenLemmas.{IsRisen}
use Rattle.fx_trace.proofs.read_list.elements_of.Given as goal

abbrev pub invariant-loop-index : goal.invariant-loop-index
invariant-loop-index l = IsRisen nat_cmp l.fn.entries l.yielded (into_iter_items l.index-iterator) l.elements (λ k. not (nat_lt k l.least))
