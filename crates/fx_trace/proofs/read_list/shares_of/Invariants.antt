-- The entries so far are in the map, and their stamps rise to the last one.
use Rattle.std.specs.Vec.Iter.{into_iter_items}
use Rattle.fx_base.specs.Keys.{by_time}
use Rattle.fx_trace.specs.Reads.{is_later}
use Rattle.fx_trace.proofs.RisenLemmas.{IsRisen}
use Rattle.fx_trace.proofs.read_list.shares_of.Given as goal

abbrev pub invariant-loop-stamp : goal.invariant-loop-stamp
invariant-loop-stamp l = IsRisen by_time l.fn.entries l.yielded (into_iter_items l.stamp-iterator) l.shares (is_later l.last)
