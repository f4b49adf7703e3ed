use Rattle.std.proofs.Common.{◌≡◌, ℕ, ◌&&◌, nat_le, nat_lt, slice_get}
use Rattle.std.specs.FinMap as finite
use Rattle.fx_subset.specs.Elements.{put_if}
use Rattle.fx_subset.proofs.elements.gather_run.Given as goal

abbrev pub invariant-loop-index : goal.invariant-loop-index
invariant-loop-index l = (index : ℕ) → finite.get l.elements index ≡ put_if (nat_le l.run.0 index && nat_lt index l.index) (slice_get l.from index) (finite.get l.fn.elements index)
