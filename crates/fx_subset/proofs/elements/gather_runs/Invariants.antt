use Rattle.std.proofs.Common.{◌≡◌, ℕ, take, slice_get}
use Rattle.std.specs.FinMap as finite
use Rattle.fx_subset.specs.Elements.{if_chosen}
use Rattle.fx_subset.specs.Indices.{is_covered}
use Rattle.fx_subset.proofs.elements.gather_runs.Given as goal

abbrev pub invariant-loop-run : goal.invariant-loop-run
invariant-loop-run l = (index : ℕ) → finite.get l.elements index ≡ if_chosen (is_covered (take l.run-index l.runs) index) (slice_get l.from index)
