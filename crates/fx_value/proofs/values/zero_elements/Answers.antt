use Rattle.std.proofs.Common.{◌∙◌, ap, sym, set, List}
use Rattle.std.specs.Prelude.{ℤ}
use Rattle.std.proofs.lemmas.List.Edits.{map_over_more}
use Rattle.fx_value.specs.Shape.{zeroed}
use Rattle.fx_value.proofs.values.zero_elements.Goals as goal

pub loop-array-preserved : goal.loop-array-preserved
loop-array-preserved c =
    ap (λ (array : List ℤ). set c.loop-array.arrays c.loop-array.array-index array) (c.zero.ensures ∙ ap zeroed (sym c.array-item.is))
    ∙ map_over_more zeroed c.args.arrays.now c.loop-array.arrays c.loop-array.array-index c.array-item.result c.loop-array-test.true c.loop-array.invariant c.array-item.is
