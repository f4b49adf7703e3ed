use Rattle.std.proofs.Common.{◌≡◌, ◌++◌, map, take, drop}
use Rattle.fx_value.specs.Shape.{zeroed}
use Rattle.fx_value.proofs.values.zero_elements.Given as goal

abbrev pub invariant-loop-array : goal.invariant-loop-array
invariant-loop-array l = l.arrays ≡ map zeroed (take l.array-index l.fn.arrays) ++ drop l.array-index l.fn.arrays
