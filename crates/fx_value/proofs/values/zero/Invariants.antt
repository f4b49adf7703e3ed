use Rattle.std.proofs.Common.{◌≡◌, ◌++◌, take, drop}
use Rattle.fx_value.specs.Shape.{zeroed}
use Rattle.fx_value.proofs.values.zero.Given as goal

abbrev pub invariant-loop-at : goal.invariant-loop-at
invariant-loop-at l = l.array ≡ zeroed (take l.at l.fn.array) ++ drop l.at l.fn.array
