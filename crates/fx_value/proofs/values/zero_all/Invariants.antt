use Rattle.std.proofs.Common.{◌≡◌, ◌++◌, take, drop}
use Rattle.fx_value.specs.Shape.{zeroed}
use Rattle.fx_value.proofs.values.zero_all.Given as goal

abbrev pub invariant-loop-number : goal.invariant-loop-number
invariant-loop-number l = l.numbers ≡ zeroed (take l.number-index l.fn.numbers) ++ drop l.number-index l.fn.numbers
