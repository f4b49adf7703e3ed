use Rattle.std.proofs.Common.{◌≡◌, ◌++◌, take, drop}
use Rattle.fx_value.specs.Columns.{differences}
use Rattle.fx_value.proofs.column.subtract_all.Given as goal

abbrev pub invariant-loop-at : goal.invariant-loop-at
invariant-loop-at l = l.left ≡ differences (take l.at l.fn.left) (take l.at l.right) ++ drop l.at l.fn.left
