use Rattle.std.proofs.Common.{◌≡◌, ◌++◌, take, drop}
use Rattle.fx_value.specs.Columns.{sums}
use Rattle.fx_value.proofs.column.add_all.Given as goal

abbrev pub invariant-loop-at : goal.invariant-loop-at
invariant-loop-at l = l.left ≡ sums (take l.at l.fn.left) (take l.at l.right) ++ drop l.at l.fn.left
