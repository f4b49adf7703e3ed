use Rattle.std.proofs.Common.{◌≡◌, ◌++◌, drop}
use Rattle.fx_value.specs.Columns.{numbers_from}
use Rattle.fx_value.proofs.column.number_all.Given as goal

abbrev pub invariant-loop-at : goal.invariant-loop-at
invariant-loop-at l = l.column ≡ numbers_from 0 l.at ++ drop l.at l.fn.column
