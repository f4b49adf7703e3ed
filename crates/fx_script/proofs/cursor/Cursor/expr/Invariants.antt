-- the words that are left go on with the expression
use Rattle.std.proofs.Common.{◌≡◌, length}
use Rattle.fx_script.specs.Exprs.{expr_run, expr_at}
use Rattle.fx_script.proofs.cursor.Cursor.expr.Given as goal

abbrev pub invariant-loop-pending : goal.invariant-loop-pending
invariant-loop-pending l = expr_run l.group l.pending l.self.words l.self.past ≡ expr_at l.fn.self

abbrev pub decreases-loop-pending : goal.decreases-loop-pending
decreases-loop-pending l = length l.self.words
