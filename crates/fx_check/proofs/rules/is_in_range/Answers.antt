use Rattle.std.proofs.Common.{◌≡◌, ◌&&◌, ℕ, List, ap, sym, ◌∙◌}
use Rattle.fx_base.specs.declared.spot.Spot.{Spot}
use Rattle.fx_script.specs.declared.expr.Expr.{Expr}
use Rattle.fx_script.specs.declared.job.Stmt.{Stmt}
use Rattle.fx_script.specs.declared.job.Stmt.TheVariants as stmt
use Rattle.fx_script.specs.declared.job.Stmt.TheOpen.{Stmt-F}
use Rattle.fx_script.specs.declared.job.Stmt.TheViews.{out-Stmt, out-roll-Stmt}
use Rattle.fx_check.specs.Facts.{Facts, array_in, facts_of}
use Rattle.fx_check.specs.Rules.{expr_groups_fit, expr_lengths_fit, is_in_range}
use Rattle.fx_check.proofs.rules.is_in_range.Goals as goal

let_in_range : (f : Facts) (s : Stmt) (spot : Spot) (array : List ℕ) (value : Expr) → s ≡ stmt.Let spot array value
    → is_in_range f (out-Stmt s) ≡ (expr_groups_fit value && expr_lengths_fit f (array_in f.names array) value)
let_in_range f s spot array value is =
    let x : Stmt-F Stmt = Stmt-F.Let spot array value in
    ap (λ (t : Stmt). is_in_range f (out-Stmt t)) (is ∙ sym (stmt.rolls-Let spot array value)) ∙ ap (λ (y : Stmt-F Stmt). is_in_range f y) (out-roll-Stmt x)

pub returns-in-Let : goal.returns-in-Let
returns-in-Let c =
    rw (c.array_in.ensures, c.as_slice.ensures, c.names-names.ensures) at c.is_value_in_range.ensures
    ∙ sym (let_in_range (facts_of c.args.job.now) c.args.statement.now c.in-Let.spot c.in-Let.array c.in-Let.value c.in-Let.is)
