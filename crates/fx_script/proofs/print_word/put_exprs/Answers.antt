use Rattle.std.proofs.Common.{◌≡◌, ℕ, List, OnOk, subst}
use Rattle.fx_script.specs.Exprs.{expr_words}
use Rattle.fx_script.proofs.PrintLemmas.{behind_words}
use Rattle.fx_script.proofs.print_word.put_exprs.Goals as goal

pub returns : goal.returns
returns c =
    subst (λ (text : List ℕ). OnOk c.put_expr-2.result (c.put_expr-2.new.out ≡ text))
    (behind_words c.args.out.now c.put_expr.new.out (expr_words c.args.left.now) (expr_words c.args.right.now) c.in_ok-put_expr.ensures)
    c.put_expr-2.ensures
