use Rattle.std.proofs.Common.{◌≡◌, ◌++◌, ℕ, List, OnOk, subst, append_assoc}
use Rattle.fx_text.specs.Written.{spaced}
use Rattle.fx_script.specs.Exprs.{expr_words}
use Rattle.fx_script.proofs.PrintLemmas.{sum_words, difference_words, product_words}
use Rattle.fx_script.proofs.print_word.+put_expr.Goals as goal

pub returns-in_ok-put_expr-in-Add : goal.returns-in_ok-put_expr-in-Add
returns-in_ok-put_expr-in-Add t c =
    let e : c.put_expr.new.out ++ spaced (expr_words c.get-in-Add.result.now) ≡ c.args.out.now ++ spaced (expr_words c.args.expr.now) =
    rw (c.in-Add.is, sum_words c.in-Add.left c.in-Add.right, c.get-in-Add.ensures, c.in_ok-put_expr-in-Add.ensures, c.get.ensures, c.in_ok-put_word-in-Add.ensures.ok) (simp append_assoc) in
    subst (λ (text : List ℕ). OnOk c.put_expr-in-Add.result (c.put_expr-in-Add.new.out ≡ text)) e c.put_expr-in-Add.ensures

pub returns-in_ok-put_expr-in-Sub : goal.returns-in_ok-put_expr-in-Sub
returns-in_ok-put_expr-in-Sub t c =
    let e : c.put_expr-in-Sub.new.out ++ spaced (expr_words c.get-in-Sub-2.result.now) ≡ c.args.out.now ++ spaced (expr_words c.args.expr.now) =
    rw (c.in-Sub.is, difference_words c.in-Sub.left c.in-Sub.right, c.get-in-Sub-2.ensures, c.in_ok-put_expr-in-Sub.ensures, c.get-in-Sub.ensures, c.in_ok-put_word-in-Sub.ensures.ok) (simp append_assoc) in
    subst (λ (text : List ℕ). OnOk c.put_expr-in-Sub-2.result (c.put_expr-in-Sub-2.new.out ≡ text)) e c.put_expr-in-Sub-2.ensures

pub returns-in_ok-put_expr-in-Mul : goal.returns-in_ok-put_expr-in-Mul
returns-in_ok-put_expr-in-Mul t c =
    let e : c.put_expr-in-Mul.new.out ++ spaced (expr_words c.get-in-Mul-2.result.now) ≡ c.args.out.now ++ spaced (expr_words c.args.expr.now) =
    rw (c.in-Mul.is, product_words c.in-Mul.left c.in-Mul.right, c.get-in-Mul-2.ensures, c.in_ok-put_expr-in-Mul.ensures, c.get-in-Mul.ensures, c.in_ok-put_word-in-Mul.ensures.ok) (simp append_assoc) in
    subst (λ (text : List ℕ). OnOk c.put_expr-in-Mul-2.result (c.put_expr-in-Mul-2.new.out ≡ text)) e c.put_expr-in-Mul-2.ensures
