use Rattle.std.proofs.Common.{◌≡◌, [], ◌∷◌, ◌++◌, ℕ, ℤ, List, OnOk, subst, ap, sym, ◌∙◌, w64, to_z, of_z}
use Rattle.std.specs.Fmt.{signed_decimal}
use Rattle.std.proofs.lemmas.Int.{to_z-of_z}
use Rattle.std.proofs.lemmas.List.{append-nil}
use Rattle.fx_text.specs.Written.{spaced}
use Rattle.fx_script.specs.Exprs.{expr_words}
use Rattle.fx_script.proofs.PrintLemmas.{behind_words}
use Rattle.fx_script.proofs.print_word.put_bounds.Goals as goal

pub returns : goal.returns
returns c =
    let words = expr_words c.args.first.now in
    let last = signed_decimal c.args.last in
    let e : c.put_expr.new.out ++ 32 ∷ signed_decimal (to_z w64 (of_z w64 c.args.last)) ≡ c.args.out.now ++ spaced (words ++ last ∷ []) =
    ap (λ (n : ℤ). c.put_expr.new.out ++ 32 ∷ signed_decimal n) (to_z-of_z w64 c.args.last c.ranges.last)
    ∙ ap (λ (l : List ℕ). c.put_expr.new.out ++ l) (sym (append-nil (32 ∷ last)))
    ∙ behind_words c.args.out.now c.put_expr.new.out words (last ∷ []) c.in_ok-put_expr.ensures in
    subst (λ (text : List ℕ). OnOk c.put_number.result (c.put_number.new.out ≡ text)) e c.put_number.ensures.ok
