-- Words and lines that are written one behind another.
use Rattle.std.proofs.Common.{◌≡◌, ℕ, List, [], ◌∷◌, ◌++◌, refl, sym, ap, ◌∙◌, append_assoc}
use Rattle.std.specs.Prelude.{ℤ, map, codes}
use Rattle.std.specs.Fmt.{signed_decimal}
use Rattle.std.proofs.lemmas.List.{map-append}
use Rattle.fx_script.specs.declared.expr.Expr.{Expr}
use Rattle.fx_script.specs.declared.expr.Expr.TheVariants as expr
use Rattle.fx_script.specs.declared.expr.Sign.{Sign}
use Rattle.fx_script.specs.declared.expr.Sign.TheVariants as sign
use Rattle.fx_script.specs.Exprs.{sign_text, expr_words, joined}
use Rattle.fx_script.specs.Canonical.{line_of_words, entry_line, text_of}
use Rattle.fx_text.specs.Written.{spaced}
use Rattle.fx_script.specs.Spelling.{Entry, chained}
use Rattle.fx_script.proofs.Adds.{chained-append}
use Rattle.fx_script.proofs.ExprLemmas.{joined_words}

-- words behind words
pub spaced_append : (vs ws : List (List ℕ)) → spaced (vs ++ ws) ≡ spaced vs ++ spaced ws
spaced_append [] ws = refl
spaced_append (v ∷ vs) ws = ap (λ (l : List ℕ). (32 ∷ v) ++ l) (spaced_append vs ws) ∙ sym (append_assoc (32 ∷ v) (spaced vs) (spaced ws))

-- words that are written behind words
pub behind_words : (out next : List ℕ) (vs ws : List (List ℕ)) → next ≡ out ++ spaced vs → next ++ spaced ws ≡ out ++ spaced (vs ++ ws)
behind_words out next vs ws e =
    ap (λ (l : List ℕ). l ++ spaced ws) e ∙ append_assoc out (spaced vs) (spaced ws) ∙ ap (λ (l : List ℕ). out ++ l) (sym (spaced_append vs ws))

-- a line end behind a word and words
pub ends_line : (out first one two : List ℕ) (ws : List (List ℕ)) → one ≡ out ++ first → two ≡ one ++ spaced ws → two ++ 10 ∷ [] ≡ out ++ (line_of_words (first ∷ ws) ++ 10 ∷ [])
ends_line out first one two ws p q = rw (q, p) (simp append_assoc)

-- the words of three numbers
abbrev pub three_numbers : ℤ → ℤ → ℤ → List (List ℕ)
three_numbers a b c = signed_decimal a ∷ signed_decimal b ∷ signed_decimal c ∷ []

pub same_three : (a b c x y z : ℤ) → a ≡ x → b ≡ y → c ≡ z → three_numbers a b c ≡ three_numbers x y z
same_three a b c x y z p q r = rw (p, q, r) refl

-- lines behind lines
pub text_append : (ds es : List Entry) → text_of (ds ++ es) ≡ text_of ds ++ text_of es
text_append ds es = ap chained (map-append entry_line ds es) ∙ chained-append (map entry_line ds) (map entry_line es)

-- a sign and its two expressions
signed_words : (s : Sign) (a b : Expr) → spaced (expr_words (joined s a b)) ≡ (32 ∷ sign_text s) ++ (spaced (expr_words a) ++ spaced (expr_words b))
signed_words s a b = ap spaced (joined_words s a b) ∙ ap (λ (l : List ℕ). (32 ∷ sign_text s) ++ l) (spaced_append (expr_words a) (expr_words b))

pub sum_words : (a b : Expr) → spaced (expr_words (expr.Add a b)) ≡ (32 ∷ codes "+") ++ (spaced (expr_words a) ++ spaced (expr_words b))
sum_words a b = signed_words sign.Plus a b

pub difference_words : (a b : Expr) → spaced (expr_words (expr.Sub a b)) ≡ (32 ∷ codes "-") ++ (spaced (expr_words a) ++ spaced (expr_words b))
difference_words a b = signed_words sign.Minus a b

pub product_words : (a b : Expr) → spaced (expr_words (expr.Mul a b)) ≡ (32 ∷ codes "*") ++ (spaced (expr_words a) ++ spaced (expr_words b))
product_words a b = signed_words sign.Times a b
