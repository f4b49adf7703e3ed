-- An expression that was read is spelled by its words, and words that spell an expression are read as it.
use Rattle.std.proofs.Common.{◌≡◌, ℕ, suc, ◌^◌, ◌<◌, ◌≤◌, Bool, true, false, not, cond, eqb, ltb, leb, ◌&&◌, ◌||◌, List, [], ◌∷◌, ◌++◌, length, Result, Ok, Err, refl, sym, ap, subst, ◌∙◌, append_assoc, arith, inl, inr}
use Rattle.std.specs.Prelude.{ℤ, pos, negsuc, map, codes}
use Rattle.std.specs.Fmt.{decimal, signed_decimal}
use Rattle.std.specs.List.{list_all}
use Rattle.std.specs.Str.{bytes_eq}
use Rattle.std.proofs.lemmas.Bool.{cases_Bool, and_from, and_parts, or_parts, or_left, eqb-true, ne_eqb, lt-ltb, ltb-true, leb-true, le-leb, lt-leb, and_left}
use Rattle.std.proofs.lemmas.Fmt.{decimal_nonempty, decimal_is_IsNumeral}
use Rattle.std.proofs.lemmas.Str.Parse.{digit_from_value}
use Rattle.std.specs.Str.Parse.{IsNumeral}
use Rattle.fx_text.specs.Numbers.{is_digit, fits_64}
use Rattle.fx_text.specs.Words.{Word}
use Rattle.fx_text.proofs.NumberLemmas.{number_again}
use Rattle.fx_script.specs.declared.expr.Expr.{Expr}
use Rattle.fx_script.specs.declared.expr.Expr.TheVariants as expr
use Rattle.fx_script.specs.declared.expr.Expr.TheOpen.{Expr-F}
use Rattle.fx_script.specs.declared.expr.Expr.TheViews.{roll-Expr}
use Rattle.fx_script.specs.declared.expr.Expr.TheFolds.{fold-roll-Expr, map-Expr, ind-Expr}
use Rattle.fx_script.specs.declared.expr.Pending.{Pending}
use Rattle.fx_script.specs.declared.expr.Pending.TheVariants as pending
use Rattle.fx_script.specs.declared.expr.Sign.{Sign}
use Rattle.fx_script.specs.declared.expr.Sign.TheVariants as sign
use Rattle.fx_script.specs.declared.expr.Step.{Step}
use Rattle.fx_script.specs.declared.expr.Step.TheVariants as step
use Rattle.fx_script.specs.declared.expr.Token.{Token}
use Rattle.fx_script.specs.declared.expr.Token.TheVariants as token
use Rattle.fx_script.specs.declared.refusal.Wrong.{Wrong}
use Rattle.fx_script.specs.Left.{Left}
use Rattle.fx_text.specs.Names.{is_name, is_letter, begins_with_letter, is_reserved, is_letter_or_digit}
use Rattle.fx_script.specs.Outcome.{◌>>=◌}
use Rattle.fx_script.specs.Exprs.{sign_text, words_of_level, expr_words, writable_level, is_writable_expr, joined, is_meant_as_number, operand_in, token_in, settled, taken_token, stepped, goes_on, expr_run, expr_at}
use Rattle.fx_script.specs.Fields.{misfit, number_in_word}
use Rattle.fx_script.specs.Spelling.{bytes_of}
use Rattle.fx_script.proofs.FieldLemmas.{bind_ok, ok_is, texts, Behind, number_word_found, chosen, is_text}

-- ---- the words and the conditions of each kind of expression

spelling : (x : Expr-F Expr) (e : Expr) → roll-Expr x ≡ e → expr_words e ≡ words_of_level (map-Expr Expr (List (List ℕ)) expr_words x)
spelling x e is = ap expr_words (sym is) ∙ fold-roll-Expr (List (List ℕ)) words_of_level x

writing : (x : Expr-F Expr) (e : Expr) → roll-Expr x ≡ e → is_writable_expr e ≡ writable_level (map-Expr Expr Bool is_writable_expr x)
writing x e is = ap is_writable_expr (sym is) ∙ fold-roll-Expr Bool writable_level x

pub number_words : (n : ℤ) → expr_words (expr.Number n) ≡ signed_decimal n ∷ []
number_words n = spelling (Expr-F.Number n) (expr.Number n) (expr.rolls-Number n)

pub joined_words : (s : Sign) (a b : Expr) → expr_words (joined s a b) ≡ sign_text s ∷ (expr_words a ++ expr_words b)
joined_words sign.Plus a b = spelling (Expr-F.Add a b) (expr.Add a b) (expr.rolls-Add a b)
joined_words sign.Minus a b = spelling (Expr-F.Sub a b) (expr.Sub a b) (expr.rolls-Sub a b)
joined_words sign.Times a b = spelling (Expr-F.Mul a b) (expr.Mul a b) (expr.rolls-Mul a b)

pub joined_writable : (s : Sign) (a b : Expr) → is_writable_expr (joined s a b) ≡ (is_writable_expr a && is_writable_expr b)
joined_writable sign.Plus a b = writing (Expr-F.Add a b) (expr.Add a b) (expr.rolls-Add a b)
joined_writable sign.Minus a b = writing (Expr-F.Sub a b) (expr.Sub a b) (expr.rolls-Sub a b)
joined_writable sign.Times a b = writing (Expr-F.Mul a b) (expr.Mul a b) (expr.rolls-Mul a b)

-- ---- words that spell a token are read as it

-- digits come first in the text of a number that isn't negative
digit_first : (b : ℕ) (bs : List ℕ) → IsNumeral 10 (b ∷ bs) → is_digit b ≡ true
digit_first b bs numeral =
    let range = digit_from_value b numeral.1.0 in
    and_from _ _ (le-leb 48 b range.0) (le-leb b 57 range.1)

natural_meant : (ds : List ℕ) → IsNumeral 10 ds → is_meant_as_number ds ≡ true
natural_meant [] numeral = absurd (omega (arith, numeral.0))
natural_meant (b ∷ bs) numeral = or_left (is_digit b) (eqb b 45 && ltb 0 (length bs)) (digit_first b bs numeral)

number_meant : (n : ℤ) → fits_64 n ≡ true → is_meant_as_number (signed_decimal n) ≡ true
number_meant (pos n) fits =
    let l : n < 2 ^ 63 = ltb-true n (2 ^ 63) fits in
    natural_meant (decimal n) (decimal_is_IsNumeral n (omega arith)).0
number_meant (negsuc n) fits =
    let l : n < 2 ^ 63 = ltb-true n (2 ^ 63) fits in
    rw (lt-ltb 0 (length (decimal (suc n))) (decimal_nonempty (suc n) (omega arith))) refl

-- a word that is meant as a number is no text that begins with another byte
meant_is_not : (bytes : List ℕ) (c : ℕ) (cs : List ℕ) → is_meant_as_number bytes ≡ true → is_digit c ≡ false → eqb c 45 ≡ false → bytes_eq bytes (c ∷ cs) ≡ false
meant_is_not [] c cs meant digit minus = absurd cc
meant_is_not (b ∷ bs) c cs meant digit minus = elim (cases_Bool (eqb b c)) [
  | inl t ↦
      let same : b ≡ c = eqb-true b c t in
      let no : (false || (false && ltb 0 (length bs))) ≡ true = rw (same, digit, minus) at meant in
      absurd cc
  | inr f ↦ and_left (eqb b c) (bytes_eq bs cs) f
]

-- nor is it a lone `-`
meant_is_not_minus : (bytes : List ℕ) → is_meant_as_number bytes ≡ true → bytes_eq bytes (codes "-") ≡ false
meant_is_not_minus [] meant = absurd cc
meant_is_not_minus (b ∷ []) meant = elim (cases_Bool (eqb b 45)) [
  | inl t ↦ let same : b ≡ 45 = eqb-true b 45 t in let no : false ≡ true = rw same at meant in absurd cc
  | inr f ↦ and_left (eqb b 45) true f
]
meant_is_not_minus (b ∷ c ∷ bs) meant = elim (cases_Bool (eqb b 45)) [ inl t ↦ rw t refl | inr f ↦ rw f refl ]

number_token : (c : ℕ) (n : ℤ) → fits_64 n ≡ true → token_in (record { column = c; bytes = signed_decimal n }) ≡ Ok (token.Leaf (expr.Number n))
number_token c n fits =
    let meant = number_meant n fits in
    let not = λ (d : ℕ) (ds : List ℕ) (digit : is_digit d ≡ false) (minus : eqb d 45 ≡ false). meant_is_not (signed_decimal n) d ds meant digit minus in
    rw (
      not 43 [] refl refl,
      meant_is_not_minus (signed_decimal n) meant,
      not 42 [] refl refl,
      not 105 (codes "ndex") refl refl,
      not 114 (codes "ank") refl refl,
      not 115 (codes "ize") refl refl,
      not 108 (codes "atest") refl refl,
      meant,
      number_again n fits,
    ) refl

-- a name begins with a letter, so it is no sign and no number
letter_is_not : (bytes : List ℕ) (c : ℕ) (cs : List ℕ) → begins_with_letter bytes ≡ true → is_letter c ≡ false → bytes_eq bytes (c ∷ cs) ≡ false
letter_is_not [] c cs letter other = absurd cc
letter_is_not (b ∷ bs) c cs letter other = elim (cases_Bool (eqb b c)) [
  | inl t ↦
      let same : b ≡ c = eqb-true b c t in
      let first = (and_parts (is_letter b) (list_all is_letter_or_digit bs) letter).0 in
      let no' : false ≡ true = sym other ∙ ap is_letter (sym same) ∙ first in
      absurd cc
  | inr f ↦ and_left (eqb b c) (bytes_eq bs cs) f
]

letter_not_meant : (bytes : List ℕ) → begins_with_letter bytes ≡ true → is_meant_as_number bytes ≡ false
letter_not_meant [] letter = absurd cc
letter_not_meant (b ∷ bs) letter =
    let first = (and_parts (is_letter b) (list_all is_letter_or_digit bs) letter).0 in
    let low : 97 ≤ b = leb-true 97 b (and_parts _ _ first).0 in
    rw (lt-leb b 57 (omega arith), ne_eqb b 45 (λ e. absurd (omega arith))) (grind arith)

un_not : (b : Bool) → not b ≡ true → b ≡ false
un_not true e = absurd cc
un_not false e = refl

name_token : (c : ℕ) (name : List ℕ) → is_name name ≡ true → token_in (record { column = c; bytes = name }) ≡ Ok (token.Leaf (expr.Name name))
name_token c name is =
    let index = bytes_eq name (codes "index") in
    let rank = bytes_eq name (codes "rank") in
    let size = bytes_eq name (codes "size") in
    let latest = bytes_eq name (codes "latest") in
    let p = and_parts (begins_with_letter name && leb (length name) 16) (not (is_reserved name)) is in
    let letter = (and_parts (begins_with_letter name) (leb (length name) 16) p.0).0 in
    let free : is_reserved name ≡ false = un_not (is_reserved name) p.1 in
    let a = or_parts (index || rank || size) latest free in
    let b = or_parts (index || rank) size a.0 in
    let d = or_parts index rank b.0 in
    rw (letter_is_not name 43 [] letter refl, letter_is_not name 45 [] letter refl, letter_is_not name 42 [] letter refl, d.0, d.1, b.1, a.1, letter_not_meant name letter, p.0) refl

-- ---- a token that was read is spelled by its word

abbrev pub token_words : Token → List (List ℕ)
token_words (token.Sign s) = sign_text s ∷ []
token_words token.Latest = codes "latest" ∷ []
token_words (token.Leaf e) = expr_words e

abbrev pub TokenFits : Token → Type 0
TokenFits (token.Sign s) = Unit {0}
TokenFits token.Latest = Unit {0}
TokenFits (token.Leaf e) = is_writable_expr e ≡ true

pub record IsToken (w : Word) (t : Token) : Type 0 where
  pub words : w.bytes ∷ [] ≡ token_words t
  pub fits : TokenFits t

one_word : (w : Word) (text : List ℕ) → bytes_eq w.bytes text ≡ true → w.bytes ∷ [] ≡ text ∷ []
one_word w text t = ap (λ (b : List ℕ). b ∷ []) (is_text w.bytes text t)

operand_found : (w : Word) (t : Token) → operand_in w ≡ Ok t → IsToken w t
operand_found w t e =
    elim (chosen (is_meant_as_number w.bytes) (number_in_word w >>= λ n. Ok (token.Leaf (expr.Number n))) (cond (is_name w.bytes) (Ok (token.Leaf (expr.Name w.bytes))) (Err (misfit w))) (Ok t) e) [
      | inl meant ↦
          let a = bind_ok (number_in_word w) (λ n. Ok (token.Leaf (expr.Number n))) t meant.1 in
          let number = number_word_found w a.0 a.1 in
          subst (IsToken w) (ok_is (token.Leaf (expr.Number a.0)) t a.2)
          (record { words = ap (λ (b : List ℕ). b ∷ []) number.1 ∙ sym (number_words a.0); fits = writing (Expr-F.Number a.0) (expr.Number a.0) (expr.rolls-Number a.0) ∙ number.0 })
      | inr other ↦ elim (chosen (is_name w.bytes) (Ok (token.Leaf (expr.Name w.bytes))) (Err (misfit w)) (Ok t) other.1) [
        | inl name ↦ subst (IsToken w) (ok_is (token.Leaf (expr.Name w.bytes)) t name.1)
            (record { words = sym (spelling (Expr-F.Name w.bytes) (expr.Name w.bytes) (expr.rolls-Name w.bytes)); fits = writing (Expr-F.Name w.bytes) (expr.Name w.bytes) (expr.rolls-Name w.bytes) ∙ name.0 })
        | inr wrong ↦ let none : Err (misfit w) ≡ Ok t = wrong.1 in absurd cc
      ]
    ]

abbrev leaf : Expr → Result Token Wrong
leaf e = Ok (token.Leaf e)

abbrev token_read : Token → Result Token Wrong
token_read t = Ok t

abbrev word_in : Word → Result Token Wrong
word_in w = cond (bytes_eq w.bytes (codes "index")) (Ok (token.Leaf expr.Index))
    (cond (bytes_eq w.bytes (codes "rank")) (Ok (token.Leaf expr.Rank))
    (cond (bytes_eq w.bytes (codes "size")) (Ok (token.Leaf expr.Size))
    (cond (bytes_eq w.bytes (codes "latest")) (Ok token.Latest)
    (operand_in w))))

-- a leaf of one word
leaf_token : (w : Word) (t : Token) (x : Expr-F Expr) (e : Expr) (text : List ℕ) → roll-Expr x ≡ e → words_of_level (map-Expr Expr (List (List ℕ)) expr_words x) ≡ text ∷ []
    → writable_level (map-Expr Expr Bool is_writable_expr x) ≡ true → bytes_eq w.bytes text ≡ true → leaf e ≡ token_read t → IsToken w t
leaf_token w t x e text is words fits here got =
    subst (IsToken w) (ok_is (token.Leaf e) t got)
    (record { words = one_word w text here ∙ sym words ∙ sym (spelling x e is); fits = writing x e is ∙ fits })

-- a word that is no sign
word_found : (w : Word) (t : Token) → word_in w ≡ Ok t → IsToken w t
word_found w t e =
    elim (chosen (bytes_eq w.bytes (codes "index")) _ _ (Ok t) e) [
      | inl h ↦ leaf_token w t Expr-F.Index expr.Index (codes "index") expr.rolls-Index refl refl h.0 h.1
      | inr e1 ↦ elim (chosen (bytes_eq w.bytes (codes "rank")) _ _ (Ok t) e1.1) [
        | inl h ↦ leaf_token w t Expr-F.Rank expr.Rank (codes "rank") expr.rolls-Rank refl refl h.0 h.1
        | inr e2 ↦ elim (chosen (bytes_eq w.bytes (codes "size")) _ _ (Ok t) e2.1) [
          | inl h ↦ leaf_token w t Expr-F.Size expr.Size (codes "size") expr.rolls-Size refl refl h.0 h.1
          | inr e3 ↦ elim (chosen (bytes_eq w.bytes (codes "latest")) _ _ (Ok t) e3.1) [
            | inl h ↦ subst (IsToken w) (ok_is token.Latest t h.1) (record { words = one_word w (codes "latest") h.0; fits = tt })
            | inr e4 ↦ operand_found w t e4.1
          ]
        ]
      ]
    ]

pub token_found : (w : Word) (t : Token) → token_in w ≡ Ok t → IsToken w t
token_found w t e =
    elim (chosen (bytes_eq w.bytes (codes "+")) _ _ (Ok t) e) [
      | inl h ↦ subst (IsToken w) (ok_is (token.Sign sign.Plus) t h.1) (record { words = one_word w (codes "+") h.0; fits = tt })
      | inr e1 ↦ elim (chosen (bytes_eq w.bytes (codes "-")) _ _ (Ok t) e1.1) [
        | inl h ↦ subst (IsToken w) (ok_is (token.Sign sign.Minus) t h.1) (record { words = one_word w (codes "-") h.0; fits = tt })
        | inr e2 ↦ elim (chosen (bytes_eq w.bytes (codes "*")) _ _ (Ok t) e2.1) [
          | inl h ↦ subst (IsToken w) (ok_is (token.Sign sign.Times) t h.1) (record { words = one_word w (codes "*") h.0; fits = tt })
          | inr e3 ↦ word_found w t e3.1
        ]
      ]
    ]

-- ---- signs that wait for their expressions, as words

-- the words that were read, of signs that aren't complete
abbrev pub waiting : List Pending → List (List ℕ)
waiting [] = []
waiting (pending.First s ∷ ps) = waiting ps ++ sign_text s ∷ []
waiting (pending.Second s left ∷ ps) = waiting ps ++ sign_text s ∷ expr_words left

abbrev pub WaitingFits : List Pending → Type 0
WaitingFits [] = Unit {0}
WaitingFits (pending.First s ∷ ps) = WaitingFits ps
WaitingFits (pending.Second s left ∷ ps) = (is_writable_expr left ≡ true) × WaitingFits ps

-- where a group is due, `latest` was read too
abbrev pub read_words : Bool → List Pending → List (List ℕ)
read_words false ps = waiting ps
read_words true ps = waiting ps ++ codes "latest" ∷ []

-- the words that were read, of a step
abbrev pub step_words : Step → List Pending → List (List ℕ)
step_words (step.Whole e) ps = expr_words e
step_words (step.More group) ps = read_words group ps

abbrev pub StepFits : Step → List Pending → Type 0
StepFits (step.Whole e) ps = is_writable_expr e ≡ true
StepFits (step.More group) ps = WaitingFits ps

pub settled_words : (e : Expr) (ps : List Pending) → step_words (settled e ps).0 (settled e ps).1 ≡ waiting ps ++ expr_words e
settled_words e [] = refl
settled_words e (pending.First s ∷ ps) = sym (append_assoc (waiting ps) (sign_text s ∷ []) (expr_words e))
settled_words e (pending.Second s left ∷ ps) =
    settled_words (joined s left e) ps ∙ ap (λ (l : List (List ℕ)). waiting ps ++ l) (joined_words s left e) ∙ sym (append_assoc (waiting ps) (sign_text s ∷ expr_words left) (expr_words e))

pub settled_fits : (e : Expr) (ps : List Pending) → is_writable_expr e ≡ true → WaitingFits ps → StepFits (settled e ps).0 (settled e ps).1
settled_fits e [] fits all = fits
settled_fits e (pending.First s ∷ ps) fits all = (fits, all)
settled_fits e (pending.Second s left ∷ ps) fits all =
    settled_fits (joined s left e) ps (joined_writable s left e ∙ and_from (is_writable_expr left) (is_writable_expr e) all.0 fits) all.1

-- a step adds its word
pub record Steps (group : Bool) (ps : List Pending) (w : Word) (next : Step × List Pending) : Type 0 where
  pub words : step_words next.0 next.1 ≡ read_words group ps ++ w.bytes ∷ []
  pub fits : StepFits next.0 next.1

latest_words : (n : ℤ) → expr_words (expr.Latest n) ≡ codes "latest" ∷ signed_decimal n ∷ []
latest_words n = spelling (Expr-F.Latest n) (expr.Latest n) (expr.rolls-Latest n)

token_steps : (t : Token) (ps : List Pending) (w : Word) → IsToken w t → WaitingFits ps → Steps false ps w (taken_token t ps)
token_steps (token.Sign s) ps w is all = record { words = ap (λ (l : List (List ℕ)). waiting ps ++ l) (sym is.words); fits = all }
token_steps token.Latest ps w is all = record { words = ap (λ (l : List (List ℕ)). waiting ps ++ l) (sym is.words); fits = all }
token_steps (token.Leaf e) ps w is all =
    record { words = settled_words e ps ∙ ap (λ (l : List (List ℕ)). waiting ps ++ l) (sym is.words); fits = settled_fits e ps is.fits all }

pub stepped_found : (group : Bool) (ps : List Pending) (w : Word) (next : Step × List Pending) → WaitingFits ps → stepped group ps w ≡ Ok next → Steps group ps w next
stepped_found false ps w next all e =
    let a = bind_ok (token_in w) (λ t. Ok (taken_token t ps)) next e in
    subst (Steps false ps w) (ok_is (taken_token a.0 ps) next a.2) (token_steps a.0 ps w (token_found w a.0 a.1) all)
stepped_found true ps w next all e =
    let a = bind_ok (number_in_word w) (λ group. Ok (settled (expr.Latest group) ps)) next e in
    let number = number_word_found w a.0 a.1 in
    subst (Steps true ps w) (ok_is (settled (expr.Latest a.0) ps) next a.2) (record {
      words = settled_words (expr.Latest a.0) ps ∙ ap (λ (l : List (List ℕ)). waiting ps ++ l) (latest_words a.0 ∙ ap (λ (b : List ℕ). codes "latest" ∷ b ∷ []) (sym number.1))
          ∙ sym (append_assoc (waiting ps) (codes "latest" ∷ []) (w.bytes ∷ []));
      fits = settled_fits (expr.Latest a.0) ps (writing (Expr-F.Latest a.0) (expr.Latest a.0) (expr.rolls-Latest a.0) ∙ number.0) all;
    })

-- an expression that was read, behind words that were read before
pub record ReadsExpr (before : List (List ℕ)) (left : Left) (x : Expr × Left) : Type 0 where
  pub fits : is_writable_expr x.0 ≡ true
  pub words : before ++ texts left ≡ expr_words x.0 ++ texts x.1

goes_found : (s : Step) (ps : List Pending) (left : Left) (more : Bool → Result (Expr × Left) Wrong) (x : Expr × Left) → StepFits s ps
    → ((group : Bool) → more group ≡ Ok x → WaitingFits ps → ReadsExpr (read_words group ps) left x) → goes_on s left more ≡ Ok x → ReadsExpr (step_words s ps) left x
goes_found (step.Whole e) ps left more x fits rest got =
    subst (ReadsExpr (expr_words e) left) (ok_is (e, left) x got) (record { fits = fits; words = refl })
goes_found (step.More group) ps left more x fits rest got = rest group got fits

pub expr_run_found : (ws : List Word) (past : ℕ) (group : Bool) (ps : List Pending) (x : Expr × Left) → WaitingFits ps → expr_run group ps ws past ≡ Ok x
    → ReadsExpr (read_words group ps) (record { words = ws; past = past }) x
expr_run_found [] past group ps x all e = absurd cc
expr_run_found (w ∷ ws) past group ps x all e =
    let left : Left = record { words = ws; past = past } in
    let a = bind_ok (stepped group ps w) (λ next. goes_on next.0 left (λ due. expr_run due next.1 ws past)) x e in
    let one = stepped_found group ps w a.0 all a.1 in
    let rest = goes_found a.0.0 a.0.1 left (λ due. expr_run due a.0.1 ws past) x one.fits (λ due got fits. expr_run_found ws past due a.0.1 x fits got) a.2 in
    record {
      fits = rest.fits;
      words = sym (append_assoc (read_words group ps) (w.bytes ∷ []) (texts left)) ∙ ap (λ (l : List (List ℕ)). l ++ texts left) (sym one.words) ∙ rest.words;
    }

-- an expression that was read is spelled by its words
pub expr_found : (left : Left) (x : Expr × Left) → expr_at left ≡ Ok x → (is_writable_expr x.0 ≡ true) × (texts left ≡ expr_words x.0 ++ texts x.1)
expr_found left x e = let f = expr_run_found left.words left.past false [] x tt e in (f.fits, f.words)

-- ---- words that spell an expression are read as it

-- reading goes on behind a step
abbrev pub resumed : Step × List Pending → Left → Result (Expr × Left) Wrong
resumed next left = goes_on next.0 left (λ due. expr_run due next.1 left.words left.past)

-- the words of an expression, in front of others, are read as it
pub record ReadAgain (e : Expr) (ps : List Pending) (left : Left) (rest : List (List ℕ)) : Type 0 where
  pub next : Left
  pub read : expr_run false ps left.words left.past ≡ resumed (settled e ps) next
  pub others : texts next ≡ rest

abbrev pub IsReadAgain : Expr → Type 0
IsReadAgain e = (ps : List Pending) (left : Left) (rest : List (List ℕ)) → is_writable_expr e ≡ true → texts left ≡ expr_words e ++ rest → ReadAgain e ps left rest

-- an expression of one word
leaf_again_of : (e : Expr) (text : List ℕ) (ps : List Pending) (ws : List Word) (past : ℕ) (rest : List (List ℕ)) → ((c : ℕ) → token_in (record { column = c; bytes = text }) ≡ Ok (token.Leaf e))
    → map bytes_of ws ≡ text ∷ rest → ReadAgain e ps (record { words = ws; past = past }) rest
leaf_again_of e text ps [] past rest is spelled = absurd cc
leaf_again_of e text ps (w ∷ ws) past rest is spelled =
    let same : w.bytes ≡ text = cc in
    let others : map bytes_of ws ≡ rest = cc in
    let here : token_in w ≡ Ok (token.Leaf e) = subst (λ (b : List ℕ). token_in (record { column = w.column; bytes = b }) ≡ Ok (token.Leaf e)) (sym same) (is w.column) in
    record { next = record { words = ws; past = past }; read = rw here refl; others = others }

leaf_again : (e : Expr) (text : List ℕ) → expr_words e ≡ text ∷ [] → ((c : ℕ) → token_in (record { column = c; bytes = text }) ≡ Ok (token.Leaf e)) → (ps : List Pending) (left : Left) (rest : List (List ℕ))
    → texts left ≡ expr_words e ++ rest → ReadAgain e ps left rest
leaf_again e text words is ps left rest spelled =
    leaf_again_of e text ps left.words left.past rest is (spelled ∙ ap (λ (l : List (List ℕ)). l ++ rest) words)

-- `latest` and its group
latest_again_of : (n : ℤ) (ps : List Pending) (ws : List Word) (past : ℕ) (rest : List (List ℕ)) → fits_64 n ≡ true → map bytes_of ws ≡ codes "latest" ∷ signed_decimal n ∷ rest
    → ReadAgain (expr.Latest n) ps (record { words = ws; past = past }) rest
latest_again_of n ps [] past rest fits spelled = absurd cc
latest_again_of n ps (w ∷ []) past rest fits spelled = absurd cc
latest_again_of n ps (w ∷ v ∷ ws) past rest fits spelled =
    let same : w.bytes ≡ codes "latest" = cc in
    let number : v.bytes ≡ signed_decimal n = cc in
    let others : map bytes_of ws ≡ rest = cc in
    let first : token_in w ≡ Ok token.Latest = rw same refl in
    let second : number_in_word v ≡ Ok n = rw (number, number_again n fits) refl in
    record { next = record { words = ws; past = past }; read = rw (first, second) refl; others = others }

-- a sign and two expressions
sign_token : (s : Sign) (c : ℕ) → token_in (record { column = c; bytes = sign_text s }) ≡ Ok (token.Sign s)
sign_token sign.Plus c = refl
sign_token sign.Minus c = refl
sign_token sign.Times c = refl

sign_again_of : (s : Sign) (ps : List Pending) (ws : List Word) (past : ℕ) (rest : List (List ℕ)) → map bytes_of ws ≡ sign_text s ∷ rest
    → (next : Left) × (expr_run false ps ws past ≡ expr_run false (pending.First s ∷ ps) next.words next.past) × (texts next ≡ rest)
sign_again_of s ps [] past rest spelled = absurd cc
sign_again_of s ps (w ∷ ws) past rest spelled =
    let same : w.bytes ≡ sign_text s = cc in
    let others : map bytes_of ws ≡ rest = cc in
    let here : token_in w ≡ Ok (token.Sign s) = subst (λ (b : List ℕ). token_in (record { column = w.column; bytes = b }) ≡ Ok (token.Sign s)) (sym same) (sign_token s w.column) in
    (record { words = ws; past = past }, rw here refl, others)

joined_again : (s : Sign) (a b : Expr) → IsReadAgain a → IsReadAgain b → IsReadAgain (joined s a b)
joined_again s a b first second ps left rest fits spelled =
    let parts = and_parts (is_writable_expr a) (is_writable_expr b) (sym (joined_writable s a b) ∙ fits) in
    let words : texts left ≡ sign_text s ∷ (expr_words a ++ (expr_words b ++ rest)) =
    spelled ∙ ap (λ (l : List (List ℕ)). l ++ rest) (joined_words s a b) ∙ ap (λ (l : List (List ℕ)). sign_text s ∷ l) (append_assoc (expr_words a) (expr_words b) rest) in
    let start = sign_again_of s ps left.words left.past (expr_words a ++ (expr_words b ++ rest)) words in
    let one = first (pending.First s ∷ ps) start.0 (expr_words b ++ rest) parts.0 start.2 in
    let two = second (pending.Second s a ∷ ps) one.next rest parts.1 one.others in
    record { next = two.next; read = start.1 ∙ one.read ∙ two.read; others = two.others }

again_level : (y : Expr-F ((e : Expr) × IsReadAgain e)) → IsReadAgain (roll-Expr (map-Expr ((e : Expr) × IsReadAgain e) Expr (λ t. t.0) y))
again_level (Expr-F.Number n) = subst IsReadAgain (sym (expr.rolls-Number n)) (λ ps left rest fits spelled.
    leaf_again (expr.Number n) (signed_decimal n) (number_words n) (λ c. number_token c n (sym (writing (Expr-F.Number n) (expr.Number n) (expr.rolls-Number n)) ∙ fits)) ps left rest spelled)
again_level (Expr-F.Name name) = subst IsReadAgain (sym (expr.rolls-Name name)) (λ ps left rest fits spelled.
    leaf_again (expr.Name name) name (spelling (Expr-F.Name name) (expr.Name name) (expr.rolls-Name name)) (λ c. name_token c name (sym (writing (Expr-F.Name name) (expr.Name name) (expr.rolls-Name name)) ∙ fits)) ps left rest spelled)
again_level Expr-F.Index = subst IsReadAgain (sym expr.rolls-Index) (λ ps left rest fits spelled.
    leaf_again expr.Index (codes "index") (spelling Expr-F.Index expr.Index expr.rolls-Index) (λ c. refl) ps left rest spelled)
again_level Expr-F.Rank = subst IsReadAgain (sym expr.rolls-Rank) (λ ps left rest fits spelled.
    leaf_again expr.Rank (codes "rank") (spelling Expr-F.Rank expr.Rank expr.rolls-Rank) (λ c. refl) ps left rest spelled)
again_level Expr-F.Size = subst IsReadAgain (sym expr.rolls-Size) (λ ps left rest fits spelled.
    leaf_again expr.Size (codes "size") (spelling Expr-F.Size expr.Size expr.rolls-Size) (λ c. refl) ps left rest spelled)
again_level (Expr-F.Latest n) = subst IsReadAgain (sym (expr.rolls-Latest n)) (λ ps left rest fits spelled.
    latest_again_of n ps left.words left.past rest (sym (writing (Expr-F.Latest n) (expr.Latest n) (expr.rolls-Latest n)) ∙ fits) (spelled ∙ ap (λ (l : List (List ℕ)). l ++ rest) (latest_words n)))
again_level (Expr-F.Add a b) = subst IsReadAgain (sym (expr.rolls-Add a.0 b.0)) (joined_again sign.Plus a.0 b.0 a.1 b.1)
again_level (Expr-F.Sub a b) = subst IsReadAgain (sym (expr.rolls-Sub a.0 b.0)) (joined_again sign.Minus a.0 b.0 a.1 b.1)
again_level (Expr-F.Mul a b) = subst IsReadAgain (sym (expr.rolls-Mul a.0 b.0)) (joined_again sign.Times a.0 b.0 a.1 b.1)

all_again : (e : Expr) → IsReadAgain e
all_again = ind-Expr IsReadAgain (λ x y is. subst (λ x. IsReadAgain (roll-Expr x)) is (again_level y))

pub expr_again : (left : Left) (e : Expr) (rest : List (List ℕ)) → is_writable_expr e ≡ true → texts left ≡ expr_words e ++ rest → Behind (expr_at left) e rest
expr_again left e rest fits spelled =
    let a = all_again e [] left rest fits spelled in
    record { left = a.next; read = a.read; others = a.others }
