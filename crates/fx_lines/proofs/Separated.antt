-- Words that hold no byte which parts them are the pieces of what they are joined to.
use Rattle.std.proofs.Common.{◌≡◌, ℕ, Bool, true, false, not, ◌&&◌, eqb, List, [], ◌∷◌, ◌++◌, refl, ap, ◌∙◌}
use Rattle.std.specs.List.{list_all, join_with_byte}
use Rattle.std.proofs.lemmas.Bool.{and_parts, and_from, eq-eqb}
use Rattle.fx_lines.specs.Forms.{pieces}

-- a byte that parts no words; no entries that are joined by commas either; and not the two halves of a pair either
abbrev pub no_space : ℕ → Bool
no_space b = not (eqb b 32)

abbrev pub no_comma : ℕ → Bool
no_comma b = not (eqb b 44) && no_space b

abbrev pub no_equals : ℕ → Bool
no_equals b = not (eqb b 61) && no_comma b

pub is_false : (b : Bool) → not b ≡ true → b ≡ false
is_false true h = absurd cc
is_false false h = refl

pub comma_no_space : (b : ℕ) → no_comma b ≡ true → no_space b ≡ true
comma_no_space b h = (and_parts (not (eqb b 44)) (no_space b) h).1

pub equals_no_comma : (b : ℕ) → no_equals b ≡ true → no_comma b ≡ true
equals_no_comma b h = (and_parts (not (eqb b 61)) (no_comma b) h).1

-- what each element passes
pub all_weaker : {A : Type 0} (f g : A → Bool) → ((a : A) → f a ≡ true → g a ≡ true) → (xs : List A) → list_all f xs ≡ true → list_all g xs ≡ true
all_weaker f g weaker [] h = refl
all_weaker f g weaker (x ∷ xs) h =
    let p = and_parts (f x) (list_all f xs) h in
    and_from (g x) (list_all g xs) (weaker x p.0) (all_weaker f g weaker xs p.1)

pub all_append : {A : Type 0} (f : A → Bool) (xs ys : List A) → list_all f xs ≡ true → list_all f ys ≡ true → list_all f (xs ++ ys) ≡ true
all_append f [] ys h k = k
all_append f (x ∷ xs) ys h k =
    let p = and_parts (f x) (list_all f xs) h in
    and_from (f x) (list_all f (xs ++ ys)) p.0 (all_append f xs ys p.1 k)

module _ (c : ℕ) where
  one_piece : (word : List ℕ) → list_all (λ b. not (eqb b c)) word ≡ true → pieces c word ≡ word ∷ []
  one_piece [] h = refl
  one_piece (b ∷ bs) h =
      let p = and_parts (not (eqb b c)) (list_all (λ b. not (eqb b c)) bs) h in
      rw (is_false (eqb b c) p.0, one_piece bs p.1) refl

  next_piece : (word rest : List ℕ) → list_all (λ b. not (eqb b c)) word ≡ true → pieces c (word ++ c ∷ rest) ≡ word ∷ pieces c rest
  next_piece [] rest h = rw (eq-eqb c c refl) refl
  next_piece (b ∷ bs) rest h =
      let p = and_parts (not (eqb b c)) (list_all (λ b. not (eqb b c)) bs) h in
      rw (is_false (eqb b c) p.0, next_piece bs rest p.1) refl

  -- the pieces of joined words are the words
  pub pieces_again : (word : List ℕ) (words : List (List ℕ)) → list_all (list_all (λ b. not (eqb b c))) (word ∷ words) ≡ true → pieces c (join_with_byte c (word ∷ words)) ≡ word ∷ words
  pieces_again word [] h = one_piece word (and_parts (list_all (λ b. not (eqb b c)) word) true h).0
  pieces_again word (next ∷ words) h =
      let p = and_parts (list_all (λ b. not (eqb b c)) word) (list_all (list_all (λ b. not (eqb b c))) (next ∷ words)) h in
      next_piece word (join_with_byte c (next ∷ words)) p.0 ∙ ap (λ rest. word ∷ rest) (pieces_again next words p.1)

-- joined words hold nothing but what each of them and the byte between them may
pub joined_all : (f : ℕ → Bool) (c : ℕ) → f c ≡ true → (words : List (List ℕ)) → list_all (list_all f) words ≡ true → list_all f (join_with_byte c words) ≡ true
joined_all f c between [] h = refl
joined_all f c between (word ∷ []) h = (and_parts (list_all f word) true h).0
joined_all f c between (word ∷ next ∷ words) h =
    let p = and_parts (list_all f word) (list_all (list_all f) (next ∷ words)) h in
    all_append f word (c ∷ join_with_byte c (next ∷ words)) p.0
    (and_from (f c) (list_all f (join_with_byte c (next ∷ words))) between (joined_all f c between (next ∷ words) p.1))
