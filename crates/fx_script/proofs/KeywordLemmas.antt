-- A keyword is found among those that begin with the word's first letter.
use Rattle.std.proofs.Common.{◌≡◌, ℕ, Bool, true, List, [], ◌∷◌, refl, inl, inr, arith}
use Rattle.std.specs.List.{filter, find}
use Rattle.std.proofs.lemmas.Bool.{cases_Bool}
use Rattle.fx_script.specs.declared.keyword.Keyword.{Keyword}
use Rattle.fx_script.specs.Keywords.{keyword_text, keywords, begins_with, stands_for, keyword_of}
use Rattle.fx_script.proofs.FieldLemmas.{is_text}

-- what is looked for passes the test, so it is the same among those that pass
find_among : {X : Type 0} (p q : X → Bool) (xs : List X) → ((x : X) → p x ≡ true → q x ≡ true) → find p (filter q xs) ≡ find p xs
find_among p q [] passes = refl
find_among p q (x ∷ xs) passes = elim (cases_Bool (p x)) [
  | inl t ↦ rw (t, passes x t, t) refl
  | inr f ↦ elim (cases_Bool (q x)) [
    | inl in_it ↦ rw (f, in_it, f) (find_among p q xs passes)
    | inr out ↦ rw (f, out) (find_among p q xs passes)
  ]
]

begins : (first : ℕ) (rest : List ℕ) (keyword : Keyword) → stands_for (first ∷ rest) keyword ≡ true → begins_with first keyword ≡ true
begins first rest keyword fits = rw (← is_text (first ∷ rest) (keyword_text keyword) fits) (grind arith)

pub found_by_first : (first : ℕ) (rest : List ℕ) → find (stands_for (first ∷ rest)) (filter (begins_with first) keywords) ≡ keyword_of (first ∷ rest)
found_by_first first rest = find_among (stands_for (first ∷ rest)) (begins_with first) keywords (begins first rest)
