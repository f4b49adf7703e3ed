-- The first word of a line begins at its first byte that is no space, and goes on to the next space.
use Rattle.std.proofs.Common.{◌≡◌, ℕ, suc, ◌+◌, ◌-◌, ◌<◌, true, false, not, eqb, List, [], ◌∷◌, length, take, drop, Some, refl, sym, ap, ◌∙◌, length-drop, arith, inl, inr}
use Rattle.std.specs.List.{position, position_or_len}
use Rattle.std.proofs.lemmas.List.{drop-drop}
use Rattle.std.proofs.lemmas.Bool.{cases_Bool}
use Rattle.fx_text.specs.Words.{begins_word, words_from, IsFirstWord}
use Rattle.fx_text.proofs.Positions.{first_within, found_at}

-- the place of the first byte that is no space, and of the first space, or the length
abbrev pub letter_of : List ℕ → ℕ
letter_of line = position_or_len (λ b. not (eqb b 32)) line

abbrev pub space_of : List ℕ → ℕ
space_of line = position_or_len (λ b. eqb b 32) line

-- nothing but spaces
pub no_word : (c : ℕ) (line : List ℕ) → letter_of line ≡ length line → words_from c line ≡ []
no_word c [] e = refl
no_word c (b ∷ bs) e = elim (cases_Bool (eqb b 32)) [
  | inl t ↦ let more : 1 + letter_of bs ≡ length (b ∷ bs) = rw t at e in rw t (no_word (c + 1) bs (omega arith))
  | inr f ↦ let none : 0 ≡ length (b ∷ bs) = rw f at e in absurd (omega arith)
]

-- the spaces in front are passed over
pub spaces_passed : (c : ℕ) (line : List ℕ) → letter_of line < length line
    → (begins_word (drop (letter_of line) line) ≡ true) × (words_from c line ≡ words_from (c + letter_of line) (drop (letter_of line) line))
spaces_passed c [] l = absurd (omega arith)
spaces_passed c (b ∷ bs) l = elim (cases_Bool (eqb b 32)) [
  | inl t ↦
      let more : 1 + letter_of bs < length (b ∷ bs) = rw t at l in
      let rest = spaces_passed (c + 1) bs (omega arith) in
      let one : 1 + letter_of bs ≡ suc (letter_of bs) = omega arith in
      let two : c + 1 + letter_of bs ≡ c + suc (letter_of bs) = omega arith in
      rw (t, one, ← two) rest
  | inr f ↦
      let zero : c + 0 ≡ c = omega arith in
      rw (f, zero) (rw f refl, rw f refl)
]

-- no word goes on here, so the next space is here too
pub no_letter : (line : List ℕ) → begins_word line ≡ false → space_of line ≡ 0
no_letter [] h = refl
no_letter (b ∷ bs) h = elim (cases_Bool (eqb b 32)) [
  | inl t ↦ rw t refl
  | inr f ↦ let no : true ≡ false = rw f at h in absurd cc
]

-- a word that begins here goes on to the next space
pub word_taken : (c : ℕ) (line : List ℕ) → begins_word line ≡ true
    → (0 < space_of line)
    × (words_from c line ≡ record { column = c; bytes = take (space_of line) line } ∷ words_from (c + space_of line) (drop (space_of line) line))
word_taken c [] h = absurd cc
word_taken c (b ∷ bs) h =
    elim (cases_Bool (eqb b 32)) [
      | inl t ↦ let no : false ≡ true = rw t at h in absurd cc
      | inr f ↦ elim (cases_Bool (begins_word bs)) [
        | inl goes ↦
            let rest = word_taken (c + 1) bs goes in
            let one : 1 + space_of bs ≡ suc (space_of bs) = omega arith in
            let two : c + 1 + space_of bs ≡ c + suc (space_of bs) = omega arith in
            rw (f, goes, one, rest.1, two) (omega arith, refl)
        | inr ends ↦
            let none : space_of bs ≡ 0 = no_letter bs ends in
            rw (f, ends, none) (omega arith, refl)
      ]
    ]

-- the first word where its first letter was found
pub first_word : (line : List ℕ) (from i n : ℕ) → position (λ b. not (eqb b 32)) (drop from line) ≡ Some i → n ≡ space_of (drop (from + i) line)
    → IsFirstWord line from record { from = from + i; to = from + i + n }
first_word line from i n e is =
    let found = found_at (λ b. not (eqb b 32)) (drop from line) i e in
    let passed = spaces_passed (from + 1) (drop from line) (omega (arith, found.0, found.1)) in
    let at : drop (letter_of (drop from line)) (drop from line) ≡ drop (from + i) line = ap (λ (k : ℕ). drop k (drop from line)) found.1 ∙ drop-drop i from line in
    let here : begins_word (drop (from + i) line) ≡ true = ap begins_word (sym at) ∙ passed.0 in
    let column : from + 1 + letter_of (drop from line) ≡ from + i + 1 = omega (arith, found.1) in
    let taken = word_taken (from + i + 1) (drop (from + i) line) here in
    let long : (from + i + n) - (from + i) ≡ n = omega arith in
    let after : from + i + 1 + n ≡ from + i + n + 1 = omega arith in
    record {
      starts = omega arith;
      forward = omega (arith, taken.0, is);
      within = omega (arith, found.0, length-drop from line, length-drop (from + i) line, first_within (λ b. eqb b 32) (drop (from + i) line), is);
      words = rw (long, passed.1, at, column, ← after, ← drop-drop n (from + i) line) (rw (← is) at taken.1);
    }
