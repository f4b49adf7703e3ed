-- The first line of a text ends at its first byte 10, or at the end.
use Rattle.std.proofs.Common.{◌≡◌, ℕ, suc, ◌+◌, ◌-◌, ◌<◌, ◌≤◌, Bool, true, false, not, eqb, ltb, List, [], ◌∷◌, length, take, drop, get_or, Option, Some, None, refl, ap, length-drop, arith, inl, inr}
use Rattle.std.specs.List.{position, position_or_len}
use Rattle.std.proofs.Math.ListN.{drop_of_length-le}
use Rattle.std.proofs.lemmas.List.{drop-drop, take_all}
use Rattle.std.proofs.lemmas.Bool.{cases_Bool, cases_lt, lt-ltb, le-ltb, eqb-true}
use Rattle.fx_text.specs.Checks.{is_printable}
use Rattle.fx_text.specs.Lines.{in_front, lines_of, IsFirstLine}
use Rattle.fx_text.proofs.Positions.{first_within, found_at, found_nowhere, none_before, still_found}

-- the place of the first line end, or the length
abbrev pub end_of : List ℕ → ℕ
end_of text = position_or_len (λ b. eqb b 10) text

longer_ended : (b n : ℕ) (bs : List ℕ) → lines_of bs ≡ record { bytes = take n bs; ended = true } ∷ lines_of (drop (n + 1) bs)
    → in_front b (lines_of bs) ≡ record { bytes = take (1 + n) (b ∷ bs); ended = true } ∷ lines_of (drop (1 + n + 1) (b ∷ bs))
longer_ended b n bs h =
    let one : 1 + n ≡ suc n = omega arith in
    let two : suc n + 1 ≡ suc (n + 1) = omega arith in
    rw (h, one, two) refl

pub line_ended : (text : List ℕ) → end_of text < length text
    → lines_of text ≡ record { bytes = take (end_of text) text; ended = true } ∷ lines_of (drop (end_of text + 1) text)
line_ended [] l = absurd (omega arith)
line_ended (b ∷ bs) l = elim (cases_Bool (eqb b 10)) [
  | inl t ↦ rw t refl
  | inr f ↦
      let more : 1 + end_of bs < length (b ∷ bs) = rw f at l in
      rw f (longer_ended b (end_of bs) bs (line_ended bs (omega arith)))
]

pub line_open : (b : ℕ) (bs : List ℕ) → end_of (b ∷ bs) ≡ length (b ∷ bs) → lines_of (b ∷ bs) ≡ record { bytes = b ∷ bs; ended = false } ∷ []
line_open b [] e = elim (cases_Bool (eqb b 10)) [
  | inl t ↦ let none : 0 ≡ length (b ∷ []) = rw t at e in absurd (omega arith)
  | inr f ↦ rw f refl
]
line_open b (c ∷ cs) e = elim (cases_Bool (eqb b 10)) [
  | inl t ↦ let none : 0 ≡ length (b ∷ c ∷ cs) = rw t at e in absurd (omega arith)
  | inr f ↦
      let more : 1 + end_of (c ∷ cs) ≡ length (b ∷ c ∷ cs) = rw f at e in
      let rest : lines_of (c ∷ cs) ≡ record { bytes = c ∷ cs; ended = false } ∷ [] = line_open c cs (omega arith) in
      rw f (ap (in_front b) rest)
]

open_rest : (rest : List ℕ) → 0 < length rest → end_of rest ≡ length rest → lines_of rest ≡ record { bytes = rest; ended = false } ∷ []
open_rest [] l e = absurd (omega arith)
open_rest (b ∷ bs) l e = line_open b bs e

-- ---- the first line and its first bad byte, in one pass

-- a byte that isn't printable
abbrev pub is_bad : ℕ → Bool
is_bad b = not (is_printable b)

-- a line end is bad itself, so the first bad byte isn't behind it
pub bad_by_end : (text : List ℕ) → position_or_len is_bad text ≤ end_of text
bad_by_end [] = omega arith
bad_by_end (b ∷ bs) = elim (cases_Bool (eqb b 10)) [
  | inl t ↦ let ten : b ≡ 10 = eqb-true b 10 t in rw ten (omega arith)
  | inr f ↦ elim (cases_Bool (is_bad b)) [
    | inl u ↦ rw u (omega arith)
    | inr v ↦ rw (f, v) (omega (arith, bad_by_end bs))
  ]
]

-- where the first bad byte is a line end, it is the first line end
bad_is_end : (text : List ℕ) → position_or_len is_bad text < length text → get_or text (position_or_len is_bad text) 0 ≡ 10
    → end_of text ≡ position_or_len is_bad text
bad_is_end [] l e = absurd (omega (arith, l))
bad_is_end (b ∷ bs) l e = elim (cases_Bool (eqb b 10)) [
  | inl t ↦ let ten : b ≡ 10 = eqb-true b 10 t in rw ten refl
  | inr f ↦ elim (cases_Bool (is_bad b)) [
    | inl u ↦
        let ten : b ≡ 10 = rw u at e in
        let no : eqb 10 10 ≡ false = rw ten at f in
        absurd cc
    | inr v ↦
        let one : 1 + position_or_len is_bad bs ≡ suc (position_or_len is_bad bs) = omega arith in
        let less : 1 + position_or_len is_bad bs < length (b ∷ bs) = rw v at l in
        let there : get_or bs (position_or_len is_bad bs) 0 ≡ 10 = rw (v, one) at e in
        rw (f, v) (omega (arith, bad_is_end bs (omega (arith, less)) there))
  ]
]

-- where it is another byte, it stands in front of the first line end
bad_before_end : (text : List ℕ) → position_or_len is_bad text < length text → (get_or text (position_or_len is_bad text) 0 ≡ 10 → ⊥)
    → position_or_len is_bad text < end_of text
bad_before_end [] l n = absurd (omega (arith, l))
bad_before_end (b ∷ bs) l n = elim (cases_Bool (eqb b 10)) [
  | inl t ↦
      let ten : b ≡ 10 = eqb-true b 10 t in
      let no : 10 ≡ 10 → ⊥ = rw ten at n in
      absurd (no refl)
  | inr f ↦ elim (cases_Bool (is_bad b)) [
    | inl u ↦ rw (f, u) (omega arith)
    | inr v ↦
        let one : 1 + position_or_len is_bad bs ≡ suc (position_or_len is_bad bs) = omega arith in
        let less : 1 + position_or_len is_bad bs < length (b ∷ bs) = rw v at l in
        let none : get_or bs (position_or_len is_bad bs) 0 ≡ 10 → ⊥ = rw (v, one) at n in
        rw (f, v) (omega (arith, bad_before_end bs (omega (arith, less)) none))
  ]
]

-- no bad byte at all
pub all_are_good : (text : List ℕ) → position is_bad text ≡ None → length text ≡ end_of text
all_are_good text e =
    omega (arith, found_nowhere is_bad text e, bad_by_end text, first_within (λ b. eqb b 10) text)

-- the first bad byte ends the line
pub ends_there : (text : List ℕ) (place : ℕ) → position is_bad text ≡ Some place → get_or text place 0 ≡ 10
    → (place ≡ end_of text) × (None ≡ position is_bad (take place text))
ends_there text place e ten =
    let found = found_at is_bad text place e in
    let there : get_or text (position_or_len is_bad text) 0 ≡ 10 = rw found.1 ten in
    let ends = bad_is_end text (omega (arith, found.0, found.1)) there in
    let none : None ≡ position is_bad (take place text) = rw (← found.1, none_before is_bad text) refl in
    (omega (arith, ends, found.1), none)

-- the first bad byte is in the line
pub stands_within : (text : List ℕ) (place : ℕ) → position is_bad text ≡ Some place → (get_or text place 0 ≡ 10 → ⊥)
    → Some place ≡ position is_bad (take (end_of text) text)
stands_within text place e other =
    let found = found_at is_bad text place e in
    let none : get_or text (position_or_len is_bad text) 0 ≡ 10 → ⊥ = rw found.1 other in
    let less = bad_before_end text (omega (arith, found.0, found.1)) none in
    rw (still_found is_bad (end_of text) text less (first_within (λ b. eqb b 10) text), found.1) refl

-- ---- the span

-- a first line with its line end
ended_line : (text : List ℕ) (from len : ℕ) (bad : Option ℕ) → from ≤ length text → len ≡ end_of (drop from text) → len < length (drop from text)
    → bad ≡ position is_bad (take len (drop from text))
    → IsFirstLine text from record { from = from; to = from + len; ended = true; bad = bad }
ended_line text from len bad l e m b =
    let full = length-drop from text in
    let long : (from + len) - from ≡ len = omega arith in
    let next : from + (len + 1) ≡ from + len + 1 = omega arith in
    let lines = line_ended (drop from text) (omega (arith, e, m)) in
    record {
      starts = refl;
      forward = omega arith;
      within = omega (arith, m, full);
      ended_within = λ _. omega (arith, m, full);
      bad = rw long b;
      lines = rw (long, ← next, ← drop-drop (len + 1) from text, e) lines;
    }

-- a last line without it
open_line : (text : List ℕ) (from len : ℕ) (bad : Option ℕ) → from < length text → len ≡ end_of (drop from text) → length (drop from text) ≤ len
    → bad ≡ position is_bad (take len (drop from text))
    → IsFirstLine text from record { from = from; to = from + len; ended = false; bad = bad }
open_line text from len bad l e m b =
    let full = length-drop from text in
    let short = first_within (λ b. eqb b 10) (drop from text) in
    let long : (from + len) - from ≡ len = omega arith in
    let all : take len (drop from text) ≡ drop from text = take_all len (drop from text) m in
    let past : drop (from + len + 1) text ≡ [] = drop_of_length-le text (omega (arith, m, full)) in
    record {
      starts = refl;
      forward = omega arith;
      within = omega (arith, e, short, full);
      ended_within = λ no. absurd cc;
      bad = rw long b;
      lines = rw (long, all, past) (open_rest (drop from text) (omega (arith, l, full)) (omega (arith, e, short, m)));
    }

pub first_line_is : (text : List ℕ) (from len : ℕ) (bad : Option ℕ) → from < length text → len ≡ end_of (drop from text)
    → bad ≡ position is_bad (take len (drop from text))
    → IsFirstLine text from record { from = from; to = from + len; ended = ltb len (length (drop from text)); bad = bad }
first_line_is text from len bad l e b = elim (cases_lt len (length (drop from text))) [
  | inl m ↦ rw (lt-ltb _ _ m) (ended_line text from len bad (omega (arith, l)) e m b)
  | inr g ↦ rw (le-ltb _ _ g) (open_line text from len bad l e g b)
]
