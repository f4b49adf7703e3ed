-- A line is sound exactly where nothing is wrong with it; and the lines of a text are its bytes.
use Rattle.std.proofs.Common.{◌≡◌, ℕ, ◌+◌, ◌≤◌, Bool, true, false, not, eqb, ltb, List, [], ◌∷◌, length, Option, Some, None, Result, Ok, Err, refl, ap, ◌∙◌, arith, inl, inr}
use Rattle.std.specs.List.{list_all, position, position_or_len}
use Rattle.std.proofs.lemmas.Bool.{cases_Bool, and_from, and_parts, not_from_false, ltb-false, le-ltb, eqb-true}
use Rattle.fx_text.specs.declared.check.LineFault.{LineFault}
use Rattle.fx_text.specs.declared.check.LineFault.TheVariants as line_fault
use Rattle.fx_text.specs.Checks.{is_printable, fault_at, checked}
use Rattle.fx_text.specs.Lines.{Line, in_front, lines_of}
use Rattle.fx_text.proofs.Positions.{found_nowhere}
use Rattle.fx_script.specs.Reading.{soundness, sound}
use Rattle.fx_script.specs.SaidLines.{lines_joined, has_no_end, AreTextLines, IsSound}

-- ---- lines that pass their check

-- where no byte is unprintable, each is printable
abbrev is_unprintable : ℕ → Bool
is_unprintable b = not (is_printable b)

none_unprintable : (line : List ℕ) → position_or_len is_unprintable line ≡ length line → list_all is_printable line ≡ true
none_unprintable [] e = refl
none_unprintable (b ∷ bs) e = elim (cases_Bool (is_printable b)) [
  | inl t ↦ let more : 1 + position_or_len is_unprintable bs ≡ length (b ∷ bs) = rw t at e in rw t (none_unprintable bs (omega arith))
  | inr f ↦ let none : 0 ≡ length (b ∷ bs) = rw f at e in absurd (omega arith)
]

-- a line that passes is printable, and not too long
fault_parts : (line : List ℕ) (o : Option ℕ) → position is_unprintable line ≡ o → fault_at o (length line) ≡ Ok tt → (list_all is_printable line ≡ true) × (length line ≤ 1024)
fault_parts line None is e = elim (cases_Bool (ltb 1024 (length line))) [
  | inl t ↦ let long = rw t at e in absurd cc
  | inr f ↦ (none_unprintable line (found_nowhere is_unprintable line is), ltb-false 1024 (length line) f)
]
fault_parts line (Some place) is e = absurd cc

pub checked_parts : (line : List ℕ) → checked line ≡ Ok tt → (list_all is_printable line ≡ true) × (length line ≤ 1024)
checked_parts line e = fault_parts line (position is_unprintable line) refl e

-- a printable line that is not too long passes
all_printable : (line : List ℕ) → list_all is_printable line ≡ true → position_or_len is_unprintable line ≡ length line
all_printable [] e = refl
all_printable (b ∷ bs) e =
    let parts = and_parts (is_printable b) (list_all is_printable bs) e in
    rw parts.0 (omega (arith, all_printable bs parts.1))

pub checked_from : (line : List ℕ) → list_all is_printable line ≡ true → length line ≤ 1024 → checked line ≡ Ok tt
checked_from line printable short =
    let none : position is_unprintable line ≡ None = rw (le-ltb (position_or_len is_unprintable line) (length line) (omega (arith, all_printable line printable))) refl in
    rw (none, le-ltb 1024 (length line) short) refl

-- ---- sound lines

-- nothing is wrong with a line that passes and has its line end
sound_parts : (r : Result (Unit {0}) LineFault) (ended : Bool) (past : ℕ) → soundness r ended past ≡ Ok tt → (r ≡ Ok tt) × (ended ≡ true)
sound_parts (Ok fine) true past e = (refl, refl)
sound_parts (Ok fine) false past e = absurd cc
sound_parts (Err (line_fault.NotAscii column)) ended past e = absurd cc
sound_parts (Err line_fault.TooLong) ended past e = absurd cc

pub is_sound : (l : Line) → sound l ≡ Ok tt → IsSound l
is_sound l e =
    let parts = sound_parts (checked l.bytes) l.ended (length l.bytes + 1) e in
    let fine = checked_parts l.bytes parts.0 in
    record { printable = fine.0; short = fine.1; ended = parts.1 }

pub sound_passes : (l : Line) → IsSound l → sound l ≡ Ok tt
sound_passes l s = rw (checked_from l.bytes s.printable s.short, s.ended) refl

-- ---- the bytes of lines

-- a byte that is no line end, in front of lines
front_joined : (b : ℕ) (ls : List Line) → lines_joined (in_front b ls) ≡ b ∷ lines_joined ls
front_joined b [] = refl
front_joined b (l ∷ ls) = refl

pub text_is_lines : (text : List ℕ) → lines_joined (lines_of text) ≡ text
text_is_lines [] = refl
text_is_lines (b ∷ bs) = elim (cases_Bool (eqb b 10)) [
  | inl t ↦ rw (t, eqb-true b 10 t) (ap (λ (l : List ℕ). 10 ∷ l) (text_is_lines bs))
  | inr f ↦ rw f (front_joined b (lines_of bs) ∙ ap (λ (l : List ℕ). b ∷ l) (text_is_lines bs))
]

-- a line of a text in front of others
ended_on : (bytes : List ℕ) (ls : List Line) → has_no_end bytes ≡ true → AreTextLines ls → AreTextLines (record { bytes = bytes; ended = true } ∷ ls)
ended_on bytes [] free rest = (free, λ open_line. absurd cc)
ended_on bytes (l ∷ ls) free rest = (free, refl, rest)

front_on : (b : ℕ) (ls : List Line) → eqb b 10 ≡ false → AreTextLines ls → AreTextLines (in_front b ls)
front_on b [] free rest = (and_from (not (eqb b 10)) true (not_from_false (eqb b 10) free) refl, λ open_line none. absurd cc)
front_on b (l ∷ []) free rest = (and_from (not (eqb b 10)) (has_no_end l.bytes) (not_from_false (eqb b 10) free) rest.0, λ open_line none. absurd cc)
front_on b (l ∷ m ∷ ls) free rest = (and_from (not (eqb b 10)) (has_no_end l.bytes) (not_from_false (eqb b 10) free) rest.0, rest.1, rest.2)

pub are_text_lines : (text : List ℕ) → AreTextLines (lines_of text)
are_text_lines [] = tt
are_text_lines (b ∷ bs) = elim (cases_Bool (eqb b 10)) [
  | inl t ↦ rw t (ended_on [] (lines_of bs) refl (are_text_lines bs))
  | inr f ↦ rw f (front_on b (lines_of bs) f (are_text_lines bs))
]
