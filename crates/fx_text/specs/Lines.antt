-- The lines of a text.
use Rattle.std.specs.Prelude.{◌≡◌, ℕ, ◌+◌, ◌≤◌, Bool, true, false, ◌==◌, not, if◌then◌else◌, List, [], ◌∷◌, length, drop, refl}
use Rattle.std.specs.List.{position, slice_range}
use Rattle.fx_text.specs.Checks.{is_printable}
use Rattle.fx_text.specs.declared.line.LineSpan.{LineSpan}

-- a line: its bytes without its line end, and whether it has one
pub record Line : Type 0 where
  pub bytes : List ℕ
  pub ended : Bool

-- a byte in front of the lines of the rest
abbrev pub in_front : ℕ → List Line → List Line
in_front b [] = record { bytes = b ∷ []; ended = false } ∷ []
in_front b (l ∷ ls) = record l { bytes = b ∷ l.bytes } ∷ ls

-- the lines of a text: each ends at a byte 10, but for a last one without it
abbrev pub lines_of : List ℕ → List Line
lines_of [] = []
lines_of (b ∷ bs) = if b == 10 then record { bytes = []; ended = true } ∷ lines_of bs else in_front b (lines_of bs)

-- a span holds the first line of the text from there on, with its first bad byte, and the other lines follow it
pub record IsFirstLine (text : List ℕ) (from : ℕ) (line : LineSpan) : Type 0 where
  pub starts : line.from ≡ from
  pub forward : from ≤ line.to
  pub within : line.to ≤ length text
  pub ended_within : line.ended ≡ true → line.to + 1 ≤ length text
  pub bad : line.bad ≡ position (λ b. not (is_printable b)) (slice_range text from line.to)
  pub lines : lines_of (drop from text) ≡ record { bytes = slice_range text from line.to; ended = line.ended } ∷ lines_of (drop (line.to + 1) text)

-- `ab`, an empty line, and `c` without its line end
three_lines : lines_of (97 ∷ 98 ∷ 10 ∷ 10 ∷ 99 ∷ [])
    ≡ record { bytes = 97 ∷ 98 ∷ []; ended = true } ∷ record { bytes = []; ended = true } ∷ record { bytes = 99 ∷ []; ended = false } ∷ []
three_lines = refl
