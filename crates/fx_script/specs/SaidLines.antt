-- The lines of a text: which are sound, which say nothing, and what the others have.
use Rattle.std.specs.Prelude.{◌≡◌, ℕ, ◌+◌, ◌≤◌, Bool, true, false, not, ◌==◌, if◌then◌else◌, List, [], ◌∷◌, ◌++◌, length, codes, Option, Some, None, refl}
use Rattle.std.specs.List.{list_all}
use Rattle.fx_base.specs.declared.spot.Spot.{Spot}
use Rattle.fx_text.specs.Checks.{is_printable}
use Rattle.fx_text.specs.Lines.{Line, lines_of}
use Rattle.fx_text.specs.Words.{Word, words_of}
use Rattle.fx_script.specs.Comments.{is_comment}
use Rattle.fx_script.specs.Left.{Left}

-- ---- lines of bytes

-- the bytes of a line, its line end too
abbrev pub whole_line : Line → List ℕ
whole_line l = l.bytes ++ (if l.ended then 10 ∷ [] else [])

-- the bytes of lines, one line after another
abbrev pub lines_joined : List Line → List ℕ
lines_joined [] = []
lines_joined (l ∷ ls) = whole_line l ++ lines_joined ls

-- no line end stands among these bytes
abbrev pub has_no_end : List ℕ → Bool
has_no_end bytes = list_all (λ b. not (b == 10)) bytes

-- lines as a text has them: no line end stands within one, and each has its own, but for a last one that has bytes
abbrev pub AreTextLines : List Line → Type 0
AreTextLines [] = Unit {0}
AreTextLines (l ∷ []) = (has_no_end l.bytes ≡ true) × (l.ended ≡ false → l.bytes ≡ [] → ⊥)
AreTextLines (l ∷ ls) = (has_no_end l.bytes ≡ true) × (l.ended ≡ true) × AreTextLines ls

-- a line whose bytes are printable, and which has its line end
pub record IsEndedLine (line : Line) : Type 0 where
  pub printable : list_all is_printable line.bytes ≡ true
  pub ended : line.ended ≡ true

-- a sound line: it has at most 1,024 bytes besides
pub record IsSound (line : Line) : Type 0 where
  pub printable : list_all is_printable line.bytes ≡ true
  pub short : length line.bytes ≤ 1024
  pub ended : line.ended ≡ true

-- ---- lines of words

-- a line says nothing: it has no word, or its first word begins with `#`
abbrev pub says_nothing : List Word → Bool
says_nothing [] = true
says_nothing (w ∷ ws) = is_comment w

-- a line that says something: its number, its first word, and the words behind it
pub record Met : Type 0 where
  pub number : ℕ
  pub first : Word
  pub left : Left

-- what is met in a line with these words, whose end is one before this column
abbrev pub met_of : ℕ → ℕ → List Word → Option Met
met_of number past [] = None
met_of number past (w ∷ ws) = if is_comment w then None else Some (record { number = number; first = w; left = record { words = ws; past = past } })

-- what is met in a line
abbrev pub met_in : ℕ → List ℕ → Option Met
met_in number line = met_of number (length line + 1) (words_of line)

-- the spot of a line: that of its first word
abbrev pub spot_of : Met → Spot
spot_of m = record { line = m.number; column = m.first.column }

-- the lines from this number on that say something
abbrev pub if_met : Option Met → List Met → List Met
if_met None ms = ms
if_met (Some m) ms = m ∷ ms

abbrev pub met_from : ℕ → List Line → List Met
met_from number [] = []
met_from number (l ∷ ls) = if_met (met_in number l.bytes) (met_from (number + 1) ls)

-- of a comment, a line of spaces and ` stop x` the third says something, and is met as line 3, with its first word at column 2
third_line : met_from 1 (lines_of (codes "# stop" ++ (10 ∷ (codes "  " ++ (10 ∷ (codes " stop x" ++ 10 ∷ []))))))
    ≡ record { number = 3; first = record { column = 2; bytes = codes "stop" }; left = record { words = record { column = 7; bytes = codes "x" } ∷ []; past = 8 } } ∷ []
third_line = refl

-- the bytes of a text are those of its lines
two_lines : lines_joined (lines_of (codes "end" ++ (10 ∷ codes "stop"))) ≡ codes "end" ++ (10 ∷ codes "stop")
two_lines = refl
