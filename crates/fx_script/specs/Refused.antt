-- Where a text is refused: how far another text must agree with it to be refused too.
use Rattle.std.specs.Prelude.{◌≡◌, ℕ, zero, suc, ◌+◌, ◌-◌, not, ◌||◌, ◌==◌, nat_lt, if◌then◌else◌, List, [], ◌∷◌, ◌++◌, take, drop, codes, Option, Some, None, IfSome, refl}
use Rattle.fx_base.specs.declared.spot.Spot.{Spot}
use Rattle.std.specs.List.{AllByRecursion}
use Rattle.fx_text.specs.Checks.{is_printable}
use Rattle.fx_text.specs.Lines.{Line, lines_of}
use Rattle.fx_script.specs.declared.job.Job.{Job}
use Rattle.fx_script.specs.declared.refusal.JobFault.TheVariants.{BadLine}
use Rattle.fx_script.specs.Reading.{Refusal}
use Rattle.fx_script.specs.SaidLines.{met_from, IsEndedLine, IsSound}
use Rattle.fx_script.specs.Spelling.{AreLines, job_entries, IsWritable, Spells}

-- how many bytes stand up to and with so many line ends
abbrev pub behind_ends : List ℕ → ℕ → ℕ
behind_ends [] n = 0
behind_ends (b ∷ bs) zero = 0
behind_ends (b ∷ bs) (suc n) = 1 + (if b == 10 then behind_ends bs n else behind_ends bs (suc n))

-- how many bytes stand in front of a spot
abbrev pub in_front_of : List ℕ → Spot → ℕ
in_front_of text spot = behind_ends text (spot.line - 1) + (spot.column - 1)

-- the bytes of the word that begins here, and the one behind it, which is a space or isn't printable; the end of the text counts as one
abbrev pub word_and_end : List ℕ → ℕ
word_and_end [] = 1
word_and_end (b ∷ bs) = if b == 32 || not (is_printable b) then 1 else 1 + word_and_end bs

-- the bytes that are refused at this column: one past the limit of a line alone, else a word and what ends it
abbrev pub refused_bytes : ℕ → List ℕ → ℕ
refused_bytes column rest = if nat_lt 1024 column then 1 else word_and_end rest

-- how many bytes stand up to and with the refused ones
abbrev pub refused_through : List ℕ → Refusal → ℕ
refused_through text r = in_front_of text r.spot + refused_bytes r.spot.column (drop (in_front_of text r.spot) text)

-- some text that agrees with this one on so many bytes spells a job
pub record GoesOnBehind (text : List ℕ) (n : ℕ) : Type 0 where
  pub other : List ℕ
  pub job : Job
  pub spelled : Spells other job
  pub same : take n other ≡ take n text

-- the line at this place, the first at 0
abbrev pub line_at : List Line → ℕ → Option Line
line_at [] n = None
line_at (l ∷ ls) zero = Some l
line_at (l ∷ ls) (suc n) = line_at ls n

-- the line of a refusal is sound, or the text has no such line
abbrev pub IsRefusedForWords : List ℕ → Refusal → Type 0
IsRefusedForWords text r = IfSome (line_at (lines_of text) (r.spot.line - 1)) IsSound

-- a text spells a job but for the length of its lines
pub record SpellsAtLength (text : List ℕ) (job : Job) : Type 0 where
  pub writable : IsWritable job
  pub ended : AllByRecursion IsEndedLine (lines_of text)
  pub lines : AreLines (met_from 1 (lines_of text)) (job_entries job)

-- some text that agrees with this one on so many bytes does
pub record GoesOnAtLength (text : List ℕ) (n : ℕ) : Type 0 where
  pub other : List ℕ
  pub job : Job
  pub spelled : SpellsAtLength other job
  pub same : take n other ≡ take n text

-- in `fenix 1` and `ranks x ..` the word `x` is refused: 8 bytes of the first line and 6 of the second stand in front of it, and one ends it
through_a_word : refused_through (codes "fenix 1" ++ (10 ∷ (codes "ranks x y" ++ 10 ∷ []))) (record { fault = BadLine; spot = record { line = 2; column = 7 } }) ≡ 16
through_a_word = refl
