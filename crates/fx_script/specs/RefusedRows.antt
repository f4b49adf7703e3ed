-- Worked rows: where texts are refused, and how much of each is refused with it, by computation.
use Rattle.std.specs.Prelude.{◌≡◌, ℕ, zero, suc, List, [], ◌∷◌, ◌++◌, codes, refl}
use Rattle.fx_script.specs.declared.refusal.JobFault.TheVariants.{NotAscii, LineTooLong, BadLine}
use Rattle.fx_script.specs.Reading.{job_in}
use Rattle.fx_script.specs.Refused.{refused_through}
use Rattle.fx_script.specs.Rows.{text, at, refused}

-- so many times the same
abbrev pub times : {X : Type 0} → ℕ → List X → List X
times zero xs = []
times (suc n) xs = xs ++ times n xs

-- behind `ranks` a number is missing, in front of the line end
abbrev pub without_number : List ℕ
without_number = text (codes "fenix 1" ∷ codes "ranks" ∷ codes "spares 0" ∷ [])

pub a_missing_word : job_in without_number ≡ refused BadLine 2 6
a_missing_word = refl

pub through_a_missing_word : refused_through without_number (record { fault = BadLine; spot = at 2 6 }) ≡ 14
through_a_missing_word = refl

-- a last line without its end: the end of the text is refused
abbrev pub without_end : List ℕ
without_end = text (codes "fenix 1" ∷ []) ++ codes "ranks 1"

pub an_unended_line : job_in without_end ≡ refused BadLine 2 8
an_unended_line = refl

pub through_an_unended_line : refused_through without_end (record { fault = BadLine; spot = at 2 8 }) ≡ 16
through_an_unended_line = refl

-- a tabulator comes before the words in front of it
abbrev pub with_tabulator : List ℕ
with_tabulator = text (codes "fenix 1" ∷ (codes "ranks x" ++ (9 ∷ codes "1")) ∷ [])

pub a_bad_byte : job_in with_tabulator ≡ refused NotAscii 2 8
a_bad_byte = refl

pub through_a_bad_byte : refused_through with_tabulator (record { fault = NotAscii; spot = at 2 8 }) ≡ 16
through_a_bad_byte = refl

-- one word more than the line has, with the byte behind it
abbrev pub with_a_word_more : List ℕ
with_a_word_more = text (codes "fenix 1 more words" ∷ [])

pub a_word_too_many : job_in with_a_word_more ≡ refused BadLine 1 9
a_word_too_many = refl

pub through_a_word_too_many : refused_through with_a_word_more (record { fault = BadLine; spot = at 1 9 }) ≡ 13
through_a_word_too_many = refl

-- a comment of 1,025 bytes is refused at the last of them
abbrev pub with_a_long_line : List ℕ
with_a_long_line = text (codes "fenix 1" ∷ times 1025 (codes "#") ∷ [])

pub a_long_line : job_in with_a_long_line ≡ refused LineTooLong 2 1025
a_long_line = refl

pub through_a_long_line : refused_through with_a_long_line (record { fault = LineTooLong; spot = at 2 1025 }) ≡ 1033
through_a_long_line = refl

-- 64 blocks are open, and the line behind them opens one more
abbrev pub with_65_blocks : List ℕ
with_65_blocks = text (codes "fenix 1" ∷ codes "ranks 1" ∷ codes "spares 0" ∷ codes "separation 1" ∷ codes "begin" ∷ times 65 (codes "when initial" ∷ []))

pub a_65th_block : job_in with_65_blocks ≡ refused BadLine 70 1
a_65th_block = refl
