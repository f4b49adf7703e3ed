-- The words of a line.
use Rattle.std.specs.Prelude.{◌≡◌, ℕ, ◌+◌, ◌<◌, ◌≤◌, Bool, false, not, ◌==◌, if◌then◌else◌, List, [], ◌∷◌, length, drop, refl}
use Rattle.std.specs.List.{slice_range}
use Rattle.fx_text.specs.declared.word.Span.{Span}

-- a word of a line, and the column of its first byte, from 1
pub record Word : Type 0 where
  pub column : ℕ
  pub bytes : List ℕ

-- a word begins here
abbrev pub begins_word : List ℕ → Bool
begins_word [] = false
begins_word (b ∷ bs) = not (b == 32)

-- a byte at this column in front of the word that goes on, and of the others
abbrev pub longer : ℕ → ℕ → List Word → List Word
longer column b [] = record { column = column; bytes = b ∷ [] } ∷ []
longer column b (w ∷ ws) = record { column = column; bytes = b ∷ w.bytes } ∷ ws

-- the words of a line, or of its part from this column on: they are parted by spaces
abbrev pub words_from : ℕ → List ℕ → List Word
words_from column [] = []
words_from column (b ∷ bs) = if b == 32 then words_from (column + 1) bs
    else (if begins_word bs then longer column b (words_from (column + 1) bs)
    else record { column = column; bytes = b ∷ [] } ∷ words_from (column + 1) bs)

-- the words of a whole line
abbrev pub words_of : List ℕ → List Word
words_of line = words_from 1 line

-- a span holds the first word of the line from there on, and the other words follow it
pub record IsFirstWord (line : List ℕ) (from : ℕ) (word : Span) : Type 0 where
  pub starts : from ≤ word.from
  pub forward : word.from < word.to
  pub within : word.to ≤ length line
  pub words : words_from (from + 1) (drop from line)
      ≡ record { column = word.from + 1; bytes = slice_range line word.from word.to } ∷ words_from (word.to + 1) (drop word.to line)

-- ` ab c ` has two words, at columns 2 and 5
two_words : words_of (32 ∷ 97 ∷ 98 ∷ 32 ∷ 99 ∷ 32 ∷ [])
    ≡ record { column = 2; bytes = 97 ∷ 98 ∷ [] } ∷ record { column = 5; bytes = 99 ∷ [] } ∷ []
two_words = refl
