-- What the code's next word is.
use Rattle.std.specs.Prelude.{◌≡◌, ◌∷◌, Result, Ok, Err}
use Rattle.fx_text.specs.Words.{Word}
use Rattle.fx_script.specs.declared.cursor.FoundWord.{FoundWord}
use Rattle.fx_script.specs.declared.refusal.Wrong.{Wrong}
use Rattle.fx_script.specs.Left.{Left}
use Rattle.fx_script.specs.Fields.{due}

-- the first of the words, and the others are left
abbrev pub word_of : FoundWord → Word
word_of word = record { column = word.column; bytes = word.bytes.now }

pub record IsNext (word : FoundWord) (old new : Left) : Type 0 where
  pub words : old.words ≡ word_of word ∷ new.words
  pub past : new.past ≡ old.past

-- the word that is due, or that it is missing
abbrev pub IsDue : Result FoundWord Wrong → Left → Left → Type 0
IsDue (Ok word) old new = due old ≡ Ok (word_of word, new)
IsDue (Err wrong) old new = due old ≡ Err wrong
