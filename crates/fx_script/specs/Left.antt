-- The words of a line that are still to be read.
use Rattle.std.specs.Prelude.{ℕ, List}
use Rattle.fx_text.specs.Words.{Word}

-- the words, and the column past the end of their line
pub record Left : Type 0 where
  pub words : List Word
  pub past : ℕ
