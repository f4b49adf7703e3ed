-- Words that are put together of pieces.
use Rattle.std.specs.Prelude.{◌≡◌, ℕ, List, [], ◌∷◌, ◌++◌, Option, Some, None}
use Rattle.std.specs.Borrow.{Bor}
use Rattle.fx_lines.specs.Forms.{pieces}

-- pieces, each behind a byte
abbrev pub each_behind : ℕ → List (List ℕ) → List ℕ
each_behind byte [] = []
each_behind byte (piece ∷ pieces) = (byte ∷ piece) ++ each_behind byte pieces

-- the pieces of what is left, if anything is
abbrev pub pieces_left : ℕ → Option (Bor (List ℕ)) → List (List ℕ)
pieces_left byte None = []
pieces_left byte (Some rest) = pieces byte rest.now

-- the two parts of a word, or it doesn't have exactly two
abbrev pub IsPair : Option (Bor (List ℕ) × Bor (List ℕ)) → List ℕ → Type 0
IsPair (Some parts) word = pieces 61 word ≡ parts.0.now ∷ parts.1.now ∷ []
IsPair None word = (first second : List ℕ) → pieces 61 word ≡ first ∷ second ∷ [] → ⊥
