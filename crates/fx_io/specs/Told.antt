-- What a source or a sink tells of its bytes: all of them, or nothing. No call changes whether it tells.
use Rattle.std.specs.Prelude.{◌≡◌, ℕ, List, [], ◌++◌, Option, Some, None}

-- these bytes are gone from the front of what was left
abbrev pub Loses : Option (List ℕ) → Option (List ℕ) → List ℕ → Type 0
Loses None None bytes = Unit {0}
Loses None (Some new) bytes = ⊥
Loses (Some old) None bytes = ⊥
Loses (Some old) (Some new) bytes = old ≡ bytes ++ new

-- nothing is left
abbrev pub IsAtEnd : Option (List ℕ) → Type 0
IsAtEnd None = Unit {0}
IsAtEnd (Some left) = left ≡ []

-- these bytes, and nothing else, were added at the end of what was written
abbrev pub Gains : Option (List ℕ) → Option (List ℕ) → List ℕ → Type 0
Gains None None bytes = Unit {0}
Gains None (Some new) bytes = ⊥
Gains (Some old) None bytes = ⊥
Gains (Some old) (Some new) bytes = new ≡ old ++ bytes

-- a front of these bytes, and nothing else, was added
abbrev pub GainsFront : Option (List ℕ) → Option (List ℕ) → List ℕ → Type 0
GainsFront old new bytes = (front rest : List ℕ) × (bytes ≡ front ++ rest) × Gains old new front
