-- Whole arrays of numbers, index by index.
use Rattle.std.specs.Prelude.{◌≡◌, refl, ℕ, zero, suc, ◌+◌, ℤ, pos, List, [], ◌∷◌}
use Rattle.std.specs.Int.{w64, int_wrapping_add, int_wrapping_sub, int_wrapping_mul}

-- so many whole numbers from one on
abbrev pub numbers_from : ℕ → ℕ → List ℤ
numbers_from i zero = []
numbers_from i (suc n) = pos i ∷ numbers_from (i + 1) n

-- the first so many elements, 0 in the place of those that aren't there
abbrev pub padded : ℕ → List ℤ → List ℤ
padded zero elements = []
padded (suc n) [] = pos 0 ∷ padded n []
padded (suc n) (element ∷ elements) = element ∷ padded n elements

-- two columns joined index by index, as far as both go
abbrev pub paired : (ℤ → ℤ → ℤ) → List ℤ → List ℤ → List ℤ
paired op [] right = []
paired op (a ∷ left) [] = []
paired op (a ∷ left) (b ∷ right) = op a b ∷ paired op left right

abbrev pub sums : List ℤ → List ℤ → List ℤ
sums = paired (int_wrapping_add w64)

abbrev pub differences : List ℤ → List ℤ → List ℤ
differences = paired (int_wrapping_sub w64)

abbrev pub products : List ℤ → List ℤ → List ℤ
products = paired (int_wrapping_mul w64)

-- ---- rows

three_from_five : numbers_from 5 3 ≡ pos 5 ∷ pos 6 ∷ pos 7 ∷ []
three_from_five = refl

one_is_missing : padded 3 (pos 8 ∷ pos 9 ∷ []) ≡ pos 8 ∷ pos 9 ∷ pos 0 ∷ []
one_is_missing = refl

two_differences : differences (pos 8 ∷ pos 9 ∷ []) (pos 1 ∷ pos 2 ∷ []) ≡ pos 7 ∷ pos 7 ∷ []
two_differences = refl
