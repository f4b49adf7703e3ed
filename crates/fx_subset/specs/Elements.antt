-- Elements of an array at some of its indices: taken out, and put back.
use Rattle.std.specs.Prelude.{◌≡◌, refl, ℕ, ◌+◌, ◌==◌, ℤ, pos, Bool, true, false, if◌then◌else◌, List, [], ◌∷◌, Option, None, Some}
use Rattle.std.specs.Ordering.{nat_cmp}
use Rattle.std.specs.FinMap as finite
use Rattle.std.specs.FinSet as set

-- the indices from this one on that pass a test, each with its element, rising
abbrev pub chosen_from : (ℕ → Bool) → ℕ → List ℤ → List (ℕ × ℤ)
chosen_from is_chosen i [] = []
chosen_from is_chosen i (element ∷ elements) = if is_chosen i then (i, element) ∷ chosen_from is_chosen (i + 1) elements else chosen_from is_chosen (i + 1) elements

-- the elements of an array at the indices of a set
abbrev pub gathered : set.FinSet nat_cmp → List ℤ → finite.FinMap nat_cmp ℤ
gathered indices elements = finite.from_sorted (chosen_from (set.contains indices) 0 elements)

-- what stands at an index, where something else may be put there
abbrev pub put_over : ℤ → Option ℤ → ℤ
put_over old None = old
put_over old (Some element) = element

-- elements that stand from this index on, with what a look-up finds put over them
abbrev pub laid_from : (ℕ → Option ℤ) → ℕ → List ℤ → List ℤ
laid_from found i [] = []
laid_from found i (old ∷ olds) = put_over old (found i) ∷ laid_from found (i + 1) olds

-- an array with the elements of a map at exactly its indices
abbrev pub scattered : finite.FinMap nat_cmp ℤ → List ℤ → List ℤ
scattered elements olds = laid_from (finite.get elements) 0 olds

-- ---- index by index

-- an element that is there, where the index is chosen
abbrev pub if_chosen : Bool → Option ℤ → Option ℤ
if_chosen true element = element
if_chosen false element = None

-- what a map has at an index, where an element may have been put there
abbrev pub put_if : Bool → Option ℤ → Option ℤ → Option ℤ
put_if true (Some element) old = Some element
put_if true None old = old
put_if false element old = old

-- ---- rows

-- of three elements the one at index 1
middle : chosen_from (λ i. i == 1) 0 (pos 7 ∷ pos 8 ∷ pos 9 ∷ []) ≡ (1, pos 8) ∷ []
middle = refl

-- and 5 put over it
over_middle : laid_from (λ i. if i == 1 then Some (pos 5) else None) 0 (pos 7 ∷ pos 8 ∷ pos 9 ∷ []) ≡ pos 7 ∷ pos 5 ∷ pos 9 ∷ []
over_middle = refl
