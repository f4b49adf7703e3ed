-- The indices that whole intervals cover. An interval is a pair of its first and its last index, both included.
use Rattle.std.specs.Prelude.{◌≡◌, refl, ℕ, zero, suc, ◌+◌, ◌*◌, ◌≤◌, Bool, IsTrue, ◌&&◌, nat_le, List, [], ◌∷◌, ◌++◌, length, max}
use Rattle.std.specs.List.{filter, list_any}
use Rattle.std.specs.Ordering.{nat_cmp}
use Rattle.std.specs.FinSet as set

-- whether an index lies in the interval
abbrev pub is_between : ℕ × ℕ → ℕ → Bool
is_between interval index = nat_le interval.0 index && nat_le index interval.1

-- whether one of the intervals covers the index
abbrev pub is_covered : List (ℕ × ℕ) → ℕ → Bool
is_covered intervals index = list_any (λ interval. is_between interval index) intervals

-- one of the intervals covers an index that is len or more
abbrev pub HasIndexFrom : ℕ → List (ℕ × ℕ) → Type 0
HasIndexFrom len intervals = (index : ℕ) × (len ≤ index) × IsTrue (is_covered intervals index)

-- the numbers below n, rising
unfoldable pub numbers_below : ℕ → List ℕ
numbers_below zero = []
numbers_below (suc n) = numbers_below n ++ n ∷ []

-- one more than the greatest last index: the intervals cover no index from here on
unfoldable pub reach : List (ℕ × ℕ) → ℕ
reach [] = 0
reach (interval ∷ intervals) = max (interval.1 + 1) (reach intervals)

-- the indices that one or more of the intervals cover, each once, rising
unfoldable pub indices_of : List (ℕ × ℕ) → List ℕ
indices_of intervals = filter (is_covered intervals) (numbers_below (reach intervals))

-- the union of whole intervals, as a set of indices
abbrev pub union_of : List (ℕ × ℕ) → set.FinSet nat_cmp
union_of intervals = set.from_list (indices_of intervals)

-- the first `blocks` blocks of a strided subset: block k, from 0, goes from start + k * stride to last + k * stride
unfoldable pub blocks_of : (blocks start last stride : ℕ) → List (ℕ × ℕ)
blocks_of zero start last stride = []
blocks_of (suc k) start last stride = blocks_of k start last stride ++ (start + k * stride, last + k * stride) ∷ []

-- four blocks of four indices that begin two apart cover 0 to 9
four_blocks : indices_of (blocks_of 4 0 3 2) ≡ 0 ∷ 1 ∷ 2 ∷ 3 ∷ 4 ∷ 5 ∷ 6 ∷ 7 ∷ 8 ∷ 9 ∷ []
unfolding numbers_below reach indices_of blocks_of
four_blocks = refl

-- three blocks of two indices, side by side, cover 250 to 255
three_blocks : indices_of (blocks_of 3 250 251 2) ≡ 250 ∷ 251 ∷ 252 ∷ 253 ∷ 254 ∷ 255 ∷ []
unfolding numbers_below reach indices_of blocks_of
three_blocks = refl

-- one block needs no stride
one_block : indices_of (blocks_of 1 4 4 0) ≡ 4 ∷ []
unfolding numbers_below reach indices_of blocks_of
one_block = refl

-- pairs in any order, one of which overlaps another
three_pairs : indices_of ((7, 8) ∷ (1, 2) ∷ (2, 4) ∷ []) ≡ 1 ∷ 2 ∷ 3 ∷ 4 ∷ 7 ∷ 8 ∷ []
unfolding numbers_below reach indices_of
three_pairs = refl

-- both of the first two together
sixteen_indices : length (indices_of (blocks_of 4 0 3 2 ++ blocks_of 3 250 251 2)) ≡ 16
unfolding numbers_below reach indices_of blocks_of
sixteen_indices = refl
