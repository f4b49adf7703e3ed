-- Sets of processes, as the bits of a number, and as the list of their members.
use Rattle.std.specs.Prelude.{◌≡◌, ℕ, ◌+◌, ◌^◌, ◌<◌, ◌≤◌, zero, suc, Bool, true, cond, ◌==◌, ◌||◌, List, [], ◌∷◌, ◌++◌, refl}
use Rattle.std.specs.Int.{bit_at}
use Rattle.std.specs.Ordering.{nat_cmp}
use Rattle.std.specs.FinSet.{FinSet, empty, insert, contains}

-- the set of the numbers below n that pass the test
unfoldable pub set_below : (ℕ → Bool) → ℕ → FinSet nat_cmp
set_below has zero = empty
set_below has (suc n) = cond (has n) (insert (set_below has n) n) (set_below has n)

-- the numbers below n that pass the test, in rising order
unfoldable pub those_below : (ℕ → Bool) → ℕ → List ℕ
those_below has zero = []
those_below has (suc n) = those_below has n ++ cond (has n) (n ∷ []) []

-- whether a number has a bit at a place
abbrev pub has_bit : ℕ → ℕ → Bool
has_bit bits m = bit_at bits m == 1

-- the number that has a bit at each place below n that passes the test
unfoldable pub number_with : (ℕ → Bool) → ℕ → ℕ
number_with has zero = 0
number_with has (suc n) = number_with has n + cond (has n) (2 ^ n) 0

-- the least member of a set
abbrev pub IsLeastOf : FinSet nat_cmp → ℕ → Type 0
IsLeastOf set n = (contains set n ≡ true) × ((m : ℕ) → contains set m ≡ true → n ≤ m)

-- each member is below the bound
abbrev pub IsBelow : ℕ → FinSet nat_cmp → Type 0
IsBelow bound set = (m : ℕ) → contains set m ≡ true → m < bound

-- the members of a set of processes, in rising order
abbrev pub members_of : FinSet nat_cmp → List ℕ
members_of set = those_below (contains set) 32

-- the numbers 0, 3 and 4 as bits, and from bits as a list

as_bits : number_with (λ n. n == 0 || (n == 3 || n == 4)) 32 ≡ 25
unfolding number_with
as_bits = refl

as_list : those_below (has_bit 25) 32 ≡ 0 ∷ 3 ∷ 4 ∷ []
unfolding those_below
as_list = refl
