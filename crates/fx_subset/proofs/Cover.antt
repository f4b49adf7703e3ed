-- What the sets of whole intervals contain, and when two of them are equal.
use Rattle.std.proofs.Common.{◌≡◌, ℕ, zero, suc, ◌+◌, ◌-◌, ◌<◌, max, Bool, true, false, ◌&&◌, ◌||◌, nat_eq, nat_lt, nat_le, List, [], ◌∷◌, ◌++◌, refl, sym, ap, ◌∙◌, arith}
use Rattle.std.specs.List.{list_any}
use Rattle.std.specs.Ordering.{nat_cmp}
use Rattle.std.specs.Cmp.{nat_cmp_total}
use Rattle.std.specs.FinSet as set
use Rattle.std.proofs.lemmas.Bool.Decides.{nat_tests}
use Rattle.std.proofs.lemmas.Bool.{eqb-true}
use Rattle.std.proofs.lemmas.List.Folds.{list_any-append}
use Rattle.std.proofs.lemmas.Map.Views.{any-filter_same}
use Rattle.fx_subset.specs.Indices.{is_between, is_covered, numbers_below, reach, indices_of, union_of}

numbers_step : (q n : ℕ) → (nat_lt q n || (nat_eq n q || false)) ≡ nat_lt q (suc n)
numbers_step q n = grind (arith, nat_tests)

nothing_below : (q : ℕ) → false ≡ nat_lt q 0
nothing_below q = grind (arith, nat_tests)

-- the numbers below n are those
pub any_number : (n q : ℕ) → list_any (λ y. nat_eq y q) (numbers_below n) ≡ nat_lt q n
unfolding numbers_below
any_number zero q = nothing_below q
any_number (suc n) q =
    list_any-append (λ y. nat_eq y q) (numbers_below n) (n ∷ [])
    ∙ ap (λ b. b || (nat_eq n q || false)) (any_number n q)
    ∙ numbers_step q n

reach_step : (first last q r : ℕ) (b : Bool) → (b ≡ true → nat_lt q r ≡ true) → ((nat_le first q && nat_le q last) || b) ≡ true → nat_lt q (max (last + 1) r) ≡ true
reach_step first last q r b h e = grind (arith, nat_tests)

-- no index is covered from the reach on
covered_below_reach : (intervals : List (ℕ × ℕ)) (q : ℕ) → is_covered intervals q ≡ true → nat_lt q (reach intervals) ≡ true
unfolding reach
covered_below_reach [] q e = cc
covered_below_reach (interval ∷ intervals) q e =
    reach_step interval.0 interval.1 q (reach intervals) (is_covered intervals q) (covered_below_reach intervals q) e

both_or_none : (a b : Bool) → (a ≡ true → b ≡ true) → (a && b) ≡ a
both_or_none true b h = h refl
both_or_none false b h = refl

any_index : (intervals : List (ℕ × ℕ)) (q : ℕ) → list_any (λ y. nat_eq y q) (indices_of intervals) ≡ is_covered intervals q
unfolding indices_of
any_index intervals q =
    any-filter_same (λ y. nat_eq y q) (is_covered intervals) (is_covered intervals q) (λ k e. ap (is_covered intervals) (eqb-true k q e)) (numbers_below (reach intervals))
    ∙ ap (λ b. is_covered intervals q && b) (any_number (reach intervals) q)
    ∙ both_or_none (is_covered intervals q) (nat_lt q (reach intervals)) (covered_below_reach intervals q)

-- the union of intervals contains exactly what one of them covers
pub contains-union_of : (intervals : List (ℕ × ℕ)) (q : ℕ) → set.contains (union_of intervals) q ≡ is_covered intervals q
contains-union_of intervals q = set.contains-from_list_nat (indices_of intervals) q ∙ any_index intervals q

pub contains-numbers_below : (n q : ℕ) → set.contains (set.from_list {R = nat_cmp} (numbers_below n)) q ≡ nat_lt q n
contains-numbers_below n q = set.contains-from_list_nat (numbers_below n) q ∙ any_number n q

-- intervals that cover the same indices have one union
pub same_union : (xs ys : List (ℕ × ℕ)) → ((q : ℕ) → is_covered xs q ≡ is_covered ys q) → union_of xs ≡ union_of ys
same_union xs ys same = set.same_set nat_cmp_total set.nat_cmp-IsAntisymmetric _ _ (λ q. contains-union_of xs q ∙ same q ∙ sym (contains-union_of ys q))

-- the union of two lists' unions is that of both lists
pub union_of-append : (xs ys : List (ℕ × ℕ)) → union_of (xs ++ ys) ≡ set.union (union_of xs) (union_of ys)
union_of-append xs ys =
    set.same_set nat_cmp_total set.nat_cmp-IsAntisymmetric _ _
    (λ q.
    contains-union_of (xs ++ ys) q
    ∙ list_any-append (λ interval. is_between interval q) xs ys
    ∙ ap (λ b. b || is_covered ys q) (sym (contains-union_of xs q))
    ∙ ap (λ b. set.contains (union_of xs) q || b) (sym (contains-union_of ys q))
    ∙ sym (set.contains-union nat_cmp_total (union_of xs) (union_of ys) q))

pub union_of-none : union_of [] ≡ set.empty
unfolding indices_of reach numbers_below
union_of-none = refl

whole_step : (len q : ℕ) → 0 < len → ((nat_le 0 q && nat_le q (len - 1)) || false) ≡ nat_lt q len
whole_step len q h = grind (arith, nat_tests)

-- one interval from 0 to the last index is the whole of an array
pub union_of-whole : (len : ℕ) → 0 < len → union_of ((0, len - 1) ∷ []) ≡ set.from_list (numbers_below len)
union_of-whole len h =
    set.same_set nat_cmp_total set.nat_cmp-IsAntisymmetric _ _
    (λ q. contains-union_of ((0, len - 1) ∷ []) q ∙ whole_step len q h ∙ sym (contains-numbers_below len q))
