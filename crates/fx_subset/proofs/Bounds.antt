-- Where the indices of blocks and of pairs end, against the length of an array.
use Rattle.std.proofs.Common.{◌≡◌, ℕ, zero, suc, ◌+◌, ◌-◌, ◌*◌, ◌<◌, ◌≤◌, Bool, true, false, IsTrue, ◌||◌, nat_lt, nat_le, None, Some, List, [], ◌∷◌, refl, sym, ap, ◌∙◌, arith}
use Rattle.std.specs.List.{list_any}
use Rattle.std.specs.FinSet as set
use Rattle.std.proofs.Math.Nat.{mul-le-mul_right}
use Rattle.std.proofs.lemmas.Bool.{or_parts}
use Rattle.std.proofs.lemmas.Bool.Decides.{nat_tests}
use Rattle.std.proofs.lemmas.List.Folds.{list_any-append}
use Rattle.fx_subset.specs.Indices.{HasIndexFrom, is_between, is_covered, blocks_of, union_of}
use Rattle.fx_subset.specs.Fault.{fault_of_blocks, fault_of_pairs}
use Rattle.fx_subset.specs.declared.fault.SubsetFault.TheVariants.{Outside}
use Rattle.fx_subset.proofs.Cover.{contains-union_of}

below_step : (first end q len : ℕ) (a : Bool) → (a ≡ true → q < len) → end < len → (a || (is_between (first, end) q || false)) ≡ true → q < len
below_step first end q len a h low e = grind (arith, nat_tests)

-- where each block ends below len, so does each index
blocks_below : (n start last stride len q : ℕ) → ((k : ℕ) → k < n → last + k * stride < len) → is_covered (blocks_of n start last stride) q ≡ true → q < len
unfolding blocks_of
blocks_below zero start last stride len q low e = absurd (cc)
blocks_below (suc n) start last stride len q low e =
    below_step (start + n * stride) (last + n * stride) q len (is_covered (blocks_of n start last stride) q)
    (blocks_below n start last stride len q (λ k h. low k (omega arith)))
    (low n (omega arith))
    (sym (list_any-append (λ interval. is_between interval q) (blocks_of n start last stride) ((start + n * stride, last + n * stride) ∷ [])) ∙ e)

end_covered : (first last : ℕ) (a : Bool) → first ≤ last → (a || (is_between (first, last) last || false)) ≡ true
end_covered first last true up = refl
end_covered first last false up = grind (arith, nat_tests)

-- the last block covers its end
last_covered : (n start last stride : ℕ) → start ≤ last → is_covered (blocks_of (suc n) start last stride) (last + n * stride) ≡ true
unfolding blocks_of
last_covered n start last stride up =
    list_any-append (λ interval. is_between interval (last + n * stride)) (blocks_of n start last stride) ((start + n * stride, last + n * stride) ∷ [])
    ∙ end_covered (start + n * stride) (last + n * stride) (is_covered (blocks_of n start last stride) (last + n * stride)) (omega arith)

blocks_inside : (len blocks start last stride : ℕ) → fault_of_blocks len blocks start last stride ≡ None → (0 < blocks) × (start ≤ last) × (last + (blocks - 1) * stride < len)
blocks_inside len blocks start last stride e = grind (arith, nat_tests)

blocks_outside : (len blocks start last stride : ℕ) → fault_of_blocks len blocks start last stride ≡ Some Outside → (0 < blocks) × (start ≤ last) × (len ≤ last + (blocks - 1) * stride)
blocks_outside len blocks start last stride e = grind (arith, nat_tests)

-- each index of blocks with no fault is below len
pub index_of_blocks : (len blocks start last stride : ℕ) (subset : set.FinSet Rattle.std.specs.Ordering.nat_cmp) → fault_of_blocks len blocks start last stride ≡ None → subset ≡ union_of (blocks_of blocks start last stride) → (index : ℕ) → IsTrue (set.contains subset index) → index < len
index_of_blocks len blocks start last stride subset none is index in_set =
    let inside = blocks_inside len blocks start last stride none in
    blocks_below blocks start last stride len index
    (λ k h. let far : k * stride ≤ (blocks - 1) * stride = mul-le-mul_right stride (omega arith) in omega (arith, far, inside))
    (sym (contains-union_of (blocks_of blocks start last stride) index) ∙ ap (λ s. set.contains s index) (sym is) ∙ in_set)

-- blocks that are outside have an index that is len or more: the end of the last
pub blocks_reach : (len blocks start last stride : ℕ) → fault_of_blocks len blocks start last stride ≡ Some Outside → HasIndexFrom len (blocks_of blocks start last stride)
blocks_reach len zero start last stride e = absurd (let some : 0 < 0 = (blocks_outside len 0 start last stride e).0 in omega arith)
blocks_reach len (suc n) start last stride e =
    let outside = blocks_outside len (suc n) start last stride e in
    let before : suc n - 1 ≡ n = omega arith in
    (last + n * stride, rw before at outside.2, last_covered n start last stride outside.1)

pairs_inside : (len : ℕ) (pairs : List (ℕ × ℕ)) → fault_of_pairs len pairs ≡ None → list_any (λ pair. nat_le len pair.1) pairs ≡ false
pairs_inside len pairs e = grind (arith, nat_tests)

pairs_outside : (len : ℕ) (pairs : List (ℕ × ℕ)) → fault_of_pairs len pairs ≡ Some Outside → (list_any (λ pair. nat_lt pair.1 pair.0) pairs ≡ false) × (list_any (λ pair. nat_le len pair.1) pairs ≡ true)
pairs_outside len pairs e = grind (arith, nat_tests)

pair_step : (len first last q : ℕ) (a : Bool) → (a ≡ true → q < len) → nat_le len last ≡ false → (is_between (first, last) q || a) ≡ true → q < len
pair_step len first last q a h low e = grind (arith, nat_tests)

pairs_below : (len : ℕ) (pairs : List (ℕ × ℕ)) (q : ℕ) → list_any (λ pair. nat_le len pair.1) pairs ≡ false → is_covered pairs q ≡ true → q < len
pairs_below len [] q low e = absurd (cc)
pairs_below len (pair ∷ pairs) q low e =
    let lows = or_parts (nat_le len pair.1) (list_any (λ pair. nat_le len pair.1) pairs) low in
    pair_step len pair.0 pair.1 q (is_covered pairs q) (pairs_below len pairs q lows.1) lows.0 e

-- each index of pairs with no fault is below len
pub index_of_pairs : (len : ℕ) (pairs : List (ℕ × ℕ)) (subset : set.FinSet Rattle.std.specs.Ordering.nat_cmp) → fault_of_pairs len pairs ≡ None → subset ≡ union_of pairs → (index : ℕ) → IsTrue (set.contains subset index) → index < len
index_of_pairs len pairs subset none is index in_set =
    pairs_below len pairs index (pairs_inside len pairs none) (sym (contains-union_of pairs index) ∙ ap (λ s. set.contains s index) (sym is) ∙ in_set)

or_true : (a b : Bool) → b ≡ true → (a || b) ≡ true
or_true true b e = refl
or_true false b e = e

pair_end : (first last : ℕ) (b : Bool) → nat_lt last first ≡ false → (is_between (first, last) last || b) ≡ true
pair_end first last b up = grind (arith, nat_tests)

le_of_test : (len last : ℕ) → nat_le len last ≡ true → len ≤ last
le_of_test len last e = grind (arith, nat_tests)

-- a pair that ends at len or later covers its end
pairs_reach_from : (len : ℕ) (pairs : List (ℕ × ℕ)) → list_any (λ pair. nat_lt pair.1 pair.0) pairs ≡ false → list_any (λ pair. nat_le len pair.1) pairs ≡ true → HasIndexFrom len pairs
pairs_reach_from len [] up e = absurd (cc)
pairs_reach_from len (pair ∷ pairs) up e =
    let ups = or_parts (nat_lt pair.1 pair.0) (list_any (λ pair. nat_lt pair.1 pair.0) pairs) up in
    elim (nat_le len pair.1) as (λ b. nat_le len pair.1 ≡ b → (b || list_any (λ pair. nat_le len pair.1) pairs) ≡ true → HasIndexFrom len (pair ∷ pairs)) [
      | true ↦ λ here _. (pair.1, le_of_test len pair.1 here, pair_end pair.0 pair.1 (is_covered pairs pair.1) ups.0)
      | false ↦ λ _ later.
          let found = pairs_reach_from len pairs ups.1 later in
          (found.0, found.1, or_true (is_between pair found.0) (is_covered pairs found.0) found.2)
    ] refl e

pub pairs_reach : (len : ℕ) (pairs : List (ℕ × ℕ)) → fault_of_pairs len pairs ≡ Some Outside → HasIndexFrom len pairs
pairs_reach len pairs e = let outside = pairs_outside len pairs e in pairs_reach_from len pairs outside.0 outside.1
