-- What a store stores is what its subset gathers.
use Rattle.std.proofs.Common.{◌≡◌, ℕ, ◌+◌, ◌<◌, ◌≤◌, List, [], ◌∷◌, length, map, refl, ap, ◌∙◌, arith}
use Rattle.std.specs.Prelude.{ℤ, if◌then◌else◌}
use Rattle.std.specs.FinMap as finite
use Rattle.std.specs.FinSet as set
use Rattle.std.specs.Ordering.{nat_cmp}
use Rattle.std.proofs.lemmas.Bool.Decides.{nat_tests}
use Rattle.fx_script.specs.declared.job.Picked.{Picked}
use Rattle.fx_script.specs.declared.job.Picked.TheVariants as picked
use Rattle.fx_subset.specs.Elements.{chosen_from, gathered}
use Rattle.fx_subset.specs.Indices.{blocks_of, numbers_below, union_of}
use Rattle.fx_subset.proofs.Cover.{contains-numbers_below, contains-union_of}
use Rattle.fx_check.specs.Rules.{count_of, pair_of}
use Rattle.fx_walk.specs.Walk.{is_picked, picked_from, stored}

chosen_alike : (p : Picked) (indices : set.FinSet nat_cmp) (at : ℕ) (elements : List ℤ) → ((i : ℕ) → i < at + length elements → set.contains indices i ≡ is_picked p i)
    → chosen_from (set.contains indices) at elements ≡ picked_from p at elements
chosen_alike p indices at [] same = refl
chosen_alike p indices at (element ∷ elements) same =
    ap (λ b. if b then (at, element) ∷ chosen_from (set.contains indices) (at + 1) elements else chosen_from (set.contains indices) (at + 1) elements) (same at (omega arith))
    ∙ ap (λ (l : List (ℕ × ℤ)). if is_picked p at then (at, element) ∷ l else l) (chosen_alike p indices (at + 1) elements (λ i within. same i (omega arith)))

-- a set that contains exactly the indices of an array that a store names
pub gathered-stored : (p : Picked) (indices : set.FinSet nat_cmp) (elements : List ℤ) → ((i : ℕ) → i < length elements → set.contains indices i ≡ is_picked p i)
    → gathered indices elements ≡ stored p elements
gathered-stored p indices elements same = ap finite.from_sorted (chosen_alike p indices 0 elements (λ i within. same i (omega arith)))

-- the four kinds of subsets

pub gathered-full : (len : ℕ) (elements : List ℤ) → length elements ≤ len → gathered (set.from_list (numbers_below len)) elements ≡ stored picked.Full elements
gathered-full len elements long =
    gathered-stored picked.Full (set.from_list (numbers_below len)) elements (λ i within. contains-numbers_below len i ∙ grind (arith, nat_tests))

pub gathered-empty : (elements : List ℤ) → gathered set.empty elements ≡ stored picked.Empty elements
gathered-empty elements = gathered-stored picked.Empty set.empty elements (λ i within. set.contains-empty nat_cmp i)

pub gathered-strided : (blocks start last stride : ℤ) (elements : List ℤ)
    → gathered (union_of (blocks_of (count_of blocks) (count_of start) (count_of last) (count_of stride))) elements ≡ stored (picked.Strided blocks start last stride) elements
gathered-strided blocks start last stride elements =
    gathered-stored (picked.Strided blocks start last stride) (union_of (blocks_of (count_of blocks) (count_of start) (count_of last) (count_of stride))) elements
    (λ i within. contains-union_of (blocks_of (count_of blocks) (count_of start) (count_of last) (count_of stride)) i)

pub gathered-ranges : (pairs : List (ℤ × ℤ)) (elements : List ℤ) → gathered (union_of (map pair_of pairs)) elements ≡ stored (picked.Ranges pairs) elements
gathered-ranges pairs elements = gathered-stored (picked.Ranges pairs) (union_of (map pair_of pairs)) elements (λ i within. contains-union_of (map pair_of pairs) i)
