-- What is done to the snapshots of a store, as done to its parts.
use Rattle.std.proofs.Common.{◌≡◌, refl, sym, ap, ◌∙◌, ℕ, ℤ, pos, zero, suc, ◌+◌, ◌-◌, ◌<◌, ◌≤◌, ◌+ℤ◌, ◌<ℤ◌, List, [], ◌∷◌, ◌++◌, length, take, drop, Option, Some, None, slice_get, arith}
use Rattle.std.specs.Prelude.{FitsSigned}
use Rattle.std.specs.Int.{w64, cast_signed, cast_unsigned}
use Rattle.std.specs.List.{remove}
use Rattle.std.specs.Ordering.{nat_cmp}
use Rattle.std.specs.FinMap.{empty, get}
use Rattle.std.specs.FinSet.{FinSet}
use Rattle.std.specs.Option.{option_or}
use Rattle.std.proofs.lemmas.Int.{to_z-of_z, ints}
use Rattle.std.proofs.lemmas.List.{take-append-le, drop-append-le, take-append-drop}
use Rattle.std.proofs.lemmas.Option.{slice_get_within}
use Rattle.fx_base.specs.Bounds.{HasIndicesBelow256}
use Rattle.fx_base.specs.declared.names.Stamp.{Stamp}
use Rattle.fx_base.specs.declared.snapshot.Snapshot.{Snapshot}
use Rattle.fx_base.specs.declared.sparse.Sparse.{Sparse}
use Rattle.fx_store.specs.Store.{Store, Stamped, later, free_stamp, newest, newest_stamp, committing, closing, deleting, without, put_over, IsSound}
use Rattle.fx_store.proofs.Overlays.{get-put_over}
use Rattle.fx_store.proofs.Sounds.{removed_is}
use Rattle.fx_snap.specs.Stores.{store_of}

take_whole : {X : Type 0} (xs : List X) → take (length xs) xs ≡ xs
take_whole [] = refl
take_whole (x ∷ xs) = ap (λ ys. x ∷ ys) (take_whole xs)

drop_whole : {X : Type 0} (xs : List X) → drop (length xs) xs ≡ []
drop_whole [] = refl
drop_whole (x ∷ xs) = drop_whole xs

pub next_later : (next : ℤ) → FitsSigned w64 next → next <ℤ pos 9223372036854775807 → cast_signed w64 (cast_unsigned w64 (cast_signed w64 (cast_unsigned w64 next) +ℤ pos 1)) ≡ next +ℤ pos 1
next_later next fits below =
    let more : FitsSigned w64 (next +ℤ pos 1) = omega (arith, ints) in
    ap (λ z. cast_signed w64 (cast_unsigned w64 (z +ℤ pos 1))) (to_z-of_z w64 next fits) ∙ to_z-of_z w64 (next +ℤ pos 1) more

module _ (pending : Snapshot) (items : List Stamped) (closed : ℕ) (attached : FinSet nat_cmp) (next : Stamp) (depth : ℕ) (within : closed ≤ length items) where
  abbrev whole : Store
  whole = store_of pending items closed attached next depth

  pub parts_committing : store_of empty (items ++ (next, pending) ∷ []) closed attached (later next 1) depth ≡ committing whole
  parts_committing =
      (λ i. record {
        pending = empty;
        tentative = drop-append-le closed items ((next, pending) ∷ []) within i;
        kept = take-append-le closed items ((next, pending) ∷ []) within i;
        attached = attached;
        next = later next 1;
        depth = depth;
      })

  pub parts_closing : store_of pending (newest (depth + 1) items) (length (newest (depth + 1) items)) attached next depth ≡ closing whole
  parts_closing =
      let all : take closed items ++ drop closed items ≡ items = take-append-drop closed items in
      (λ i. record {
        pending = pending;
        tentative = drop_whole (newest (depth + 1) items) i;
        kept = (take_whole (newest (depth + 1) items) ∙ ap (newest (depth + 1)) (sym all)) i;
        attached = attached;
        next = next;
        depth = depth;
      })

take_of_removed : {X : Type 0} (xs : List X) (at n : ℕ) → at < n → n ≤ length xs → take (n - 1) (remove xs at) ≡ remove (take n xs) at
take_of_removed xs at zero lt le = absurd (omega (arith, lt))
take_of_removed [] at (suc n) lt le = absurd (omega (arith, le))
take_of_removed (x ∷ xs) zero (suc n) lt le = let same : suc n - 1 ≡ n = omega arith in ap (λ k. take k xs) same
take_of_removed (x ∷ xs) (suc at) (suc n) lt le =
    let more = take_of_removed xs at n (omega (arith, lt)) (omega (arith, le)) in
    let same : suc n - 1 ≡ suc (n - 1) = omega (arith, lt) in
    ap (λ k. take k (x ∷ remove xs at)) same ∙ ap (λ ys. x ∷ ys) more

drop_of_removed : {X : Type 0} (xs : List X) (at n : ℕ) → at < n → n ≤ length xs → drop (n - 1) (remove xs at) ≡ drop n xs
drop_of_removed xs at zero lt le = absurd (omega (arith, lt))
drop_of_removed [] at (suc n) lt le = absurd (omega (arith, le))
drop_of_removed (x ∷ xs) zero (suc n) lt le = let same : suc n - 1 ≡ n = omega arith in ap (λ k. drop k xs) same
drop_of_removed (x ∷ xs) (suc at) (suc n) lt le =
    let more = drop_of_removed xs at n (omega (arith, lt)) (omega (arith, le)) in
    let same : suc n - 1 ≡ suc (n - 1) = omega (arith, lt) in
    ap (λ k. drop k (x ∷ remove xs at)) same ∙ more

length_of_removed : {X : Type 0} (xs : List X) (at : ℕ) → at < length xs → length (remove xs at) + 1 ≡ length xs
length_of_removed [] at lt = absurd (omega (arith, lt))
length_of_removed (x ∷ xs) zero lt = omega arith
length_of_removed (x ∷ xs) (suc at) lt = let more = length_of_removed xs at (omega (arith, lt)) in omega (arith, more)

length_of_taken : {X : Type 0} (xs : List X) (n : ℕ) → n ≤ length xs → length (take n xs) ≡ n
length_of_taken xs zero le = refl
length_of_taken [] (suc n) le = absurd (omega (arith, le))
length_of_taken (x ∷ xs) (suc n) le = ap suc (length_of_taken xs n (omega (arith, le)))

-- an entry of the stamp among the closed ones is taken out
pub record TakenOut (pending : Snapshot) (items : List Stamped) (closed : ℕ) (attached : FinSet nat_cmp) (next : Stamp) (depth : ℕ) (stamp : Stamp) (at : ℕ) : Type 0 where
  pub among : at < closed
  pub left : closed - 1 ≤ length (remove items at)
  pub deleted : store_of pending (remove items at) (closed - 1) attached next depth ≡ deleting stamp (store_of pending items closed attached next depth)

pub taken_out : (pending : Snapshot) (items : List Stamped) (closed : ℕ) (attached : FinSet nat_cmp) (next : Stamp) (depth : ℕ) (stamp : Stamp) (at : ℕ) (e : Stamped)
    → closed ≤ length items → IsSound (store_of pending items closed attached next depth) → slice_get (take closed items) at ≡ Some e → e.0 ≡ stamp → TakenOut pending items closed attached next depth stamp at
taken_out pending items closed attached next depth stamp at e within sound is same =
    let lt : at < length (take closed items) = slice_get_within (take closed items) at e is in
    let among : at < closed = omega (arith, lt, length_of_taken items closed within) in
    let kept : take (closed - 1) (remove items at) ≡ without stamp (take closed items) =
    take_of_removed items at closed among within ∙ sym (removed_is stamp (take closed items) at e (bound) sound.rise is same) in
    record {
      among = among;
      left = omega (arith, length_of_removed items at (omega (arith, among, within)), among, within);
      deleted = (λ i. record { pending = pending; tentative = drop_of_removed items at closed among within i; kept = kept i; attached = attached; next = next; depth = depth });
    }
  where
    bound : Stamp
    bound = free_stamp (store_of pending items closed attached next depth)

-- ---- lists

pub newest_without_first : {X : Type 0} (n : ℕ) (xs : List X) → n < length xs → newest n (remove xs 0) ≡ newest n xs
newest_without_first n [] lt = absurd (omega (arith, lt))
newest_without_first n (x ∷ xs) lt =
    let same : suc (length xs) - n ≡ suc (length xs - n) = omega (arith, lt) in
    ap (λ k. drop k (x ∷ xs)) (sym same)

pub newest_of_few : {X : Type 0} (n : ℕ) (xs : List X) → length xs ≤ n → newest n xs ≡ xs
newest_of_few n xs le = let none : length xs - n ≡ 0 = omega (arith, le) in ap (λ k. drop k xs) none

pub newest_is_last : (es : List Stamped) (e : Stamped) → slice_get es (length es - 1) ≡ Some e → newest_stamp es ≡ Some e.0
newest_is_last [] e is = absurd cc
newest_is_last (x ∷ []) e is = let same : x ≡ e = cc in ap (λ (y : Stamped). Some y.0) same
newest_is_last (x ∷ y ∷ es) e is =
    newest_is_last (y ∷ es) e
    (let same : suc (suc (length es)) - 1 ≡ suc (suc (length es) - 1) = omega arith in ap (slice_get (x ∷ y ∷ es)) (sym same) ∙ is)

-- the elements of an overlay have the indices of both
pub over_below : (piece old : Sparse) → HasIndicesBelow256 piece → HasIndicesBelow256 old → HasIndicesBelow256 (put_over piece old)
over_below piece old a b q x is = go (get piece q) refl (sym (get-put_over piece old q) ∙ is)
  where
    go : (o : Option ℤ) → get piece q ≡ o → option_or o (get old q) ≡ Some x → q < 256
    go None e found = b q x found
    go (Some y) e found = a q y e
