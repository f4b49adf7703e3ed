-- All snapshots of a store can be packed, and each call leaves it so.
use Rattle.std.proofs.Common.{◌≡◌, refl, sym, ap, ◌∙◌, ℕ, zero, suc, ◌<◌, Bool, true, false, not, cond, ◌&&◌, List, [], ◌∷◌, ◌++◌, drop, Option, Some, None}
use Rattle.std.specs.Prelude.{nat_lt, unwrap_or}
use Rattle.std.specs.List.{list_all, filter}
use Rattle.std.specs.Ordering.{nat_cmp, eq_by_cmp}
use Rattle.std.specs.Cmp.{IsTotalOrder, nat_cmp_total}
use Rattle.std.specs.FinMap.{FinMap, find, put, entries, insert, empty, get, get-entries, from_entries, entries-insert}
use Rattle.std.specs.declared.cmp.Ordering.{Ordering}
use Rattle.std.specs.declared.cmp.Ordering.TheVariants.{Less, Equal, Greater}
use Rattle.std.proofs.lemmas.Bool.{lt-ltb, and_parts, and_from}
use Rattle.fx_base.specs.Keys.{by_number, by_number_total, by_time}
use Rattle.fx_base.specs.declared.names.MemberId.{MemberId}
use Rattle.fx_base.specs.declared.names.Stamp.{Stamp}
use Rattle.fx_base.specs.declared.sparse.Sparse.{Sparse}
use Rattle.fx_store.specs.Packable.{IsPackable, have_spellings, elements_fit}
use Rattle.fx_store.specs.Packed.{has_spelling, is_element}
use Rattle.fx_store.specs.Store.{Store, Stamped, new_store, attaching, storing, committing, closing, promoting, discarding, deleting, put_over, pending_of}
use Rattle.fx_store.proofs.Overlays.{entries-empty}

-- ---- lists

all_append : {X : Type 0} (p : X → Bool) (a b : List X) → list_all p a ≡ true → list_all p b ≡ true → list_all p (a ++ b) ≡ true
all_append p [] b all more = more
all_append p (x ∷ a) b all more = let both = and_parts (p x) (list_all p a) all in and_from (p x) (list_all p (a ++ b)) both.0 (all_append p a b both.1 more)

all_drop : {X : Type 0} (p : X → Bool) (n : ℕ) (a : List X) → list_all p a ≡ true → list_all p (drop n a) ≡ true
all_drop p zero a all = all
all_drop p (suc n) [] all = refl
all_drop p (suc n) (x ∷ a) all = all_drop p n a (and_parts (p x) (list_all p a) all).1

all_filter : {X : Type 0} (p test : X → Bool) (a : List X) → list_all p a ≡ true → list_all p (filter test a) ≡ true
all_filter p test [] all = refl
all_filter p test (x ∷ a) all =
    let both = and_parts (p x) (list_all p a) all in
    pick (test x) both.0 (all_filter p test a both.1)
  where
    pick : (c : Bool) → p x ≡ true → list_all p (filter test a) ≡ true → list_all p (cond c (x ∷ filter test a) (filter test a)) ≡ true
    pick true first others = and_from (p x) (list_all p (filter test a)) first others
    pick false first others = others

-- ---- maps

abbrev fits : {K X : Type 0} → (K → Bool) → (X → Bool) → K × X → Bool
fits a b e = a e.0 && b e.1

module _ {K X : Type 0} (R : K → K → Ordering) (a : K → Bool) (b : X → Bool) where
  all_put : (k : K) (v : X) (es : List (K × X)) → a k ≡ true → b v ≡ true → list_all (fits a b) es ≡ true → list_all (fits a b) (put R k v es) ≡ true
  all_put k v [] key value all = and_from (a k && b v) true (and_from (a k) (b v) key value) refl
  all_put k v (e ∷ es) key value all =
      let both = and_parts (fits a b e) (list_all (fits a b) es) all in
      go (R k e.0) refl both.0 both.1 (all_put k v es key value both.1)
    where
      go : (r : Ordering) → R k e.0 ≡ r → fits a b e ≡ true → list_all (fits a b) es ≡ true → list_all (fits a b) (put R k v es) ≡ true → list_all (fits a b) (put R k v (e ∷ es)) ≡ true
      go Less is first others later = rw is (and_from (a k && b v) (list_all (fits a b) (e ∷ es)) (and_from (a k) (b v) key value) all)
      go Equal is first others later = rw is (and_from (a e.0 && b v) (list_all (fits a b) es) (and_from (a e.0) (b v) (and_parts (a e.0) (b e.1) first).0 value) others)
      go Greater is first others later = rw is (and_from (fits a b e) (list_all (fits a b) (put R k v es)) first later)

  all_insert : IsTotalOrder R → (m : FinMap R X) (k : K) (v : X) → a k ≡ true → b v ≡ true → list_all (fits a b) (entries m) ≡ true → list_all (fits a b) (entries (insert m k v)) ≡ true
  all_insert o m k v key value all = ap (list_all (fits a b)) (entries-insert o m k v) ∙ all_put k v (entries m) key value all

  all_collected : IsTotalOrder R → (es : List (K × X)) → list_all (fits a b) es ≡ true → list_all (fits a b) (entries (from_entries {R = R} es)) ≡ true
  all_collected o [] all = ap (list_all (fits a b)) (entries-empty R)
  all_collected o (e ∷ es) all =
      let both = and_parts (fits a b e) (list_all (fits a b) es) all in
      let own = and_parts (a e.0) (b e.1) both.0 in
      all_insert o (from_entries es) e.0 e.1 own.0 own.1 (all_collected o es both.1)

  all_found : (q : K) (es : List (K × X)) (v : X) → find R q es ≡ Some v → list_all (fits a b) es ≡ true → b v ≡ true
  all_found q [] v is all = absurd cc
  all_found q (e ∷ es) v is all =
      let both = and_parts (fits a b e) (list_all (fits a b) es) all in
      go (eq_by_cmp R q e.0) is both.0 (λ later. all_found q es v later both.1)
    where
      go : (t : Bool) → cond t (Some e.1) (find R q es) ≡ Some v → fits a b e ≡ true → (find R q es ≡ Some v → b v ≡ true) → b v ≡ true
      go true same first behind = let value : e.1 ≡ v = cc in ap b (sym value) ∙ (and_parts (a e.0) (b e.1) first).1
      go false same first behind = behind same

-- ---- elements and members

abbrev index_fits : ℕ → Bool
index_fits index = nat_lt index 256

abbrev member_fits : MemberId → Bool
member_fits member = nat_lt member.0 8

put_over_fits : (piece old : Sparse) → elements_fit piece ≡ true → elements_fit old ≡ true → elements_fit (put_over piece old) ≡ true
put_over_fits piece old new was =
    all_collected nat_cmp index_fits is_element nat_cmp_total (entries piece ++ entries old)
    (all_append (fits index_fits is_element) (entries piece) (entries old) new was)

none_fits : elements_fit empty ≡ true
none_fits = ap (list_all (fits index_fits is_element)) (entries-empty nat_cmp)

pending_fits : (member : MemberId) (s : Store) → has_spelling s.pending ≡ true → elements_fit (pending_of member s) ≡ true
pending_fits member s has = go (get s.pending member) refl
  where
    go : (o : Option Sparse) → get s.pending member ≡ o → elements_fit (unwrap_or o empty) ≡ true
    go None is = none_fits
    go (Some held) is = all_found by_number member_fits elements_fit member (entries s.pending) held (sym (get-entries s.pending member) ∙ is) has

nothing_has : has_spelling empty ≡ true
nothing_has = ap (list_all (fits member_fits elements_fit)) (entries-empty by_number)

-- ---- the calls

pub packable_new : (start : Stamp) (depth : ℕ) → IsPackable (new_store start depth)
packable_new start depth = record { pending = nothing_has; tentative = refl; kept = refl }

pub packable_attaching : (s : Store) (m : MemberId) → IsPackable s → IsPackable (attaching m s)
packable_attaching s m p = record { pending = p.pending; tentative = p.tentative; kept = p.kept }

pub packable_storing : (s : Store) (m : MemberId) (piece : Sparse) → m.0 < 8 → elements_fit piece ≡ true → IsPackable s → IsPackable (storing m piece s)
packable_storing s m piece below fit p = record {
  pending = all_insert by_number member_fits elements_fit by_number_total s.pending m (put_over piece (pending_of m s)) (lt-ltb m.0 8 below)
      (put_over_fits piece (pending_of m s) fit (pending_fits m s p.pending)) p.pending;
  tentative = p.tentative;
  kept = p.kept;
}

pub packable_committing : (s : Store) → IsPackable s → IsPackable (committing s)
packable_committing s p = record {
  pending = nothing_has;
  tentative = all_append (λ (e : Stamped). has_spelling e.1) s.tentative ((s.next, s.pending) ∷ []) p.tentative (and_from (has_spelling s.pending) true p.pending refl);
  kept = p.kept;
}

pub packable_closing : (s : Store) → IsPackable s → IsPackable (closing s)
packable_closing s p = record {
  pending = p.pending;
  tentative = refl;
  kept = all_drop (λ (e : Stamped). has_spelling e.1) _ (s.kept ++ s.tentative) (all_append (λ (e : Stamped). has_spelling e.1) s.kept s.tentative p.kept p.tentative);
}

pub packable_promoting : (s : Store) (es : List Stamped) (next : Stamp) → have_spellings es ≡ true → IsPackable s → IsPackable (promoting es next s)
packable_promoting s es next have p = record { pending = p.pending; tentative = p.tentative; kept = have }

pub packable_discarding : (s : Store) → IsPackable s → IsPackable (discarding s)
packable_discarding s p = record { pending = nothing_has; tentative = refl; kept = p.kept }

pub packable_deleting : (s : Store) (stamp : Stamp) → IsPackable s → IsPackable (deleting stamp s)
packable_deleting s stamp p = record {
  pending = p.pending;
  tentative = p.tentative;
  kept = all_filter (λ (e : Stamped). has_spelling e.1) (λ e. not (eq_by_cmp by_time stamp e.0)) s.kept p.kept;
}
