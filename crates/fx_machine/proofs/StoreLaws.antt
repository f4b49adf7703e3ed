-- What statements and returns do to a group is what the calls of a store do to its store.
use Rattle.std.proofs.Common.{arith, ◌≡◌, ℕ, suc, ◌+◌, ◌-◌, Bool, true, false, not, List, [], ◌∷◌, ◌++◌, length, drop, refl, sym, ap, ◌∙◌}
use Rattle.std.specs.Ordering.{int_eq}
use Rattle.std.specs.Prelude.{if◌then◌else◌, ℤ, pos, ◌+ℤ◌, ◌-ℤ◌}
use Rattle.std.specs.FinMap as finite
use Rattle.std.proofs.lemmas.Int.{ints}
use Rattle.std.proofs.lemmas.List.{drop-map, length-map, map-append}
use Rattle.fx_store.specs.Store as store
use Rattle.fx_store.specs.Store.{Stamped}
use Rattle.fx_walk.specs.Walk.{stamp_at}
use Rattle.fx_machine.specs.Groups.{Group, next_stamp, attaching, committing, closing, discarding, deleting, without}
use Rattle.fx_machine.specs.Packings.{Snapshot}
use Rattle.fx_machine.specs.Stores.{map_of, stamped, store_of}
use Rattle.fx_machine.specs.Texts.{Packed}

-- no snapshot is the map with no member
nothing_stored : map_of [] ≡ finite.empty
nothing_stored = finite.empty_of_len (map_of []) (finite.len-entries (map_of []) ∙ ap length (finite.entries-from_sorted _ [] tt))

pub attaches : (m : ℕ) (g : Group) → store_of (attaching m g) ≡ store.attaching (record { 0 = m }) (store_of g)
attaches m g = refl

-- ---- a commit

one_later : (free : ℤ) (xs : List (ℤ × Snapshot)) (x : ℤ × Snapshot) → stamp_at (free +ℤ pos (length (xs ++ x ∷ []))) ≡ store.later (stamp_at (free +ℤ pos (length xs))) 1
one_later free xs x = ap stamp_at (count ∙ sum)
  where
    longer : (ys : List (ℤ × Snapshot)) → length (ys ++ x ∷ []) ≡ length ys + 1
    longer [] = refl
    longer (y ∷ ys) = ap suc (longer ys) ∙ omega arith

    count : free +ℤ pos (length (xs ++ x ∷ [])) ≡ free +ℤ pos (length xs + 1)
    count = ap (λ (n : ℕ). free +ℤ pos n) (longer xs)

    sum : free +ℤ pos (length xs + 1) ≡ (free +ℤ pos (length xs)) +ℤ pos 1
    sum = omega (arith, ints)

pub commits : (g : Group) → store_of (committing g) ≡ store.committing (store_of g)
commits g = λ i. record {
  pending = nothing_stored i;
  tentative = map-append (λ (e : ℤ × Snapshot). (stamp_at e.0, map_of e.1)) g.tentative ((next_stamp g, g.pending) ∷ []) i;
  kept = stamped g.held.kept;
  attached = (store_of g).attached;
  next = one_later g.held.free g.tentative (next_stamp g, g.pending) i;
  depth = g.depth;
}

-- ---- a closing

newest_stamped : (n : ℕ) (xs : List (ℤ × Snapshot)) → stamped (store.newest n xs) ≡ store.newest n (stamped xs)
newest_stamped n xs =
    sym (drop-map (λ (e : ℤ × Snapshot). (stamp_at e.0, map_of e.1)) (length xs - n) xs)
    ∙ ap (λ (k : ℕ). drop (k - n) (stamped xs)) (sym (length-map xs (λ (e : ℤ × Snapshot). (stamp_at e.0, map_of e.1))))

one_more : (d : ℕ) → suc d ≡ d + 1
one_more d = omega arith

none_later : (z : ℤ) → z +ℤ pos 0 ≡ z
none_later z = omega (arith, ints)

pub closes : (shares : Packed) (g : Group) → store_of (closing shares g) ≡ store.closing (store_of g)
closes shares g =
    let kept : stamped (store.newest (suc g.depth) (g.held.kept ++ g.tentative)) ≡ store.newest (g.depth + 1) (stamped g.held.kept ++ stamped g.tentative) =
    newest_stamped (suc g.depth) (g.held.kept ++ g.tentative)
    ∙ ap (λ (l : List Stamped). store.newest (suc g.depth) l) (map-append (λ (e : ℤ × Snapshot). (stamp_at e.0, map_of e.1)) g.held.kept g.tentative)
    ∙ ap (λ (n : ℕ). store.newest n (stamped g.held.kept ++ stamped g.tentative)) (one_more g.depth) in
    λ i. record {
      pending = map_of g.pending;
      tentative = [];
      kept = kept i;
      attached = (store_of g).attached;
      next = stamp_at (none_later (next_stamp g) i);
      depth = g.depth;
    }

-- ---- a join, and a deletion

given_back : (free : ℤ) (n k : ℕ) → n ≡ k → stamp_at (free +ℤ pos 0) ≡ store.earlier (stamp_at (free +ℤ pos n)) k
given_back free n k same = ap stamp_at (back ∙ ap (λ (j : ℕ). (free +ℤ pos n) -ℤ pos j) same)
  where
    back : free +ℤ pos 0 ≡ (free +ℤ pos n) -ℤ pos n
    back = omega (arith, ints)

pub discards : (g : Group) → store_of (discarding g) ≡ store.discarding (store_of g)
discards g = λ i. record {
  pending = nothing_stored i;
  tentative = [];
  kept = stamped g.held.kept;
  attached = (store_of (discarding g)).attached;
  next = given_back g.held.free (length g.tentative) (length (stamped g.tentative)) (sym (length-map g.tentative (λ (e : ℤ × Snapshot). (stamp_at e.0, map_of e.1)))) i;
  depth = g.depth;
}

-- a choice goes through the map
chosen : (b : Bool) (e : ℤ × Snapshot) (xs : List (ℤ × Snapshot)) (ys : List Stamped) → stamped xs ≡ ys
    → stamped (if b then e ∷ xs else xs) ≡ (if b then (stamp_at e.0, map_of e.1) ∷ ys else ys)
chosen true e xs ys same = ap (λ (l : List Stamped). (stamp_at e.0, map_of e.1) ∷ l) same
chosen false e xs ys same = same

without_stamped : (stamp : ℤ) (xs : List (ℤ × Snapshot)) → stamped (without stamp xs) ≡ store.without (stamp_at stamp) (stamped xs)
without_stamped stamp [] = refl
without_stamped stamp (e ∷ xs) = chosen (not (int_eq stamp e.0)) e (without stamp xs) (store.without (stamp_at stamp) (stamped xs)) (without_stamped stamp xs)

pub deletes : (stamp : ℤ) (g : Group) → store_of (deleting stamp g) ≡ store.deleting (stamp_at stamp) (store_of g)
deletes stamp g = λ i. record (store_of g) { kept = without_stamped stamp g.held.kept i }
