-- Elements that move one by one.
use Rattle.std.proofs.Common.{◌≡◌, refl, sym, ap, ◌∙◌, subst, ℕ, ℤ, zero, suc, ◌+◌, ◌<◌, ◌≤◌, Bool, true, false, cond, ◌==◌, List, [], ◌∷◌, length, drop, Option, Some, None, slice_get, arith}
use Rattle.std.specs.Option.{option_or}
use Rattle.std.specs.Ordering.{nat_cmp, eq_by_cmp}
use Rattle.std.specs.Cmp.{nat_cmp_total, unsigned_tied, tied_itself}
use Rattle.fx_base.proofs.Entries.{place_at, found_at_place}
use Rattle.std.specs.FinMap.{find, get, insert, empty, entries, entries_sorted, get-insert, get-empty, get-entries, same_map, nat_cmp-IsAntisymmetric}
use Rattle.std.proofs.lemmas.Bool.{eqb-true, ne_eqb}
use Rattle.fx_base.specs.Bounds.{HasIndicesBelow256}
use Rattle.fx_base.specs.declared.sparse.Sparse.{Sparse}
use Rattle.fx_store.specs.Store.{put_over}
use Rattle.fx_store.proofs.Overlays.{get-put_over}
use Rattle.fx_store.proofs.Meanings as store
use Rattle.fx_snap.specs.Overlays.{Moves, KeysFrom}

pub weaker : (a b : ℕ) (es : List (ℕ × ℤ)) → b ≤ a → KeysFrom a es → KeysFrom b es
weaker a b [] le from = tt
weaker a b (e ∷ es) le from = (omega (arith, from.0), from.1)

same_keys : (least : ℕ) (es : List (ℕ × ℤ)) → store.KeysFrom least es → KeysFrom least es
same_keys least [] from = tt
same_keys least (e ∷ es) from = (from.0, same_keys (e.0 + 1) es from.1)

pub keys_of : (m : Sparse) → KeysFrom 0 (entries m)
keys_of m = same_keys 0 (entries m) (store.keys_from (entries m) (store.told _ (entries_sorted m)))

tied : (q k : ℕ) → eq_by_cmp nat_cmp q k ≡ (q == k)
tied q k = unsigned_tied q k

pub none_below : (q : ℕ) (es : List (ℕ × ℤ)) → KeysFrom (q + 1) es → find nat_cmp q es ≡ None
none_below q [] from = refl
none_below q (e ∷ es) from =
    ap (λ b. cond b (Some e.1) (find nat_cmp q es)) (tied q e.0 ∙ ne_eqb q e.0 (λ same. omega (arith, same, from.0)))
    ∙ none_below q es (weaker (e.0 + 1) (q + 1) es (omega (arith, from.0)) from.1)

-- the entry at a place, with what is behind it
pub keys_at : (least : ℕ) (es : List (ℕ × ℤ)) (at : ℕ) (e : ℕ × ℤ) → KeysFrom least es → slice_get es at ≡ Some e → (drop at es ≡ e ∷ drop (at + 1) es) × KeysFrom (e.0 + 1) (drop (at + 1) es)
keys_at least [] at e from is = absurd cc
keys_at least (x ∷ es) zero e from is = let same : x ≡ e = cc in (ap (λ y. y ∷ es) same, subst (λ y. KeysFrom (y.0 + 1) es) same from.1)
keys_at least (x ∷ es) (suc at) e from is =
    let more = keys_at (x.0 + 1) es at e from.1 is in
    let next : suc at + 1 ≡ suc (at + 1) = omega arith in
    (more.0 ∙ ap (λ n. e ∷ drop n (x ∷ es)) (sym next), subst (λ n. KeysFrom (e.0 + 1) (drop n (x ∷ es))) (sym next) more.1)

pub drop_none : (es : List (ℕ × ℤ)) (at : ℕ) → slice_get es at ≡ None → drop at es ≡ []
drop_none [] zero is = refl
drop_none [] (suc at) is = refl
drop_none (e ∷ es) zero is = absurd cc
drop_none (e ∷ es) (suc at) is = drop_none es at is

-- putting the first of what is left changes nothing of what is found
put_first : (m : Sparse) (e : ℕ × ℤ) (rest : List (ℕ × ℤ)) → KeysFrom (e.0 + 1) rest → Moves m (insert m e.0 e.1) (e ∷ rest) rest
put_first m e rest from q = ap (option_or (find nat_cmp q rest)) (get-insert nat_cmp_total m e.0 e.1 q) ∙ go (eq_by_cmp nat_cmp q e.0) refl
  where
    go : (b : Bool) → eq_by_cmp nat_cmp q e.0 ≡ b → option_or (find nat_cmp q rest) (cond b (Some e.1) (get m q)) ≡ option_or (cond b (Some e.1) (find nat_cmp q rest)) (get m q)
    go true is =
        let same : q ≡ e.0 = eqb-true q e.0 (sym (tied q e.0) ∙ is) in
        ap (λ o. option_or o (Some e.1)) (none_below q rest (subst (λ k. KeysFrom (k + 1) rest) (sym same) from))
    go false is = refl

pub moves_one : (old new : Sparse) (es : List (ℕ × ℤ)) (from at : ℕ) (e : ℕ × ℤ) (made : Sparse) → KeysFrom 0 es → slice_get es at ≡ Some e → made ≡ insert new e.0 e.1
    → Moves old new (drop from es) (drop at es) → Moves old made (drop from es) (drop (at + 1) es)
moves_one old new es from at e made keys is same before q =
    let here = keys_at 0 es at e keys is in
    ap (λ m. option_or (find nat_cmp q (drop (at + 1) es)) (get m q)) same
    ∙ put_first new e (drop (at + 1) es) here.1 q
    ∙ ap (λ left. option_or (find nat_cmp q left) (get new q)) (sym here.0)
    ∙ before q

-- where a search ends, all that is left is above
pub ends_above : (es : List (ℕ × ℤ)) (at last : ℕ) (e : ℕ × ℤ) → KeysFrom 0 es → slice_get es at ≡ Some e → last < e.0 → KeysFrom (last + 1) (drop at es)
ends_above es at last e keys is above =
    let here = keys_at 0 es at e keys is in
    subst (KeysFrom (last + 1)) (sym here.0) (omega (arith, above), here.1)

pub ends_past : (es : List (ℕ × ℤ)) (at last : ℕ) → slice_get es at ≡ None → KeysFrom (last + 1) (drop at es)
ends_past es at last is = subst (KeysFrom (last + 1)) (sym (drop_none es at is)) tt

-- ---- the whole overlay

-- what the piece has left lies over what the other has left, over what was made
abbrev pub Overlaid : (piece old made : Sparse) (k at : ℕ) → Type 0
Overlaid piece old made k at = (q : ℕ)
    → option_or (find nat_cmp q (drop k (entries piece))) (option_or (find nat_cmp q (drop at (entries old))) (get made q)) ≡ option_or (get piece q) (get old q)

pub overlay_begins : (piece old made : Sparse) → made ≡ empty → Overlaid piece old made 0 0
overlay_begins piece old made is q =
    ap (λ m. option_or (find nat_cmp q (entries piece)) (option_or (find nat_cmp q (entries old)) (get m q))) is
    ∙ ap (λ o. option_or (find nat_cmp q (entries piece)) (option_or (find nat_cmp q (entries old)) o)) (get-empty nat_cmp q)
    ∙ ap (option_or (find nat_cmp q (entries piece))) (or_none (find nat_cmp q (entries old)))
    ∙ (λ i. option_or (sym (get-entries piece q) i) (sym (get-entries old q) i))
  where
    or_none : (o : Option ℤ) → option_or o None ≡ o
    or_none None = refl
    or_none (Some x) = refl

pub overlay_step : (piece old before made put : Sparse) (k at next : ℕ) (e : ℕ × ℤ) → Overlaid piece old before k at → slice_get (entries piece) k ≡ Some e
    → Moves before made (drop at (entries old)) (drop next (entries old)) → KeysFrom (e.0 + 1) (drop next (entries old)) → put ≡ insert made e.0 e.1 → Overlaid piece old put (k + 1) next
overlay_step piece old before made put k at next e inv is moves above same q =
    let here = keys_at 0 (entries piece) k e (keys_of piece) is in
    let rest : List (ℕ × ℤ) = drop (k + 1) (entries piece) in
    let left : List (ℕ × ℤ) = drop next (entries old) in
    ap (λ m. option_or (find nat_cmp q rest) (option_or (find nat_cmp q left) (get m q))) same
    ∙ ap (λ o. option_or (find nat_cmp q rest) (option_or (find nat_cmp q left) o)) (get-insert nat_cmp_total made e.0 e.1 q)
    ∙ go rest left here.1 above (eq_by_cmp nat_cmp q e.0) refl
    ∙ ap (λ es. option_or (find nat_cmp q es) (option_or (find nat_cmp q left) (get made q))) (sym here.0)
    ∙ ap (option_or (find nat_cmp q (drop k (entries piece)))) (moves q)
    ∙ inv q
  where
    go : (rest left : List (ℕ × ℤ)) → KeysFrom (e.0 + 1) rest → KeysFrom (e.0 + 1) left → (b : Bool) → eq_by_cmp nat_cmp q e.0 ≡ b
        → option_or (find nat_cmp q rest) (option_or (find nat_cmp q left) (cond b (Some e.1) (get made q))) ≡ option_or (cond b (Some e.1) (find nat_cmp q rest)) (option_or (find nat_cmp q left) (get made q))
    go rest left a b true is =
        let eq : q ≡ e.0 = eqb-true q e.0 (sym (tied q e.0) ∙ is) in
        (λ i. option_or (none_below q rest (subst (λ k. KeysFrom (k + 1) rest) (sym eq) a) i) (option_or (none_below q left (subst (λ k. KeysFrom (k + 1) left) (sym eq) b) i) (Some e.1)))
    go rest left a b false is = refl

none_left : (es : List (ℕ × ℤ)) → KeysFrom 256 es → ((i : ℕ) (e : ℕ × ℤ) → slice_get es i ≡ Some e → e.0 < 256) → es ≡ []
none_left [] from below = refl
none_left (e ∷ es) from below = absurd (let lt = below 0 e refl in omega (arith, lt, from.0))

pub overlay_ends : (piece old before made : Sparse) (k at next : ℕ) → Overlaid piece old before k at → slice_get (entries piece) k ≡ None
    → Moves before made (drop at (entries old)) (drop next (entries old)) → drop next (entries old) ≡ [] → made ≡ put_over piece old
overlay_ends piece old before made k at next inv is moves none =
    same_map nat_cmp_total nat_cmp-IsAntisymmetric made (put_over piece old)
    (λ q.
    ap (λ es. option_or (find nat_cmp q es) (get made q)) (sym none)
    ∙ moves q
    ∙ ap (λ es. option_or (find nat_cmp q es) (option_or (find nat_cmp q (drop at (entries old))) (get before q))) (sym (drop_none (entries piece) k is))
    ∙ inv q
    ∙ sym (get-put_over piece old q))

-- a piece over nothing is the piece
pub over_nothing : (piece : Sparse) → put_over piece empty ≡ piece
over_nothing piece =
    same_map nat_cmp_total nat_cmp-IsAntisymmetric (put_over piece empty) piece
    (λ q. get-put_over piece empty q ∙ ap (option_or (get piece q)) (get-empty nat_cmp q) ∙ or_none (get piece q))
  where
    or_none : (o : Option ℤ) → option_or o None ≡ o
    or_none None = refl
    or_none (Some x) = refl

-- ---- bounds

index_below : (m : Sparse) (at : ℕ) (e : ℕ × ℤ) → HasIndicesBelow256 m → slice_get (entries m) at ≡ Some e → e.0 < 256
index_below m at e below is =
    below e.0 e.1 (get-entries m e.0 ∙ found_at_place nat_cmp e.0 (entries m) at e (place_at nat_cmp nat_cmp_total e.0 (entries m) at e (entries_sorted m) is (tied_itself nat_cmp_total e.0)) is)

few_from : (least : ℕ) (es : List (ℕ × ℤ)) → least ≤ 256 → KeysFrom least es → ((i : ℕ) (e : ℕ × ℤ) → slice_get es i ≡ Some e → e.0 < 256) → length es + least ≤ 256
few_from least [] le from below = omega arith
few_from least (e ∷ es) le from below =
    let lt : e.0 < 256 = below 0 e refl in
    let more : length es + (e.0 + 1) ≤ 256 = few_from (e.0 + 1) es (omega (arith, lt)) from.1 (λ i. below (suc i)) in
    omega (arith, more, from.0)

pub few_entries : (m : Sparse) → HasIndicesBelow256 m → length (entries m) ≤ 256
few_entries m below = let few : length (entries m) + 0 ≤ 256 = few_from 0 (entries m) (omega arith) (keys_of m) (λ i e is. index_below m i e below is) in omega (arith, few)

place_in_drop : (es : List (ℕ × ℤ)) (n i : ℕ) → slice_get (drop n es) i ≡ slice_get es (n + i)
place_in_drop es zero i = let same : i ≡ zero + i = omega arith in ap (slice_get es) same
place_in_drop [] (suc n) i = let none : slice_get {X = ℕ × ℤ} [] (suc n + i) ≡ None = nothing (suc n + i) in nothing i ∙ sym none
  where
    nothing : (k : ℕ) → slice_get {X = ℕ × ℤ} [] k ≡ None
    nothing zero = refl
    nothing (suc k) = refl
place_in_drop (e ∷ es) (suc n) i = let same : suc (n + i) ≡ suc n + i = omega arith in place_in_drop es n i ∙ ap (slice_get (e ∷ es)) same

pub none_left_at : (m : Sparse) (at : ℕ) → HasIndicesBelow256 m → KeysFrom 256 (drop at (entries m)) → drop at (entries m) ≡ []
none_left_at m at below from = none_left (drop at (entries m)) from (λ i e is. index_below m (at + i) e below (sym (place_in_drop (entries m) at i) ∙ is))
