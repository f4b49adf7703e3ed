-- What a search finds among entries in rising key, and what an edit at that place does.
use Rattle.std.proofs.Common.{◌≡◌, ℕ, suc, zero, ◌≤◌, ◌<◌, Bool, true, false, not, ◌&&◌, T, List, [], ◌∷◌, length, Some, None, refl, sym, ap, ◌∙◌, subst, arith, slice_get, slice_set, IsTrue}
use Rattle.std.proofs.Common.{inl, inr}
use Rattle.std.proofs.lemmas.Option.{slice_get_cases}
use Rattle.std.specs.List.{insert, remove}
use Rattle.std.specs.Ordering.{eq_by_cmp, ordering_reverse, is_lt}
use Rattle.std.specs.Cmp.{IsTotalOrder}
use Rattle.std.specs.FinMap.{IsAntisymmetric, is_sorted, find, put}
use Rattle.std.specs.FinMap.Entries.{where_key, below_all}
use Rattle.std.specs.declared.cmp.Ordering.{Ordering}
use Rattle.std.specs.declared.cmp.Ordering.TheVariants.{Less, Equal, Greater}
use Rattle.fx_base.specs.Keys.{IsPlaceOf, IsGapFor}

-- the parts of a test that holds

both_parts : (a b : Bool) → T (a && b) → T a × T b
both_parts true b h = (tt, h)
both_parts false b h = absurd h

less_if : (o : Ordering) → T (is_lt o) → o ≡ Less
less_if Less h = refl
less_if Equal h = absurd h
less_if Greater h = absurd h

pub holds : (b : Bool) → IsTrue b → T b
holds b h = subst T (sym h) tt

module _ {K : Type 0} {R : K → K → Ordering} (o : IsTotalOrder R) where
  above_lesser : (k f e : K) → R e f ≡ Less → R k f ≡ Greater → R k e ≡ Greater
  above_lesser k f e less greater = o.antisymm k e ∙ ap ordering_reverse (o.trans e f k less (o.antisymm f k ∙ ap ordering_reverse greater))

  tied_above_lesser : (k f e : K) → R e f ≡ Less → R k f ≡ Equal → R k e ≡ Greater
  tied_above_lesser k f e less tie = o.congr k f e tie ∙ o.antisymm f e ∙ ap ordering_reverse less

module _ {K X : Type 0} (R : K → K → Ordering) where
  -- the key is above that of the entry before place i
  abbrev pub IsAboveBefore : K → List (K × X) → ℕ → Type 0
  IsAboveBefore key es i = (j : ℕ) (e : K × X) → suc j ≡ i → slice_get es j ≡ Some e → R key e.0 ≡ Greater

  -- the key is below that of the entry at place i, if there is one
  abbrev pub IsBelowAt : K → List (K × X) → ℕ → Type 0
  IsBelowAt key es i = (e : K × X) → slice_get es i ≡ Some e → R key e.0 ≡ Less

  pub below_read : (key : K) (es : List (K × X)) (i : ℕ) (x : K × X) → slice_get es i ≡ Some x → R key x.0 ≡ Less → IsBelowAt key es i
  below_read key es i x read less e t = let same : x ≡ e = cc in rw (← same) less

  pub above_read : (key : K) (es : List (K × X)) (i n : ℕ) (x : K × X) → n ≡ suc i → slice_get es i ≡ Some x → R key x.0 ≡ Greater → IsAboveBefore key es n
  above_read key es i n x is read greater j e at t =
      let here : j ≡ i = omega arith in
      let same : x ≡ e = cc in
      rw (← same) greater

  -- an entry after a key that is below all of them
  below_entry : (k : K) (es : List (K × X)) (i : ℕ) (e : K × X) → T (below_all R k es) → slice_get es i ≡ Some e → R k e.0 ≡ Less
  below_entry k [] i e h t = cc
  below_entry k (x ∷ es) zero e h t =
      let same : x ≡ e = cc in
      rw (← same) (less_if _ (both_parts _ _ h).0)
  below_entry k (x ∷ es) (suc i) e h t = below_entry k es i e (both_parts _ _ h).1 t

  pub place_within : (key : K) (es : List (K × X)) (at : ℕ) → IsPlaceOf R key es at → at < length es
  place_within key [] at h = absurd h
  place_within key (e ∷ es) zero h = omega arith
  place_within key (e ∷ es) (suc at) h = let below = place_within key es at h.1 in omega arith

  pub gap_within : (key : K) (es : List (K × X)) (at : ℕ) → IsGapFor R key es at → at ≤ length es
  gap_within key [] at h = omega arith
  gap_within key (e ∷ es) zero h = omega arith
  gap_within key (e ∷ es) (suc at) h = let below = gap_within key es at h.1 in omega arith

  -- no entry has a key that is below all of them
  find_below : (key : K) (es : List (K × X)) → ((i : ℕ) (e : K × X) → slice_get es i ≡ Some e → R key e.0 ≡ Less) → find R key es ≡ None
  find_below key [] less = refl
  find_below key (e ∷ es) less = rw (less zero e refl) (find_below key es (λ i. less (suc i)))

  kept_above : (key : K) (es : List (K × X)) → ((i : ℕ) (e : K × X) → slice_get es i ≡ Some e → R key e.0 ≡ Less) → where_key R (λ x. not (eq_by_cmp R key x)) es ≡ es
  kept_above key [] less = refl
  kept_above key (e ∷ es) less = rw (less zero e refl) (ap (λ rest. e ∷ rest) (kept_above key es (λ i. less (suc i))))

  pub found_at_place : (key : K) (es : List (K × X)) (at : ℕ) (x : K × X) → IsPlaceOf R key es at → slice_get es at ≡ Some x → find R key es ≡ Some x.1
  found_at_place key [] at x h t = absurd h
  found_at_place key (e ∷ es) zero x h t = let same : e ≡ x = cc in rw h (ap (λ y. Some y.1) same)
  found_at_place key (e ∷ es) (suc at) x h t = rw h.0 (found_at_place key es at x h.1 t)

  pub put_at_place : IsAntisymmetric R → (key : K) (es : List (K × X)) (at : ℕ) (value : X) → IsPlaceOf R key es at → put R key value es ≡ slice_set es at (key, value)
  put_at_place same key [] at value h = absurd h
  put_at_place same key (e ∷ es) zero value h = rw h (ap (λ k. (k, value) ∷ es) (sym (same key e.0 h)))
  put_at_place same key (e ∷ es) (suc at) value h = rw h.0 (ap (λ rest. e ∷ rest) (put_at_place same key es at value h.1))

  pub put_at_gap : (key : K) (es : List (K × X)) (at : ℕ) (value : X) → IsGapFor R key es at → put R key value es ≡ insert es at (key, value)
  put_at_gap key [] zero value h = refl
  put_at_gap key [] (suc at) value h = refl
  put_at_gap key (e ∷ es) zero value h = rw h refl
  put_at_gap key (e ∷ es) (suc at) value h = rw h.0 (ap (λ rest. e ∷ rest) (put_at_gap key es at value h.1))

  module _ (o : IsTotalOrder R) where
    -- a gap of a list in order, from its two neighbours alone
    pub gap_between : (key : K) (es : List (K × X)) (at : ℕ) → T (is_sorted R es) → at ≤ length es → IsAboveBefore key es at → IsBelowAt key es at → IsGapFor R key es at
    gap_between key [] at s le above below = omega arith
    gap_between key (e ∷ es) zero s le above below = below e refl
    gap_between key (e ∷ es) (suc zero) s le above below =
        (above zero e refl refl, gap_between key es zero (both_parts _ _ s).1 (omega arith) (λ j f at t. absurd (omega arith)) below)
    gap_between key (e ∷ es) (suc (suc i)) s le above below =
        elim (slice_get_cases es i).1 [
          | inl x ↦ (
            above_lesser o key x.0.0 e.0 (below_entry e.0 es i x.0 (both_parts _ _ s).0 x.2) (above (suc i) x.0 refl x.2),
            gap_between key es (suc i) (both_parts _ _ s).1 (omega arith) (λ j f at t. above (suc j) f (ap suc at) t) below,
          )
          | inr x ↦ absurd (omega (arith, x.0))
        ]

    -- the place of a tying entry in a list in order
    pub place_at : (key : K) (es : List (K × X)) (at : ℕ) (x : K × X) → T (is_sorted R es) → slice_get es at ≡ Some x → R key x.0 ≡ Equal → IsPlaceOf R key es at
    place_at key [] at x s t tie = cc
    place_at key (e ∷ es) zero x s t tie = let same : e ≡ x = cc in rw same tie
    place_at key (e ∷ es) (suc at) x s t tie =
        (tied_above_lesser o key x.0 e.0 (below_entry e.0 es at x (both_parts _ _ s).0 t) tie, place_at key es at x (both_parts _ _ s).1 t tie)

    pub none_at_gap : (key : K) (es : List (K × X)) (at : ℕ) → T (is_sorted R es) → IsGapFor R key es at → find R key es ≡ None
    none_at_gap key [] at s h = refl
    none_at_gap key (e ∷ es) zero s h = rw h (find_below key es (λ i f t. o.trans key e.0 f.0 h (below_entry e.0 es i f (both_parts _ _ s).0 t)))
    none_at_gap key (e ∷ es) (suc at) s h = rw h.0 (none_at_gap key es at (both_parts _ _ s).1 h.1)

    pub kept_at_gap : (key : K) (es : List (K × X)) (at : ℕ) → T (is_sorted R es) → IsGapFor R key es at → where_key R (λ x. not (eq_by_cmp R key x)) es ≡ es
    kept_at_gap key [] at s h = refl
    kept_at_gap key (e ∷ es) zero s h =
        rw h (ap (λ rest. e ∷ rest) (kept_above key es (λ i f t. o.trans key e.0 f.0 h (below_entry e.0 es i f (both_parts _ _ s).0 t))))
    kept_at_gap key (e ∷ es) (suc at) s h = rw h.0 (ap (λ rest. e ∷ rest) (kept_at_gap key es at (both_parts _ _ s).1 h.1))

    pub kept_at_place : (key : K) (es : List (K × X)) (at : ℕ) → T (is_sorted R es) → IsPlaceOf R key es at → where_key R (λ x. not (eq_by_cmp R key x)) es ≡ remove es at
    kept_at_place key [] at s h = absurd h
    kept_at_place key (e ∷ es) zero s h =
        rw h (kept_above key es (λ i f t. o.congr key e.0 f.0 h ∙ below_entry e.0 es i f (both_parts _ _ s).0 t))
    kept_at_place key (e ∷ es) (suc at) s h = rw h.0 (ap (λ rest. e ∷ rest) (kept_at_place key es at (both_parts _ _ s).1 h.1))
