-- A map that is put together entry by entry, in rising order of the keys.
use Rattle.std.proofs.Common.{◌≡◌, Bool, true, false, ◌&&◌, T, List, [], ◌∷◌, ◌++◌, length, Some, None, refl, sym, ap, subst, ◌∙◌, append_assoc, inl, inr}
use Rattle.std.specs.Cmp.{IsTotalOrder}
use Rattle.std.specs.FinMap.{FinMap, empty, empty_of_len, entries-from_sorted, entries-insert, from_sorted, insert, is_sorted, len-entries, put, same_entries_map}
use Rattle.std.specs.FinMap.Entries.{below_all}
use Rattle.std.specs.Ordering.{is_lt, ordering_reverse}
use Rattle.std.specs.declared.cmp.Ordering.{Ordering}
use Rattle.std.specs.declared.cmp.Ordering.TheVariants.{Less, Equal, Greater}
use Rattle.std.proofs.lemmas.Bool.{cases_Bool, and_from, and_parts, and_right}
use Rattle.std.proofs.lemmas.List.{append-nil}
use Rattle.fx_lines.specs.Lists.{risen}

holds : (b : Bool) → b ≡ true → T b
holds b h = subst T (sym h) tt

is_less : (o : Ordering) → is_lt o ≡ true → o ≡ Less
is_less Less h = refl
is_less Equal h = cc
is_less Greater h = cc

module _ {K X : Type 0} (R : K → K → Ordering) where
  -- the key is above those of all the entries
  abbrev pub is_past : K → List (K × X) → Bool
  is_past k [] = true
  is_past k (e ∷ es) = is_lt (R e.0 k) && is_past k es

  not_below : (k : K) (front : List (K × X)) (e : K × X) (rest : List (K × X)) → is_lt (R k e.0) ≡ false → below_all R k (front ++ e ∷ rest) ≡ false
  not_below k [] e rest h = rw h refl
  not_below k (x ∷ front) e rest h = and_right _ _ (not_below k front e rest h)

  -- keys don't rise where one of them is not above all those in front of it
  not_sorted : (front : List (K × X)) (e : K × X) (rest : List (K × X)) → is_past e.0 front ≡ false → is_sorted R (front ++ e ∷ rest) ≡ false
  not_sorted [] e rest h = cc
  not_sorted (x ∷ front) e rest h = elim (cases_Bool (is_lt (R x.0 e.0))) [
    | inl less ↦
        let later : is_past e.0 front ≡ false = rw less at h in
        and_right _ _ (not_sorted front e rest later)
    | inr not_less ↦ rw (not_below x.0 front e rest not_less) refl
  ]

  still_below : (k : K) (front : List (K × X)) (e : K × X) → below_all R k front ≡ true → is_lt (R k e.0) ≡ true → below_all R k (front ++ e ∷ []) ≡ true
  still_below k [] e h less = rw less refl
  still_below k (x ∷ front) e h less =
      and_from _ _ (and_parts _ _ h).0 (still_below k front e (and_parts _ _ h).1 less)

  still_sorted : (front : List (K × X)) (e : K × X) → is_sorted R front ≡ true → is_past e.0 front ≡ true → is_sorted R (front ++ e ∷ []) ≡ true
  still_sorted [] e h past = refl
  still_sorted (x ∷ front) e h past =
      and_from _ _ (still_below x.0 front e (and_parts _ _ h).0 (and_parts _ _ past).0) (still_sorted front e (and_parts _ _ h).1 (and_parts _ _ past).1)

  module _ (o : IsTotalOrder R) where
    put_last : (front : List (K × X)) (e : K × X) → is_past e.0 front ≡ true → put R e.0 e.1 front ≡ front ++ e ∷ []
    put_last [] e past = refl
    put_last (x ∷ front) e past =
        let greater : R e.0 x.0 ≡ Greater = o.antisymm e.0 x.0 ∙ ap ordering_reverse (is_less _ (and_parts _ _ past).0) in
        rw greater (ap (λ rest. x ∷ rest) (put_last front e (and_parts _ _ past).1))

    -- what is above the last one is above all
    past_last : (k : K) (front : List (K × X)) (e : K × X) → is_past e.0 front ≡ true → is_past k (front ++ e ∷ []) ≡ is_lt (R e.0 k)
    past_last k [] e past = elim (is_lt (R e.0 k)) as (λ b. (b && true) ≡ b) [ true ↦ refl | false ↦ refl ]
    past_last k (x ∷ front) e past =
        let later : is_past k (front ++ e ∷ []) ≡ is_lt (R e.0 k) = past_last k front e (and_parts _ _ past).1 in
        elim (cases_Bool (is_lt (R e.0 k))) [
          | inl less ↦
              let first : R x.0 k ≡ Less = o.trans x.0 e.0 k (is_less _ (and_parts _ _ past).0) (is_less _ less) in
              rw (later, first, less) refl
          | inr not_less ↦ rw not_less (and_right _ _ (later ∙ not_less))
        ]

    insert_last : (front : List (K × X)) (e : K × X) → is_sorted R front ≡ true → is_past e.0 front ≡ true → insert (from_sorted {R = R} front) e.0 e.1 ≡ from_sorted (front ++ e ∷ [])
    insert_last front e sorted past =
        same_entries_map _ _
        (entries-insert o (from_sorted front) e.0 e.1
        ∙ ap (put R e.0 e.1) (entries-from_sorted R front (holds _ sorted)) ∙ put_last front e past
        ∙ sym (entries-from_sorted R (front ++ e ∷ []) (holds _ (still_sorted front e sorted past))))

  -- of the entries, those in front are in the map, with keys that rise, and the test tells which keys are above them
  abbrev pub IsRisen : List (K × X) → List (K × X) → List (K × X) → FinMap R X → (K → Bool) → Type 0
  IsRisen all front rest m is_next = (all ≡ front ++ rest) × (is_sorted R front ≡ true) × (m ≡ from_sorted front) × ((k : K) → is_next k ≡ is_past k front)

  pub rises_from_nothing : (all rest : List (K × X)) (m : FinMap R X) (is_next : K → Bool) → rest ≡ all → m ≡ empty → ((k : K) → is_next k ≡ true) → IsRisen all [] rest m is_next
  rises_from_nothing all rest m is_next same none any =
      (sym same, refl, none ∙ sym (empty_of_len (from_sorted []) (len-entries (from_sorted []) ∙ ap length (entries-from_sorted R [] tt))), any)

  pub rises_on : IsTotalOrder R → (all front rest more : List (K × X)) (m new : FinMap R X) (is_next is_later : K → Bool) (e : K × X) → rest ≡ e ∷ more → is_next e.0 ≡ true → new ≡ insert m e.0 e.1
      → ((k : K) → is_later k ≡ is_lt (R e.0 k)) → IsRisen all front rest m is_next → IsRisen all (front ++ e ∷ []) more new is_later
  rises_on o all front rest more m new is_next is_later e here next put_in later risen_so_far =
      let past : is_past e.0 front ≡ true = sym (risen_so_far.3 e.0) ∙ next in (
        risen_so_far.0 ∙ ap (λ r. front ++ r) here ∙ sym (append_assoc front (e ∷ []) more),
        still_sorted front e risen_so_far.1 past,
        put_in ∙ ap (λ n. insert n e.0 e.1) risen_so_far.2 ∙ insert_last o front e risen_so_far.1 past,
        λ k. later k ∙ sym (past_last o k front e past),
      )

  pub does_not_rise : (all front rest more : List (K × X)) (m : FinMap R X) (is_next : K → Bool) (e : K × X) → rest ≡ e ∷ more → is_next e.0 ≡ false → IsRisen all front rest m is_next
      → None ≡ risen R (Some all)
  does_not_rise all front rest more m is_next e here next risen_so_far =
      let not_past : is_past e.0 front ≡ false = sym (risen_so_far.3 e.0) ∙ next in
      let none : is_sorted R all ≡ false = ap (is_sorted R) (risen_so_far.0 ∙ ap (λ r. front ++ r) here) ∙ not_sorted front e more not_past in
      rw none refl

  pub has_risen : (all front rest : List (K × X)) (m : FinMap R X) (is_next : K → Bool) → rest ≡ [] → IsRisen all front rest m is_next → Some m ≡ risen R (Some all)
  has_risen all front rest m is_next none risen_so_far =
      let same : all ≡ front = risen_so_far.0 ∙ ap (λ r. front ++ r) none ∙ append-nil front in
      let sorted : is_sorted R all ≡ true = ap (is_sorted R) same ∙ risen_so_far.1 in
      rw sorted (ap Some (risen_so_far.2 ∙ ap from_sorted (sym same)))
