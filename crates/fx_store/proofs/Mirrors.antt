-- Where each place is kept by its buddy the laws of redundancy are met.
use Rattle.std.proofs.Common.{◌≡◌, ◌≢◌, ◌⊎◌, inl, inr, refl, sym, ap, ◌∙◌, subst, ℕ, zero, suc, ◌<◌, Bool, true, false, not, ◌&&◌, ◌==◌, cond, List, [], ◌∷◌, ◌++◌, length, Some, arith}
use Rattle.std.specs.Prelude.{if◌then◌else◌, nat_lt}
use Rattle.std.specs.Cmp.{both_ways}
use Rattle.std.specs.List.{flat_map}
use Rattle.std.proofs.lemmas.Bool.{cases_lt, cases_eq, cases_Bool, and_parts, and_from, and_right, eq-eqb, ne_eqb, lt-ltb, ltb-true, eqb-true, eqb-false, false_from_ne_true, true≢false}
use Rattle.std.proofs.lemmas.List.{append-nil}
use Rattle.std.proofs.lemmas.List.Concat.{flat_map-append}
use Rattle.fx_base.specs.Sets.{those_below}
use Rattle.fx_store.specs.Redundancy.{IsSize, HavePayloads, each_below, of_wards, share_of, helps, AreHelps, RebuildsCovered, RebuildsNothingElse, NoneKeepsItself, ArePlaces, CoversSmaller, MeetsLaws}
use Rattle.fx_store.specs.Mirror.{AreBuddies, buddy, is_keeper, is_ward, some_bytes, kept_by_buddies, mirror}
use Rattle.fx_store.proofs.Buddies.{are_buddies}

-- ---- tests of all numbers below n

pub each_at : (n : ℕ) (test : ℕ → Bool) (i : ℕ) → each_below n test ≡ true → i < n → test i ≡ true
each_at zero test i all below = absurd (omega arith)
each_at (suc n) test i all below =
    let parts = and_parts (each_below n test) (test n) all in
    elim (cases_eq i n) [ inl same ↦ ap test same ∙ parts.1 | inr apart ↦ each_at n test i parts.0 (omega (arith, apart)) ]

pub each_from : (n : ℕ) (test : ℕ → Bool) → ((i : ℕ) → i < n → test i ≡ true) → each_below n test ≡ true
each_from zero test all = refl
each_from (suc n) test all = and_from (each_below n test) (test n) (each_from n test (λ i below. all i (omega arith))) (all n (omega arith))

pub each_fails : (n : ℕ) (test : ℕ → Bool) (i : ℕ) → i < n → test i ≡ false → each_below n test ≡ false
each_fails n test i below fails = false_from_ne_true (each_below n test) (λ all. true≢false (sym (each_at n test i all below) ∙ fails))

-- ---- the numbers below n that pass a test that one passes

none_below : (test : ℕ → Bool) (n : ℕ) → ((x : ℕ) → x < n → test x ≡ false) → those_below test n ≡ []
unfolding those_below
none_below test zero fails = refl
none_below test (suc n) fails = (λ i. none_below test n (λ x below. fails x (omega arith)) i ++ cond (fails n (omega arith) i) (n ∷ []) [])

pub one_below : (test : ℕ → Bool) (n w : ℕ) → w < n → test w ≡ true → ((x : ℕ) → x < n → test x ≡ true → x ≡ w) → those_below test n ≡ w ∷ []
unfolding those_below
one_below test zero w below passes only = absurd (omega arith)
one_below test (suc n) w below passes only =
    elim (cases_eq w n) [
      | inl same ↦
          let others : those_below test n ≡ [] = none_below test n (λ x less. false_from_ne_true (test x) (λ t. omega (arith, only x (omega arith) t, same))) in
          let last : test n ≡ true = ap test (sym same) ∙ passes in
          (λ i. others i ++ cond (last i) (n ∷ []) []) ∙ ap (λ k. k ∷ []) (sym same)
      | inr apart ↦
          let before : those_below test n ≡ w ∷ [] = one_below test n w (omega (arith, apart)) passes (λ x less. only x (omega arith)) in
          let last : test n ≡ false = false_from_ne_true (test n) (λ t. apart (sym (only n (omega arith) t))) in
          (λ i. before i ++ cond (last i) (n ∷ []) [])
    ]

-- what is joined of those that pass depends on them alone
pub joined_alike : (test : ℕ → Bool) (n : ℕ) (a b : ℕ → List ℕ) → ((x : ℕ) → test x ≡ true → a x ≡ b x) → flat_map a (those_below test n) ≡ flat_map b (those_below test n)
unfolding those_below
joined_alike test zero a b same = refl
joined_alike test (suc n) a b same =
    flat_map-append a (those_below test n) (cond (test n) (n ∷ []) [])
    ∙ (λ i. joined_alike test n a b same i ++ last (test n) (same n) i)
    ∙ sym (flat_map-append b (those_below test n) (cond (test n) (n ∷ []) []))
  where
    last : (t : Bool) → (t ≡ true → a n ≡ b n) → flat_map a (cond t (n ∷ []) []) ≡ flat_map b (cond t (n ∷ []) [])
    last true h = ap (λ x. x ++ []) (h refl)
    last false h = refl

pub nonempty_is : (bytes : List ℕ) → 0 < length bytes → some_bytes bytes ≡ Some bytes
nonempty_is [] some = absurd (omega arith)
nonempty_is (b ∷ bytes) some = refl

other_there : (c d : Bool) → not (c && d) ≡ true → c ≡ true → d ≡ false
other_there true false e f = refl
other_there true true e f = absurd cc
other_there false d e f = absurd cc

smaller : (a b c d : Bool) → not (c && d) ≡ true → (a ≡ true → c ≡ true) → (b ≡ true → d ≡ true) → not (a && b) ≡ true
smaller false b c d e f g = refl
smaller true false c d e f g = refl
smaller true true c d e f g = absurd (let both : (c && d) ≡ true = and_from c d (f refl) (g refl) in true≢false (sym e ∙ ap not both))

many_or_one : (n : ℕ) → IsSize n → (1 < n) ⊎ (n ≡ 1)
many_or_one n size = elim (cases_lt 1 n) [ inl lt ↦ inl lt | inr le ↦ inr (omega (arith, size.0)) ]

module _ (of : (n place : ℕ) → ℕ) where
  kept_by : (n i j : ℕ) → is_keeper of n i j ≡ true → (n ≢ 1) × (j ≡ of n i)
  kept_by n i j keeps = go (n == 1) refl keeps
    where
      go : (b : Bool) → (n == 1) ≡ b → (not b && (j == of n i)) ≡ true → (n ≢ 1) × (j ≡ of n i)
      go true e k = absurd cc
      go false e k = (eqb-false n 1 e, eqb-true j (of n i) k)

  keeps_if : (n i j : ℕ) → 1 < n → j ≡ of n i → is_keeper of n i j ≡ true
  keeps_if n i j many same = (λ k. not (ne_eqb n 1 (λ e. omega (arith, e, many)) k) && (j == of n i)) ∙ eq-eqb j (of n i) same

  keeps_as_ward : (n w j : ℕ) → 1 < n → w < n → of n w ≡ j → is_ward of n j w ≡ true
  keeps_as_ward n w j many below same = and_from (nat_lt w n) (is_keeper of n w j) (lt-ltb w n below) (keeps_if n w j many (sym same))

  -- alone, no bytes are kept
  pub fold_alone : (place : ℕ) (bytes : ℕ → List ℕ) → (kept_by_buddies of).fold 1 place bytes ≡ []
  fold_alone place bytes = ap (flat_map bytes) (none_below (is_ward of 1 place) 1 (λ x below. and_right (nat_lt x 1) false refl))

  module _ (good : AreBuddies of) where
    only_ward : (n w j x : ℕ) → 1 < n → w < n → of n w ≡ j → x < n → is_ward of n j x ≡ true → x ≡ w
    only_ward n w j x many below same less ward =
        good.apart n x w many less below (sym (kept_by n x j (and_parts (nat_lt x n) (is_keeper of n x j) ward).1).1 ∙ sym same)

    -- the share is the bytes of the one ward
    pub fold_is : (n j w : ℕ) (bytes : ℕ → List ℕ) → 1 < n → w < n → of n w ≡ j → (kept_by_buddies of).fold n j bytes ≡ bytes w
    fold_is n j w bytes many below same =
        ap (flat_map bytes) (one_below (is_ward of n j) n w below (keeps_as_ward n w j many below same) (λ x less ward. only_ward n w j x many below same less ward))
        ∙ append-nil (bytes w)

    -- whether a place is the ward
    pub ward_is : (n j w x : ℕ) → 1 < n → w < n → of n w ≡ j → is_ward of n j x ≡ (x == w)
    ward_is n j w x many below same =
        both_ways (is_ward of n j x) (x == w)
        (λ ward. eq-eqb x w (only_ward n w j x many below same (ltb-true x n (and_parts (nat_lt x n) (is_keeper of n x j) ward).0) ward))
        (λ is. subst (λ k. is_ward of n j k ≡ true) (sym (eqb-true x w is)) (keeps_as_ward n w j many below same))

    -- the bytes of a place are the share of its buddy
    share_is : (n i : ℕ) (bytes : ℕ → List ℕ) → 1 < n → i < n → share_of (kept_by_buddies of) n (of n i) bytes ≡ bytes i
    share_is n i bytes many below =
        fold_is n (of n i) i (of_wards (kept_by_buddies of) n (of n i) bytes) many below refl
        ∙ ap (λ b. if b then bytes i else []) (keeps_as_ward n i (of n i) many below refl)

    -- what the buddy gives, where it is there
    help_is : (n i : ℕ) (bytes : ℕ → List ℕ) (lost : ℕ → Bool) → IsSize n → 1 < n → i < n → lost (of n i) ≡ false → helps (kept_by_buddies of) n i bytes lost (of n i) ≡ bytes i
    help_is n i bytes lost size many below there =
        (λ k. if lt-ltb (of n i) n (good.below n i size below) k && not (there k) then (if keeps_if n i (of n i) many refl k then share_of (kept_by_buddies of) n (of n i) bytes else []) else [])
        ∙ share_is n i bytes many below

    -- and nothing where it is lost
    no_help : (n i : ℕ) (bytes : ℕ → List ℕ) (lost : ℕ → Bool) → lost (of n i) ≡ true → helps (kept_by_buddies of) n i bytes lost (of n i) ≡ []
    no_help n i bytes lost gone = go (nat_lt (of n i) n) (lost (of n i)) gone
      where
        go : (a l : Bool) → l ≡ true → (if a && not l then (kept_by_buddies of).help n (of n i) i (bytes (of n i)) (share_of (kept_by_buddies of) n (of n i) bytes) else []) ≡ []
        go true true e = refl
        go true false e = absurd cc
        go false l e = refl

    -- alone, a place is its own buddy
    own_buddy : (n i : ℕ) → IsSize n → n ≡ 1 → i < n → of n i ≡ i
    own_buddy n i size one below = let less : of n i < n = good.below n i size below in omega (arith, less, one, below)

    -- from a buddy that is there comes the place as it was
    made : (n i : ℕ) (bytes : ℕ → List ℕ) (lost : ℕ → Bool) (given : ℕ → List ℕ) → IsSize n → i < n → HavePayloads n bytes → lost i ≡ true → AreHelps (kept_by_buddies of) n i bytes lost given
        → lost (of n i) ≡ false → (kept_by_buddies of).rebuild n i given ≡ Some (bytes i)
    made n i bytes lost given size below payloads gone are there =
        elim (many_or_one n size) [
          | inl many ↦
              let heard : given (of n i) ≡ bytes i = are (of n i) (good.below n i size below) ∙ help_is n i bytes lost size many below there in
              ap some_bytes heard ∙ nonempty_is (bytes i) (payloads i below).0
          | inr one ↦ absurd (true≢false (sym gone ∙ ap lost (sym (own_buddy n i size one below)) ∙ there))
        ]

    rebuilds_covered : RebuildsCovered (kept_by_buddies of)
    rebuilds_covered n i bytes lost given size below payloads covered gone are =
        made n i bytes lost given size below payloads gone are
        (other_there (lost i) (lost (of n i)) (each_at n (λ x. not (lost x && lost (of n x))) i covered below) gone)

    rebuilds_nothing_else : RebuildsNothingElse (kept_by_buddies of)
    rebuilds_nothing_else n i bytes lost given size below payloads gone are =
        elim (cases_Bool (lost (of n i))) [
          | inl also ↦ inl (ap some_bytes (are (of n i) (good.below n i size below) ∙ no_help n i bytes lost also))
          | inr there ↦ inr (made n i bytes lost given size below payloads gone are there)
        ]

    none_keeps_itself : NoneKeepsItself (kept_by_buddies of)
    none_keeps_itself n i size below =
        false_from_ne_true (is_keeper of n i i) (λ keeps. let by = kept_by n i i keeps in good.away n i (omega (arith, by.0, size.0)) below (sym by.1))

    are_places : ArePlaces (kept_by_buddies of)
    are_places n i j size below = (
      λ keeps. subst (λ k. k < n) (sym (kept_by n i j keeps).1) (good.below n i size below),
      λ ward. ltb-true j n (and_parts (nat_lt j n) (is_keeper of n j i) ward).0,
    )

    covers_smaller : CoversSmaller (kept_by_buddies of)
    covers_smaller n lost some size covered inside =
        each_from n (λ i. not (some i && some (of n i)))
        (λ i below. smaller (some i) (some (of n i)) (lost i) (lost (of n i)) (each_at n (λ x. not (lost x && lost (of n x))) i covered below) (inside i below) (inside (of n i) (good.below n i size below)))

    pub buddies_meet_laws : MeetsLaws (kept_by_buddies of)
    buddies_meet_laws = record {
      rebuilds_covered = rebuilds_covered;
      rebuilds_nothing_else = rebuilds_nothing_else;
      wards_are_kept = λ n i j size a b. sym (ap (λ t. t && is_keeper of n i j) (lt-ltb i n a));
      none_keeps_itself = none_keeps_itself;
      are_places = are_places;
      covers_smaller = covers_smaller;
      covers_none = λ n size. each_from n (λ i. true) (λ i below. refl);
      folds_wards_alone = λ n i a b size below same. joined_alike (is_ward of n i) n a b same;
    }

pub mirror_meets_laws : (separation : ℕ) → MeetsLaws (mirror separation)
mirror_meets_laws separation = buddies_meet_laws (buddy separation) (are_buddies separation)
