-- The buddy of a place is another place, and each place is the buddy of one.
use Rattle.std.proofs.Common.{◌≡◌, ◌≢◌, ◌⊎◌, inl, inr, refl, sym, ap, ◌∙◌, ℕ, ◌+◌, ◌-◌, ◌%◌, ◌<◌, ◌≤◌, Bool, true, false, ◌==◌, arith}
use Rattle.std.specs.Prelude.{if◌then◌else◌}
use Rattle.std.proofs.lemmas.Bool.{cases_lt, eqb-false, ne_eqb}
use Rattle.std.proofs.Math.Nat.{mod-eq_of_lt, mod-eq-sub-mod, mod-lt}
use Rattle.fx_store.specs.Mirror.{buddy, AreBuddies}

-- i + d modulo n, where both are below n
module _ (n d : ℕ) (some : 0 < d) (few : d < n) where
  turned : (i : ℕ) → i < n → ((i + d < n) × ((i + d) % n ≡ i + d)) ⊎ ((n ≤ i + d) × ((i + d) % n + n ≡ i + d))
  turned i below =
      elim (cases_lt (i + d) n) [
        | inl lt ↦ inl (lt, mod-eq_of_lt lt)
        | inr le ↦
            let less : (i + d) - n < n = omega arith in
            let same : (i + d) % n ≡ (i + d) - n = mod-eq-sub-mod le ∙ mod-eq_of_lt less in
            inr (le, omega (arith, same))
      ]

  turned_below : (i : ℕ) → i < n → (i + d) % n < n
  turned_below i below = mod-lt (i + d) (omega arith)

  turned_away : (i : ℕ) → i < n → (i + d) % n ≢ i
  turned_away i below same = elim (turned i below) [ inl a ↦ omega (arith, a.1, same) | inr a ↦ omega (arith, a.1, same) ]

  turned_apart : (i k : ℕ) → i < n → k < n → (i + d) % n ≡ (k + d) % n → i ≡ k
  turned_apart i k a b same =
      elim (turned i a) [
        | inl x ↦ elim (turned k b) [ inl y ↦ omega (arith, x.1, y.1, same) | inr y ↦ omega (arith, x.0, x.1, y.0, y.1, same) ]
        | inr x ↦ elim (turned k b) [ inl y ↦ omega (arith, x.0, x.1, y.0, y.1, same) | inr y ↦ omega (arith, x.1, y.1, same) ]
      ]

  -- the place that comes to j
  pub turned_to : (j : ℕ) → j < n → (w : ℕ) × (w < n) × ((w + d) % n ≡ j)
  turned_to j below =
      elim (cases_lt j d) [
        | inl lt ↦
            let w : ℕ = (j + n) - d in
            let less : w < n = omega arith in
            let sum : w + d ≡ j + n = omega arith in
            let there : (w + d) % n + n ≡ w + d = elim (turned w less) [ inl a ↦ absurd (omega (arith, a.0)) | inr a ↦ a.1 ] in
            (w, less, omega (arith, there, sum))
        | inr le ↦
            let w : ℕ = j - d in
            let less : w < n = omega arith in
            let sum : w + d ≡ j = omega arith in
            (w, less, ap (λ k. k % n) sum ∙ mod-eq_of_lt below)
      ]

-- how far a buddy is
abbrev pub distance : (separation n : ℕ) → ℕ
distance s n = 1 + (s - 1) % (n - 1)

regroup : (s n i : ℕ) → (i + 1 + (s - 1) % (n - 1)) % n ≡ (i + distance s n) % n
regroup s n i = ap (λ k. k % n) (omega arith)

-- among more than one place
module _ (s n : ℕ) (many : 1 < n) where
  some : 0 < distance s n
  some = omega arith

  few : distance s n < n
  few = let less : (s - 1) % (n - 1) < n - 1 = mod-lt (s - 1) (omega arith) in omega (arith, less)

  not_alone : (n == 1) ≡ false
  not_alone = ne_eqb n 1 (λ e. omega (arith, e))

  buddy_is : (i : ℕ) → buddy s n i ≡ (i + distance s n) % n
  buddy_is i = ap (λ b. if b then 0 else (i + 1 + (s - 1) % (n - 1)) % n) not_alone ∙ regroup s n i

  pub buddy_away : (i : ℕ) → i < n → buddy s n i ≢ i
  buddy_away i below same = turned_away n (distance s n) some few i below (sym (buddy_is i) ∙ same)

  pub buddy_apart : (i k : ℕ) → i < n → k < n → buddy s n i ≡ buddy s n k → i ≡ k
  buddy_apart i k a b same = turned_apart n (distance s n) some few i k a b (sym (buddy_is i) ∙ same ∙ buddy_is k)

  pub ward_of : (j : ℕ) → j < n → (w : ℕ) × (w < n) × (buddy s n w ≡ j)
  ward_of j below = let w = turned_to n (distance s n) some few j below in (w.0, w.1, buddy_is w.0 ∙ w.2)

module _ (s n : ℕ) where
  pub buddy_below : (i : ℕ) → 0 < n → i < n → buddy s n i < n
  buddy_below i some below = go (n == 1) refl
    where
      go : (b : Bool) → (n == 1) ≡ b → buddy s n i < n
      go true e = rw e some
      go false e =
          let apart : n ≢ 1 = eqb-false n 1 e in
          let many : 1 < n = omega (arith, apart) in
          rw (buddy_is s n many i) (turned_below n (distance s n) (some_distance many) (few s n many) i below)
        where
          some_distance : 1 < n → 0 < distance s n
          some_distance many = omega arith

-- buddies at a separation are buddies
pub are_buddies : (separation : ℕ) → AreBuddies (buddy separation)
are_buddies s = record {
  below = λ n i size below. buddy_below s n i size.0 below;
  away = λ n i many below. buddy_away s n many i below;
  apart = λ n i j many a b. buddy_apart s n many i j a b;
}
