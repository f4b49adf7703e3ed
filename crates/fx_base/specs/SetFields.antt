-- A set of processes has the members that pass its test, and gives its number back.
use Rattle.std.proofs.Common.{◌≡◌, ◌≢◌, ℕ, ◌+◌, ◌*◌, ◌%◌, ◌^◌, ◌<◌, ◌≤◌, zero, suc, Bool, true, false, cond, ◌||◌, ◌==◌, refl, sym, ap, ◌∙◌, subst, inl, inr}
use Rattle.std.specs.Int.{bit_at}
use Rattle.std.specs.Ordering.{nat_cmp, eq_by_cmp}
use Rattle.std.specs.Cmp.{nat_cmp_total, unsigned_tied}
use Rattle.std.specs.FinSet as set
use Rattle.std.proofs.lemmas.Bool.{eq-eqb, ne_eqb, cases_eq}
use Rattle.std.proofs.lemmas.Nat.{mod-pow-add}
use Rattle.std.proofs.lemmas.Nat.Bits.{bit_at-lt}
use Rattle.std.proofs.Math.Nat.{le_of_lt, le_of_suc-le-suc, le_refl, lt-suc_self, mod-one, mod-eq_of_lt, zero-mul, one-mul, add_comm, not-suc-le-zero, ne_of_lt, lt_trans}
use Rattle.std.proofs.Math.Numerals.{lt_of_le_of_ne, one-add}
use Rattle.fx_base.specs.Sets.{set_below, number_with, has_bit}

none_either : (b : Bool) → (cond b false false || false) ≡ false
none_either true = refl
none_either false = refl

whether : (b : Bool) → (cond b true false || false) ≡ b
whether true = refl
whether false = refl

none_or : (b x : Bool) → (cond b false false || x) ≡ x
none_or true x = refl
none_or false x = refl

itself : (n : ℕ) → eq_by_cmp nat_cmp n n ≡ true
itself n = unsigned_tied n n ∙ eq-eqb n n refl

other : (m n : ℕ) → m ≢ n → eq_by_cmp nat_cmp m n ≡ false
other m n apart = unsigned_tied m n ∙ ne_eqb m n apart

-- a digit is 0 or 1
digit : (d x : ℕ) → d < 2 → cond (d == 1) x 0 ≡ d * x
digit zero x below = sym (zero-mul x)
digit (suc zero) x below = sym (one-mul x)
digit (suc (suc d)) x below = absurd (not-suc-le-zero (le_of_suc-le-suc (le_of_suc-le-suc below)))

module _ (has : ℕ → Bool) where
  -- what the last number adds
  last_of : (n m : ℕ) (b : Bool) → set.contains (cond b (set.insert (set_below has n) n) (set_below has n)) m ≡ (cond b (eq_by_cmp nat_cmp m n) false || set.contains (set_below has n) m)
  last_of n m true = set.contains-insert nat_cmp_total (set_below has n) n m
  last_of n m false = refl

  pub past_set : (n m : ℕ) → n ≤ m → set.contains (set_below has n) m ≡ false
  unfolding set_below
  past_set zero m past = set.contains-empty nat_cmp m
  past_set (suc n) m past =
      let apart : eq_by_cmp nat_cmp m n ≡ false = other m n (λ e. ne_of_lt past (sym e)) in
      let before : set.contains (set_below has n) m ≡ false = past_set n m (le_of_lt past) in
      last_of n m (has n) ∙ (λ i. cond (has n) (apart i) false || before i) ∙ none_either (has n)

  -- a number below n is in the set exactly where it passes
  pub in_set : (n m : ℕ) → m < n → set.contains (set_below has n) m ≡ has m
  unfolding set_below
  in_set zero m below = absurd (not-suc-le-zero below)
  in_set (suc n) m below =
      elim (cases_eq m n) [
        | inl same ↦
            let tie : eq_by_cmp nat_cmp m n ≡ true = ap (λ k. eq_by_cmp nat_cmp k n) same ∙ itself n in
            let before : set.contains (set_below has n) m ≡ false = past_set n m (subst (λ k. n ≤ k) (sym same) (le_refl n)) in
            last_of n m (has n) ∙ (λ i. cond (has n) (tie i) false || before i) ∙ whether (has n) ∙ ap has (sym same)
        | inr differs ↦
            let apart : eq_by_cmp nat_cmp m n ≡ false = other m n differs in
            let before : set.contains (set_below has n) m ≡ has m = in_set n m (lt_of_le_of_ne (le_of_suc-le-suc below) differs) in
            last_of n m (has n) ∙ (λ i. cond (has n) (apart i) false || before i) ∙ none_or (has n) (has m)
      ]

module _ (bits : ℕ) where
  number_below : (n : ℕ) (has : ℕ → Bool) → ((m : ℕ) → m < n → has m ≡ has_bit bits m) → number_with has n ≡ bits % 2 ^ n
  unfolding number_with
  number_below zero has same = sym (mod-one bits)
  number_below (suc n) has same =
      let before : number_with has n ≡ bits % 2 ^ n = number_below n has (λ m below. same m (lt_trans below (lt-suc_self n))) in
      let last : cond (has n) (2 ^ n) 0 ≡ bit_at bits n * 2 ^ n = ap (λ b. cond b (2 ^ n) 0) (same n (lt-suc_self n)) ∙ digit (bit_at bits n) (2 ^ n) (bit_at-lt bits n) in
      (λ i. before i + last i) ∙ add_comm (bits % 2 ^ n) (bit_at bits n * 2 ^ n) ∙ sym (mod-pow-add bits 1 n) ∙ ap (λ k. bits % 2 ^ k) (one-add n)

  pub number_again : bits < 2 ^ 32 → number_with (set.contains (set_below (has_bit bits) 32)) 32 ≡ bits
  number_again within = number_below 32 (set.contains (set_below (has_bit bits) 32)) (in_set (has_bit bits) 32) ∙ mod-eq_of_lt within
