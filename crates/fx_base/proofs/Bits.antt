-- What the operations on the bits of a number are to the set that they are seen as.
use Rattle.std.proofs.Common.{◌≡◌, ℕ, ◌+◌, ◌*◌, ◌^◌, ◌<◌, ◌≤◌, ◌%◌, zero, suc, Bool, true, false, cond, not, ◌&&◌, ◌||◌, ◌-◌, ◌==◌, bit_or, bit_and, max, min, count_ones, true≢false, [], ◌∷◌, length, length-append, refl, sym, ap, ◌∙◌, arith, inl, inr}
use Rattle.std.specs.Int.{bit_at, bit_not, trailing_zeros, w32}
use Rattle.std.specs.Ordering.{nat_cmp, eq_by_cmp}
use Rattle.std.specs.Cmp.{nat_cmp_total, unsigned_tied}
use Rattle.std.specs.FinSet as set
use Rattle.std.proofs.lemmas.Bool.{eq-eqb, ne_eqb, cases_eq, cases_lt}
use Rattle.std.proofs.lemmas.Nat.Bits.{bit_at_set_same, bit_at_set_other, bit_at_clear_same, bit_at_clear_other, bit_at_or, bit_at_and, bit_at_not, bit_at-lt, bit_at-zero, bit_at-trailing_zeros}
use Rattle.std.proofs.lemmas.Nat.{mod-pow-add, ones_cat, mod_below, pow_pos}
use Rattle.std.proofs.Math.Nat.{mod-eq_of_lt, mod-one}
use lib.Count.{ones}
use Rattle.std.proofs.Math.Numerals.{one-add}
use Rattle.fx_base.specs.Sets.{set_below, those_below, has_bit, members_of, IsLeastOf, IsBelow}
use Rattle.fx_base.specs.SetFields.{in_set, past_set}

tie_is : (m n : ℕ) → m ≡ n → eq_by_cmp nat_cmp m n ≡ true
tie_is m n same = unsigned_tied m n ∙ eq-eqb m n same

tie_not : (m n : ℕ) → (m ≡ n → ⊥) → eq_by_cmp nat_cmp m n ≡ false
tie_not m n apart = unsigned_tied m n ∙ ne_eqb m n apart

-- a set is that of the bits if it has the members that they say
pub same_bits : (a : ℕ) (s : set.FinSet nat_cmp) → ((m : ℕ) → m < 32 → has_bit a m ≡ set.contains s m) → ((m : ℕ) → 32 ≤ m → set.contains s m ≡ false) → set_below (has_bit a) 32 ≡ s
same_bits a s inside past =
    set.same_set nat_cmp_total set.nat_cmp-IsAntisymmetric _ _ (λ m.
    elim (cases_lt m 32) [
      | inl below ↦ in_set (has_bit a) 32 m below ∙ inside m below
      | inr beyond ↦ past_set (has_bit a) 32 m beyond ∙ sym (past m beyond)
    ])

module _ (b n : ℕ) (within : n < 32) where
  abbrev old : set.FinSet nat_cmp
  old = set_below (has_bit b) 32

  pub or_is_insert : set_below (has_bit (bit_or b (1 * 2 ^ n % 2 ^ 32))) 32 ≡ set.insert (set_below (has_bit b) 32) n
  or_is_insert =
      same_bits (bit_or b (1 * 2 ^ n % 2 ^ 32)) (set.insert (set_below (has_bit b) 32) n)
      (λ m below. elim (cases_eq m n) [
        | inl same ↦
            rw (set.contains-insert nat_cmp_total (set_below (has_bit b) 32) n m, tie_is m n same, same, bit_at_set_same w32 b n within) refl
        | inr differs ↦
            rw (set.contains-insert nat_cmp_total (set_below (has_bit b) 32) n m, tie_not m n differs, in_set (has_bit b) 32 m below, bit_at_set_other w32 b n within m differs) refl
      ])
      (λ m beyond.
      let differs : m ≡ n → ⊥ = λ (same : m ≡ n). omega arith in
      rw (set.contains-insert nat_cmp_total (set_below (has_bit b) 32) n m, tie_not m n differs, past_set (has_bit b) 32 m beyond) refl)

  pub and_is_remove : set_below (has_bit (bit_and b (bit_not w32 (1 * 2 ^ n % 2 ^ 32)))) 32 ≡ set.remove (set_below (has_bit b) 32) n
  and_is_remove =
      same_bits (bit_and b (bit_not w32 (1 * 2 ^ n % 2 ^ 32))) (set.remove (set_below (has_bit b) 32) n)
      (λ m below. elim (cases_eq m n) [
        | inl same ↦
            rw (set.contains-remove nat_cmp_total (set_below (has_bit b) 32) n m, tie_is m n same, same, bit_at_clear_same w32 b n within) refl
        | inr differs ↦
            rw (set.contains-remove nat_cmp_total (set_below (has_bit b) 32) n m, tie_not m n differs, in_set (has_bit b) 32 m below, bit_at_clear_other w32 b n within m below differs) refl
      ])
      (λ m beyond.
      let differs : m ≡ n → ⊥ = λ (same : m ≡ n). omega arith in
      rw (set.contains-remove nat_cmp_total (set_below (has_bit b) 32) n m, tie_not m n differs, past_set (has_bit b) 32 m beyond) refl)

one_of_two : (x y : ℕ) → x < 2 → y < 2 → (max x y == 1) ≡ ((x == 1) || (y == 1))
one_of_two zero zero p q = refl
one_of_two zero (suc zero) p q = refl
one_of_two (suc zero) zero p q = refl
one_of_two (suc zero) (suc zero) p q = refl
one_of_two (suc (suc x)) y p q = absurd (omega arith)
one_of_two x (suc (suc y)) p q = absurd (omega arith)

pub or_is_union : (a b : ℕ) → set_below (has_bit (bit_or a b)) 32 ≡ set.union (set_below (has_bit a) 32) (set_below (has_bit b) 32)
or_is_union a b =
    same_bits (bit_or a b) (set.union (set_below (has_bit a) 32) (set_below (has_bit b) 32))
    (λ m below. rw (set.contains-union nat_cmp_total (set_below (has_bit a) 32) (set_below (has_bit b) 32) m, in_set (has_bit a) 32 m below, in_set (has_bit b) 32 m below, bit_at_or a b m)
    (one_of_two (bit_at a m) (bit_at b m) (bit_at-lt a m) (bit_at-lt b m)))
    (λ m beyond. rw (set.contains-union nat_cmp_total (set_below (has_bit a) 32) (set_below (has_bit b) 32) m, past_set (has_bit a) 32 m beyond, past_set (has_bit b) 32 m beyond) refl)

both_of_two : (x y : ℕ) → x < 2 → y < 2 → (min x (1 - y) == 1) ≡ ((x == 1) && not (y == 1))
both_of_two zero zero p q = refl
both_of_two zero (suc zero) p q = refl
both_of_two (suc zero) zero p q = refl
both_of_two (suc zero) (suc zero) p q = refl
both_of_two (suc (suc x)) y p q = absurd (omega arith)
both_of_two x (suc (suc y)) p q = absurd (omega arith)

pub and_not_is_difference : (a b : ℕ) → b < 2 ^ 32 → set_below (has_bit (bit_and a (bit_not w32 b))) 32 ≡ set.difference (set_below (has_bit a) 32) (set_below (has_bit b) 32)
and_not_is_difference a b within =
    same_bits (bit_and a (bit_not w32 b)) (set.difference (set_below (has_bit a) 32) (set_below (has_bit b) 32))
    (λ m below. rw (set.contains-difference nat_cmp_total (set_below (has_bit a) 32) (set_below (has_bit b) 32) m, in_set (has_bit a) 32 m below, in_set (has_bit b) 32 m below, bit_at_and a (bit_not w32 b) m, bit_at_not w32 b m within below)
    (both_of_two (bit_at a m) (bit_at b m) (bit_at-lt a m) (bit_at-lt b m)))
    (λ m beyond. rw (set.contains-difference nat_cmp_total (set_below (has_bit a) 32) (set_below (has_bit b) 32) m, past_set (has_bit a) 32 m beyond) refl)

pub zero_is_empty : set_below (has_bit 0) 32 ≡ set.empty
zero_is_empty =
    same_bits 0 set.empty
    (λ m below. rw (bit_at-zero m, set.contains-empty nat_cmp m) refl)
    (λ m beyond. set.contains-empty nat_cmp m)

ones_of_digit : (d : ℕ) → d < 2 → count_ones d ≡ d
unfolding ones
ones_of_digit zero below = refl
ones_of_digit (suc zero) below = refl
ones_of_digit (suc (suc d)) below = absurd (omega arith)

is_digit : (d : ℕ) → d < 2 → d ≡ cond (d == 1) 1 0
is_digit zero below = refl
is_digit (suc zero) below = refl
is_digit (suc (suc d)) below = absurd (omega arith)

len_more : (has : ℕ → Bool) (n : ℕ) (here : Bool) → set.len (cond here (set.insert (set_below has n) n) (set_below has n)) ≡ cond here 1 0 + set.len (set_below has n)
len_more has n true = rw (set.len-insert nat_cmp_total (set_below has n) n, past_set has n n (omega arith)) (omega arith)
len_more has n false = omega arith

module _ (b : ℕ) where
  len_below : (n : ℕ) → set.len (set_below (has_bit b) n) ≡ count_ones (b % 2 ^ n)
  unfolding set_below
  len_below zero = set.len-empty nat_cmp ∙ sym (rw (mod-one b) (ones_of_digit 0 (omega arith)))
  len_below (suc n) =
      len_more (has_bit b) n (has_bit b n)
      ∙ rw (len_below n, ← is_digit (bit_at b n) (bit_at-lt b n)) (
      sym (rw (← one-add n, mod-pow-add b 1 n, ones_cat n (bit_at b n) (b % 2 ^ n) (mod_below b (2 ^ n) (pow_pos n)), ones_of_digit (bit_at b n) (bit_at-lt b n)) refl))

  pub ones_is_len : b < 2 ^ 32 → count_ones b ≡ set.len (set_below (has_bit b) 32)
  ones_is_len within = sym (len_below 32 ∙ ap count_ones (mod-eq_of_lt within))

  pub members_below : IsBelow 32 (set_below (has_bit b) 32)
  members_below m is_in =
      elim (cases_lt m 32) [
        | inl below ↦ below
        | inr beyond ↦ absurd (true≢false (sym is_in ∙ past_set (has_bit b) 32 m beyond))
      ]

  pub trailing_is_least : 0 < b → b < 2 ^ 32 → IsLeastOf (set_below (has_bit b) 32) (trailing_zeros w32 b)
  trailing_is_least some within =
      let least = bit_at-trailing_zeros w32 b some within in (
        in_set (has_bit b) 32 (trailing_zeros w32 b) least.0 ∙ rw least.1 refl,
        λ m is_in.
            elim (cases_lt m (trailing_zeros w32 b)) [
              | inl below ↦ absurd (true≢false (sym is_in ∙ in_set (has_bit b) 32 m (members_below m is_in) ∙ rw (least.2 m below) refl))
              | inr beyond ↦ beyond
            ],
      )

-- the list of a set's members is as long as the set is large

length_last : (here : Bool) (n k : ℕ) → cond here 1 0 + k ≡ k + length (cond here (n ∷ []) [])
length_last true n k = omega arith
length_last false n k = omega arith

is_false : (b : Bool) → (b ≡ true → ⊥) → b ≡ false
is_false true h = absurd (h refl)
is_false false h = refl

module _ (has : ℕ → Bool) where
  len_those : (n : ℕ) → set.len (set_below has n) ≡ length (those_below has n)
  unfolding set_below those_below
  len_those zero = set.len-empty nat_cmp
  len_those (suc n) = len_more has n (has n) ∙ rw (length-append (those_below has n) (cond (has n) (n ∷ []) []), len_those n) (length_last (has n) n (length (those_below has n)))

pub length_members : (s : set.FinSet nat_cmp) → IsBelow 32 s → length (members_of s) ≡ set.len s
length_members s below =
    sym (len_those (set.contains s) 32)
    ∙ ap set.len (set.same_set nat_cmp_total set.nat_cmp-IsAntisymmetric _ _ (λ m.
    elim (cases_lt m 32) [
      | inl within ↦ in_set (set.contains s) 32 m within
      | inr beyond ↦ past_set (set.contains s) 32 m beyond ∙ sym (is_false (set.contains s m) (λ is_in. let within : m < 32 = below m is_in in omega arith))
    ]))
