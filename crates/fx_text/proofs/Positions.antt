-- The place that `position` gives.
use Rattle.std.proofs.Common.{◌≡◌, ℕ, zero, suc, ◌+◌, ◌<◌, ◌≤◌, Bool, true, false, ltb, List, [], ◌∷◌, length, take, Some, None, refl, arith, inl, inr}
use Rattle.std.specs.Prelude.{unwrap_or}
use Rattle.std.specs.List.{position, position_or_len}
use Rattle.std.proofs.lemmas.Bool.{cases_Bool, cases_lt, lt-ltb, le-ltb}
use Rattle.std.proofs.lemmas.List.{length-take-le}

-- no list's first place is past its end
pub first_within : (p : ℕ → Bool) (xs : List ℕ) → position_or_len p xs ≤ length xs
first_within p [] = omega arith
first_within p (x ∷ xs) = elim (cases_Bool (p x)) [ inl t ↦ rw t (omega arith) | inr f ↦ rw f (omega (arith, first_within p xs)) ]

-- a place that was found
pub found_at : (p : ℕ → Bool) (xs : List ℕ) (i : ℕ) → position p xs ≡ Some i → (i < length xs) × (position_or_len p xs ≡ i)
found_at p xs i e = elim (cases_lt (position_or_len p xs) (length xs)) [
  | inl l ↦
      let t : ltb (position_or_len p xs) (length xs) ≡ true = lt-ltb _ _ l in
      let s : Some (position_or_len p xs) ≡ Some i = rw t at e in
      let same : position_or_len p xs ≡ i = cc in
      (omega arith, same)
  | inr g ↦
      let t : ltb (position_or_len p xs) (length xs) ≡ false = le-ltb _ _ g in
      let s : None ≡ Some i = rw t at e in
      absurd cc
]

-- no place was found
pub found_nowhere : (p : ℕ → Bool) (xs : List ℕ) → position p xs ≡ None → position_or_len p xs ≡ length xs
found_nowhere p xs e = elim (cases_lt (position_or_len p xs) (length xs)) [
  | inl l ↦
      let t : ltb (position_or_len p xs) (length xs) ≡ true = lt-ltb _ _ l in
      let s : Some (position_or_len p xs) ≡ None = rw t at e in
      absurd cc
  | inr g ↦ omega (arith, first_within p xs)
]

-- the place, or the length
pub place_or_length : (p : ℕ → Bool) (xs : List ℕ) → unwrap_or (position p xs) (length xs) ≡ position_or_len p xs
place_or_length p xs = elim (cases_lt (position_or_len p xs) (length xs)) [
  | inl l ↦ let t : ltb (position_or_len p xs) (length xs) ≡ true = lt-ltb _ _ l in rw t refl
  | inr g ↦ let t : ltb (position_or_len p xs) (length xs) ≡ false = le-ltb _ _ g in rw t (omega (arith, first_within p xs))
]

-- none is in front of the first place
before : (p : ℕ → Bool) (xs : List ℕ) → position_or_len p (take (position_or_len p xs) xs) ≡ length (take (position_or_len p xs) xs)
before p [] = refl
before p (x ∷ xs) = elim (cases_Bool (p x)) [
  | inl t ↦ rw t refl
  | inr f ↦
      let one : 1 + position_or_len p xs ≡ suc (position_or_len p xs) = omega arith in
      rw (f, one, f) (omega (arith, before p xs))
]

pub none_before : (p : ℕ → Bool) (xs : List ℕ) → position p (take (position_or_len p xs) xs) ≡ None
none_before p xs =
    let none : ltb (position_or_len p (take (position_or_len p xs) xs)) (length (take (position_or_len p xs) xs)) ≡ false = le-ltb _ _ (omega (arith, before p xs)) in
    rw none refl

-- a front that is longer than the first place has the same one
kept : (p : ℕ → Bool) (n : ℕ) (xs : List ℕ) → position_or_len p xs < n → n ≤ length xs
    → (position_or_len p (take n xs) ≡ position_or_len p xs) × (length (take n xs) ≡ n)
kept p n [] l m = absurd (omega (arith, l, m))
kept p zero (x ∷ xs) l m = absurd (omega (arith, l))
kept p (suc n) (x ∷ xs) l m = elim (cases_Bool (p x)) [
  | inl t ↦ rw t (refl, omega (arith, length-take-le n xs (omega (arith, m))))
  | inr f ↦
      let less : 1 + position_or_len p xs < suc n = rw f at l in
      let rest = kept p n xs (omega (arith, less)) (omega (arith, m)) in
      rw f (omega (arith, rest.0), omega (arith, rest.1))
]

pub still_found : (p : ℕ → Bool) (n : ℕ) (xs : List ℕ) → position_or_len p xs < n → n ≤ length xs → position p (take n xs) ≡ Some (position_or_len p xs)
still_found p n xs l m =
    let same = kept p n xs l m in
    let there : ltb (position_or_len p (take n xs)) (length (take n xs)) ≡ true = lt-ltb _ _ (omega (arith, same.0, same.1, l)) in
    rw (there, same.0) refl
