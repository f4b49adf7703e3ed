-- Lists of the numbers below a bound that pass a test.
use Rattle.std.proofs.Common.{◌≡◌, ℕ, ◌+◌, ◌<◌, ◌≤◌, zero, suc, Bool, true, false, cond, not, ◌&&◌, ◌||◌, ◌==◌, ◌⊎◌, inl, inr, List, [], ◌∷◌, ◌++◌, length, length-append, refl, sym, ap, ◌∙◌, arith, true≢false, append-nil}
use Rattle.std.proofs.lemmas.Bool.{eq-eqb, ne_eqb, cases_eq}
use Rattle.fx_base.specs.Sets.{those_below}

pub tells : (b : Bool) → (b ≡ true) ⊎ (b ≡ false)
tells true = inl refl
tells false = inr refl

-- a number is in a list
abbrev pub is_in : ℕ → List ℕ → Bool
is_in m [] = false
is_in m (n ∷ ns) = (n == m) || is_in m ns

-- a list has nothing twice
abbrev pub IsApart : List ℕ → Type 0
IsApart [] = Unit {0}
IsApart (n ∷ ns) = (is_in n ns ≡ false) × IsApart ns

either_false : (a b : Bool) → a ≡ false → b ≡ false → (a || b) ≡ false
either_false a b p q = rw (p, q) refl

pub first_false : (a b : Bool) → (a || b) ≡ false → a ≡ false
first_false true b h = h
first_false false b h = refl

pub second_false : (a b : Bool) → (a || b) ≡ false → b ≡ false
second_false true b h = absurd (true≢false h)
second_false false b h = h

pub not_true : (b : Bool) → (b ≡ true → ⊥) → b ≡ false
not_true true h = absurd (h refl)
not_true false h = refl

is_in-append : (m : ℕ) (xs ys : List ℕ) → is_in m (xs ++ ys) ≡ (is_in m xs || is_in m ys)
is_in-append m [] ys = refl
is_in-append m (x ∷ xs) ys = elim (tells (x == m)) [
  | inl e ↦ rw e refl
  | inr e ↦ rw e (is_in-append m xs ys)
]

module _ (f : ℕ → Bool) where
  -- what is in the list is below the bound and passes
  pub past_those : (n m : ℕ) → n ≤ m → is_in m (those_below f n) ≡ false
  unfolding those_below
  past_those zero m past = refl
  past_those (suc n) m past =
      is_in-append m (those_below f n) (cond (f n) (n ∷ []) []) ∙ either_false _ _ (past_those n m (omega arith)) (last_not (f n) (λ same. omega arith))
    where
      last_not : (b : Bool) → (n ≡ m → ⊥) → is_in m (cond b (n ∷ []) []) ≡ false
      last_not true apart = rw (ne_eqb n m apart) refl
      last_not false apart = refl

  pub fails_those : (n m : ℕ) → f m ≡ false → is_in m (those_below f n) ≡ false
  unfolding those_below
  fails_those zero m fails = refl
  fails_those (suc n) m fails =
      is_in-append m (those_below f n) (cond (f n) (n ∷ []) []) ∙ either_false _ _ (fails_those n m fails) (last_not (cases_eq n m))
    where
      last_not : (n ≡ m) ⊎ (n ≡ m → ⊥) → is_in m (cond (f n) (n ∷ []) []) ≡ false
      last_not (inl same) = rw (same, fails) refl
      last_not (inr apart) = elim (tells (f n)) [ inl e ↦ rw (e, ne_eqb n m apart) refl | inr e ↦ rw e refl ]

apart_more : (xs : List ℕ) (n : ℕ) → IsApart xs → is_in n xs ≡ false → IsApart (xs ++ n ∷ [])
apart_more [] n apart new = (refl, tt)
apart_more (x ∷ xs) n apart new = (
  is_in-append x xs (n ∷ []) ∙ either_false _ _ apart.0 (either_false _ _ (other_way x n (first_false _ _ new)) refl),
  apart_more xs n apart.1 (second_false _ _ new),
)
  where
    other_way : (a b : ℕ) → (a == b) ≡ false → (b == a) ≡ false
    other_way a b e = ne_eqb b a (λ same. true≢false (sym (eq-eqb a b (sym same)) ∙ e))

pub those_apart : (f : ℕ → Bool) (n : ℕ) → IsApart (those_below f n)
unfolding those_below
those_apart f zero = tt
those_apart f (suc n) = last_too (f n) (those_apart f n)
  where
    last_too : (b : Bool) → IsApart (those_below f n) → IsApart (those_below f n ++ cond b (n ∷ []) [])
    last_too true before = apart_more (those_below f n) n before (past_those f n n (omega arith))
    last_too false before = rw (append-nil (those_below f n)) before

-- ---- the least

pub those_none : (f : ℕ → Bool) (n : ℕ) → ((m : ℕ) → m < n → f m ≡ false) → those_below f n ≡ []
unfolding those_below
those_none f zero none = refl
those_none f (suc n) none = rw (those_none f n (λ m below. none m (omega arith)), none n (omega arith)) refl

pub those_same : (f g : ℕ → Bool) (n : ℕ) → ((m : ℕ) → m < n → f m ≡ g m) → those_below f n ≡ those_below g n
unfolding those_below
those_same f g zero same = refl
those_same f g (suc n) same = rw (those_same f g n (λ m below. same m (omega arith)), same n (omega arith)) refl

abbrev pub without : (ℕ → Bool) → ℕ → ℕ → Bool
without f n m = f m && not (m == n)

without_other : (b : Bool) (m n : ℕ) → (m ≡ n → ⊥) → b ≡ (b && not (m == n))
without_other true m n apart = rw (ne_eqb m n apart) refl
without_other false m n apart = refl

pub those_first : (f : ℕ → Bool) (n bound : ℕ) → n < bound → f n ≡ true → ((m : ℕ) → m < n → f m ≡ false) → those_below f bound ≡ n ∷ those_below (without f n) bound
unfolding those_below
those_first f n zero within passes least = absurd (omega arith)
those_first f n (suc bound) within passes least =
    elim (cases_eq bound n) [
      | inl same ↦ rw same (
          rw (those_none f n least, passes, those_none (without f n) n (λ m below. rw (least m below) refl), eq-eqb n n refl) refl)
      | inr apart ↦
          rw (those_first f n bound (omega arith) passes least, ← without_other (f bound) bound n apart) refl
    ]

-- ---- how many

pub count_below : (ℕ → Bool) → ℕ → ℕ
count_below f n = length (those_below f n)

pub count_zero : (f : ℕ → Bool) → length (those_below f zero) ≡ 0
unfolding those_below
count_zero f = refl

pub count_more : (f : ℕ → Bool) (n : ℕ) → length (those_below f (suc n)) ≡ length (those_below f n) + cond (f n) 1 0
unfolding those_below
count_more f n = length-append (those_below f n) (cond (f n) (n ∷ []) []) ∙ ap (λ k. length (those_below f n) + k) (of_last (f n))
  where
    of_last : (b : Bool) → length (cond b (n ∷ []) []) ≡ cond b 1 0
    of_last true = refl
    of_last false = refl

parts : (a b : Bool) → cond a 1 0 ≡ cond (a && b) 1 0 + cond (a && not b) 1 0
parts true true = refl
parts true false = refl
parts false b = refl

pub count_parts : (f g : ℕ → Bool) (n : ℕ) → length (those_below f n) ≡ length (those_below (λ m. f m && g m) n) + length (those_below (λ m. f m && not (g m)) n)
count_parts f g zero = omega (arith, count_zero f, count_zero (λ m. f m && g m), count_zero (λ m. f m && not (g m)))
count_parts f g (suc n) =
    omega (arith, count_more f n, count_more (λ m. f m && g m) n, count_more (λ m. f m && not (g m)) n, count_parts f g n, parts (f n) (g n))

both_false : (b : Bool) → (b && false) ≡ false
both_false true = refl
both_false false = refl

both_true : (b : Bool) → (b && true) ≡ b
both_true true = refl
both_true false = refl

pub count_one : (f : ℕ → Bool) (k n : ℕ) → k < n → length (those_below (λ m. f m && (k == m)) n) ≡ cond (f k) 1 0
count_one f k zero within = absurd (omega arith)
count_one f k (suc n) within =
    count_more (λ m. f m && (k == m)) n
    ∙ elim (cases_eq k n) [
      | inl same ↦ rw (← same, eq-eqb k k refl, both_true (f k)) (
          rw (those_none (λ m. f m && (k == m)) k (λ m below. rw (ne_eqb k m (λ e. omega arith)) (both_false (f m)))) (omega arith))
      | inr apart ↦ rw (ne_eqb k n apart, both_false (f n), count_one f k n (omega arith)) (omega arith)
    ]

-- ---- all below the bound

abbrev pub AllUnder : ℕ → List ℕ → Type 0
AllUnder bound [] = Unit {0}
AllUnder bound (n ∷ ns) = (n < bound) × AllUnder bound ns

under_more : (bound : ℕ) (xs : List ℕ) (n : ℕ) → AllUnder bound xs → n < bound → AllUnder bound (xs ++ n ∷ [])
under_more bound [] n under within = (within, tt)
under_more bound (x ∷ xs) n under within = (under.0, under_more bound xs n under.1 within)

pub those_under : (f : ℕ → Bool) (n bound : ℕ) → n ≤ bound → AllUnder bound (those_below f n)
unfolding those_below
those_under f zero bound within = tt
those_under f (suc n) bound within = last_too (f n) (those_under f n bound (omega arith))
  where
    last_too : (b : Bool) → AllUnder bound (those_below f n) → AllUnder bound (those_below f n ++ cond b (n ∷ []) [])
    last_too true before = under_more bound (those_below f n) n before (omega arith)
    last_too false before = rw (append-nil (those_below f n)) before
