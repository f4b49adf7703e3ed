-- The number of indices in runs that are apart.
use Rattle.std.proofs.Common.{◌≡◌, ℕ, zero, suc, ◌+◌, ◌-◌, ◌<◌, ◌≤◌, Bool, true, false, cond, ◌&&◌, ◌||◌, nat_eq, nat_le, nat_lt, min, List, [], ◌∷◌, ◌++◌, length, get_or, drop, add-one, drop-cons, refl, ap, ◌∙◌, arith}
use Rattle.std.specs.List.{filter}
use Rattle.std.specs.Ordering.{nat_cmp}
use Rattle.std.specs.Cmp.{nat_cmp_total}
use Rattle.std.specs.FinSet as set
use Rattle.std.proofs.lemmas.Bool.Decides.{nat_tests}
use Rattle.std.proofs.lemmas.Bool.{eqb-true}
use Rattle.std.proofs.lemmas.List.{append-nil}
use Rattle.std.proofs.lemmas.List.Elements.{filter-append}
use Rattle.std.proofs.lemmas.Map.Views.{any-filter_same}
use Rattle.fx_subset.specs.Indices.{is_between, is_covered, numbers_below, reach, indices_of, union_of}
use Rattle.fx_subset.specs.Runs.{AreApart, total_of}
use Rattle.fx_subset.proofs.Cover.{any_number}

-- how many numbers below n pass the test
abbrev pub amount : (ℕ → Bool) → ℕ → ℕ
amount p zero = 0
amount p (suc n) = cond (p n) (amount p n + 1) (amount p n)

not_yet : (b : Bool) (n : ℕ) → (b && nat_lt n n) ≡ false
not_yet b n = grind (arith, nat_tests)

len_cond : (b : Bool) (m : ℕ) → b ≡ false → cond b m (m + 1) ≡ m + 1
len_cond true m e = cc
len_cond false m e = refl

-- the numbers below n that pass the test don't have n among them
without_next : (p : ℕ → Bool) (n : ℕ) → set.contains (set.from_list {R = nat_cmp} (filter p (numbers_below n))) n ≡ false
without_next p n =
    set.contains-from_list_nat (filter p (numbers_below n)) n
    ∙ any-filter_same (λ y. nat_eq y n) p (p n) (λ k e. ap p (eqb-true k n e)) (numbers_below n)
    ∙ ap (λ b. p n && b) (any_number n n)
    ∙ not_yet (p n) n

len-passing : (p : ℕ → Bool) (n : ℕ) → set.len (set.from_list {R = nat_cmp} (filter p (numbers_below n))) ≡ amount p n
unfolding numbers_below
len-passing p zero = set.len-empty nat_cmp
len-passing p (suc n) =
    rw (filter-append p (numbers_below n) (n ∷ []))
    (elim (p n) as (λ b. set.len (set.from_list {R = nat_cmp} (filter p (numbers_below n) ++ cond b (n ∷ []) [])) ≡ cond b (amount p n + 1) (amount p n)) [
      | true ↦
          ap set.len (set.from_list_push nat_cmp_total set.nat_cmp-IsAntisymmetric (filter p (numbers_below n)) n)
          ∙ set.len-insert nat_cmp_total (set.from_list (filter p (numbers_below n))) n
          ∙ len_cond _ _ (without_next p n)
          ∙ ap (λ m. m + 1) (len-passing p n)
      | false ↦ rw (append-nil (filter p (numbers_below n))) (len-passing p n)
    ])

amount_step : (a b : Bool) (m i j : ℕ) → (a ≡ true → b ≡ true → ⊥) → m ≡ i + j → cond (a || b) (m + 1) m ≡ cond a (i + 1) i + cond b (j + 1) j
amount_step true true m i j apart e = absurd (apart refl refl)
amount_step true false m i j apart e = omega arith
amount_step false true m i j apart e = omega arith
amount_step false false m i j apart e = e

-- two tests that no number passes both
amount-either : (p q : ℕ → Bool) (n : ℕ) → ((k : ℕ) → p k ≡ true → q k ≡ true → ⊥) → amount (λ k. p k || q k) n ≡ amount p n + amount q n
amount-either p q zero apart = refl
amount-either p q (suc n) apart =
    amount_step (p n) (q n) (amount (λ k. p k || q k) n) (amount p n) (amount q n) (apart n) (amount-either p q n apart)

amount-none : (n : ℕ) → amount (λ _. false) n ≡ 0
amount-none zero = refl
amount-none (suc n) = amount-none n

between_step : (first last n : ℕ) → first ≤ last → cond (nat_le first n && nat_le n last) (min n (last + 1) - first + 1) (min n (last + 1) - first) ≡ min (suc n) (last + 1) - first
between_step first last n up = grind (arith, nat_tests)

between_start : (first last : ℕ) → 0 ≡ min 0 (last + 1) - first
between_start first last = omega arith

amount-between : (first last n : ℕ) → first ≤ last → amount (is_between (first, last)) n ≡ min n (last + 1) - first
amount-between first last zero up = between_start first last
amount-between first last (suc n) up =
    ap (λ m. cond (nat_le first n && nat_le n last) (m + 1) m) (amount-between first last n up) ∙ between_step first last n up

covered_step : (from first last q : ℕ) (b : Bool) → from ≤ first → first ≤ last → (b ≡ true → last + 2 ≤ q) → ((nat_le first q && nat_le q last) || b) ≡ true → from ≤ q
covered_step from first last q b h up rest e = grind (arith, nat_tests)

-- what runs cover that begin at `from` or later
pub covered_from : (from : ℕ) (runs : List (ℕ × ℕ)) (q : ℕ) → AreApart from runs → is_covered runs q ≡ true → from ≤ q
covered_from from [] q apart e = absurd (cc)
covered_from from (run ∷ runs) q apart e =
    covered_step from run.0 run.1 q (is_covered runs q) apart.0 apart.1 (covered_from (run.1 + 2) runs q apart.3) e

past_run : (first last q : ℕ) → (nat_le first q && nat_le q last) ≡ true → last + 2 ≤ q → ⊥
past_run first last q e h = grind (arith, nat_tests)

amount-covered : (from : ℕ) (runs : List (ℕ × ℕ)) (n : ℕ) → AreApart from runs → reach runs ≤ n → amount (is_covered runs) n ≡ total_of runs
unfolding reach
amount-covered from [] n apart h = amount-none n
amount-covered from (run ∷ runs) n apart h =
    let one : amount (is_between run) n ≡ min n (run.1 + 1) - run.0 = amount-between run.0 run.1 n apart.1 in
    let rest : amount (is_covered runs) n ≡ total_of runs = amount-covered (run.1 + 2) runs n apart.3 (omega arith) in
    amount-either (is_between run) (is_covered runs) n (λ k in_run in_rest. past_run run.0 run.1 k in_run (covered_from (run.1 + 2) runs k apart.3 in_rest))
    ∙ omega (arith, one, rest)

-- the union of runs that are apart has as many indices as they hold together
pub len-union_of : (runs : List (ℕ × ℕ)) → AreApart 0 runs → set.len (union_of runs) ≡ total_of runs
unfolding indices_of
len-union_of runs apart = len-passing (is_covered runs) (reach runs) ∙ amount-covered 0 runs (reach runs) apart (omega arith)

total_below : (from : ℕ) (runs : List (ℕ × ℕ)) → AreApart from runs → from ≤ 4294967296 → total_of runs + from ≤ 4294967296
total_below from [] apart h = omega arith
total_below from (run ∷ runs) apart h =
    let rest : total_of runs + (run.1 + 2) ≤ 4294967296 = total_below (run.1 + 2) runs apart.3 (let low : run.1 < 4294967295 = apart.2 in omega arith) in
    let first : from ≤ run.0 = apart.0 in
    omega arith

-- the number of indices fits a u32
pub total_fits : (runs : List (ℕ × ℕ)) → AreApart 0 runs → total_of runs ≤ 4294967295
total_fits [] apart = omega arith
total_fits (run ∷ runs) apart =
    let low : run.1 < 4294967295 = apart.2 in
    let rest : total_of runs + (run.1 + 2) ≤ 4294967296 = total_below (run.1 + 2) runs apart.3 (omega arith) in
    omega arith

-- a run in its place
pub apart_at : (from : ℕ) (runs : List (ℕ × ℕ)) (i : ℕ) (d : ℕ × ℕ) → AreApart from runs → i < length runs → (get_or runs i d).0 ≤ (get_or runs i d).1
apart_at from [] i d apart h = absurd (omega arith)
apart_at from (run ∷ runs) zero d apart h = apart.1
apart_at from (run ∷ runs) (suc i) d apart h = apart_at (run.1 + 2) runs i d apart.3 (omega arith)

run_joined : (first last rest : ℕ) → first ≤ last → last + 1 - first + rest ≡ (last - first + 1) + rest
run_joined first last rest up = omega arith

-- the run in place i and the ones after it
pub total_at : (runs : List (ℕ × ℕ)) (i : ℕ) (d : ℕ × ℕ) → AreApart 0 runs → i < length runs → total_of (drop i runs) ≡ ((get_or runs i d).1 - (get_or runs i d).0 + 1) + total_of (drop (i + 1) runs)
total_at runs i d apart h =
    rw (drop-cons runs i d, add-one i) (run_joined (get_or runs i d).0 (get_or runs i d).1 (total_of (drop (suc i) runs)) (apart_at 0 runs i d apart h))
