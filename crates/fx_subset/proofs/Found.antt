-- A search among runs that are apart, by their last indices.
use Rattle.std.proofs.Common.{◌≡◌, ℕ, zero, suc, ◌+◌, ◌<◌, ◌≤◌, Bool, true, false, ◌||◌, nat_le, List, [], ◌∷◌, length, get_or, refl, arith}
use Rattle.std.specs.List.Sorted.{IsNonDecreasingBy}
use Rattle.std.proofs.lemmas.Bool.Decides.{nat_tests}
use Rattle.fx_subset.specs.Indices.{is_between, is_covered}
use Rattle.fx_subset.specs.Runs.{AreApart}
use Rattle.fx_subset.proofs.Count.{covered_from}

end_from : (from : ℕ) (runs : List (ℕ × ℕ)) (i : ℕ) (d : ℕ × ℕ) → AreApart from runs → i < length runs → from ≤ (get_or runs i d).1
end_from from [] i d apart h = absurd (omega arith)
end_from from (run ∷ runs) zero d apart h = let first : from ≤ run.0 = apart.0 in let up : run.0 ≤ run.1 = apart.1 in omega arith
end_from from (run ∷ runs) (suc i) d apart h =
    let first : from ≤ run.0 = apart.0 in
    let up : run.0 ≤ run.1 = apart.1 in
    let later = end_from (run.1 + 2) runs i d apart.3 (omega arith) in
    omega (arith, later)

-- the last indices of the runs rise
pub ends_rise : (from : ℕ) (runs : List (ℕ × ℕ)) → AreApart from runs → IsNonDecreasingBy (λ run. run.1) runs
ends_rise from [] apart i j d h b = absurd (omega arith)
ends_rise from (run ∷ runs) apart zero zero d h b = omega arith
ends_rise from (run ∷ runs) apart zero (suc j) d h b = let later = end_from (run.1 + 2) runs j d apart.3 (omega arith) in omega (arith, later)
ends_rise from (run ∷ runs) apart (suc i) zero d h b = absurd (omega arith)
ends_rise from (run ∷ runs) apart (suc i) (suc j) d h b = ends_rise (run.1 + 2) runs apart.3 i j d (omega arith) (omega arith)

before_run : (first last q : ℕ) (b c : Bool) → last < q → b ≡ c → (is_between (first, last) q || b) ≡ c
before_run first last q b c past e = grind (arith, nat_tests)

in_run : (first last q : ℕ) (b : Bool) → q ≤ last → (b ≡ true → last + 2 ≤ q) → (is_between (first, last) q || b) ≡ nat_le first q
in_run first last q b here later = grind (arith, nat_tests)

-- all runs end before q
pub covered_past : (runs : List (ℕ × ℕ)) (q : ℕ) → ((k : ℕ) (d : ℕ × ℕ) → k < length runs → (get_or runs k d).1 < q) → is_covered runs q ≡ false
covered_past [] q past = refl
covered_past (run ∷ runs) q past =
    before_run run.0 run.1 q (is_covered runs q) false (past 0 (0, 0) (omega arith)) (covered_past runs q (λ k d h. past (suc k) d (omega arith)))

-- run i is the first that does not
pub covered_at : (from : ℕ) (runs : List (ℕ × ℕ)) (i q : ℕ) (d : ℕ × ℕ) → AreApart from runs → i < length runs → ((k : ℕ) (d : ℕ × ℕ) → k < i → (get_or runs k d).1 < q) → q ≤ (get_or runs i d).1 → is_covered runs q ≡ nat_le (get_or runs i d).0 q
covered_at from [] i q d apart h past here = absurd (omega arith)
covered_at from (run ∷ runs) zero q d apart h past here = in_run run.0 run.1 q (is_covered runs q) here (covered_from (run.1 + 2) runs q apart.3)
covered_at from (run ∷ runs) (suc i) q d apart h past here =
    before_run run.0 run.1 q (is_covered runs q) (nat_le (get_or runs i d).0 q) (past 0 (0, 0) (omega arith))
    (covered_at (run.1 + 2) runs i q d apart.3 (omega arith) (λ k d h. past (suc k) d (omega arith)) here)
