-- How a subset is kept: sorted runs that neither overlap nor touch.
use Rattle.std.specs.Prelude.{ℕ, ◌+◌, ◌-◌, ◌<◌, ◌≤◌, List, [], ◌∷◌}

-- each run begins at `from` or later and past the end of the run before it, with a gap; no index is the largest u32
abbrev pub AreApart : ℕ → List (ℕ × ℕ) → Type 0
AreApart from [] = Unit {0}
AreApart from (run ∷ runs) = (from ≤ run.0) × (run.0 ≤ run.1) × (run.1 < 4294967295) × AreApart (run.1 + 2) runs

-- an interval that holds an index, and not the largest u32
abbrev pub IsWhole : ℕ × ℕ → Type 0
IsWhole interval = (interval.0 ≤ interval.1) × (interval.1 < 4294967295)

-- whole intervals, each of which begins at `from` or later and no earlier than the one before it
abbrev pub AreInOrder : ℕ → List (ℕ × ℕ) → Type 0
AreInOrder from [] = Unit {0}
AreInOrder from (interval ∷ intervals) = (from ≤ interval.0) × IsWhole interval × AreInOrder interval.0 intervals

-- how many indices runs hold that are apart
abbrev pub total_of : List (ℕ × ℕ) → ℕ
total_of [] = 0
total_of (run ∷ runs) = run.1 + 1 - run.0 + total_of runs
