-- The set of all places is never covered.
use Rattle.std.proofs.Common.{◌≡◌, refl, sym, ℕ, Bool, true, false, not, ◌&&◌, List, [], ◌∷◌, Option, Some, arith, lit≤}
use Rattle.std.specs.Prelude.{if◌then◌else◌, nat_lt}
use Rattle.fx_store.specs.Redundancy.{Redundancy, RebuildsCovered, LeavesAllUncovered, AreHelps, share_of}

pub nobody : (below lost : Bool) (bytes : List ℕ) → lost ≡ true → (if below && not lost then bytes else []) ≡ []
nobody true true bytes h = refl
nobody true false bytes h = absurd cc
nobody false lost bytes h = refl

abbrev pub nothing : ℕ → List ℕ
nothing j = []

-- bytes by place that are one byte each
abbrev pub each : ℕ → ℕ → List ℕ
each b j = b ∷ []

two_at_once : {o : Option (List ℕ)} → o ≡ Some (0 ∷ []) → o ≡ Some (1 ∷ []) → ⊥
two_at_once a b = grind (arith, a, b)

-- without any help the one answer would have to be two payloads at once
pub leaves_all_uncovered : (r : Redundancy) → RebuildsCovered r → LeavesAllUncovered r
leaves_all_uncovered r rebuilds n lost size all = go (r.covers n lost) refl
  where
    no_help : (b : ℕ) → AreHelps r n 0 (each b) lost nothing
    no_help b j below = sym (nobody (nat_lt j n) (lost j) (r.help n j 0 (each b j) (share_of r n j (each b))) (all j below))

    one : (b : ℕ) → r.covers n lost ≡ true → r.rebuild n 0 nothing ≡ Some (b ∷ [])
    one b covered = rebuilds n 0 (each b) lost nothing size size.0 (λ j below. (lit≤ tt, lit≤ tt)) covered (all 0 size.0) (no_help b)

    go : (c : Bool) → r.covers n lost ≡ c → c ≡ false
    go false e = refl
    go true e = absurd (two_at_once (one 0 e) (one 1 e))
