-- Reading pairs one after another, as a loop does.
use Rattle.std.proofs.Common.{◌≡◌, ℕ, zero, suc, ◌+◌, ◌-◌, ◌<◌, ◌≤◌, true, false, eqb, List, [], ◌∷◌, ◌++◌, length, Ok, refl, arith}
use Rattle.std.specs.Prelude.{ℤ}
use Rattle.fx_script.specs.declared.refusal.Stop.{Stop}
use Rattle.fx_script.specs.declared.refusal.Stop.TheVariants as stop
use Rattle.fx_script.specs.Left.{Left}
use Rattle.fx_script.specs.Outcome.{Stops}
use Rattle.fx_script.specs.Fields.{pair_at, pairs_from}

-- no word is left
pub pairs_done : (room : ℕ) (pairs : List (ℤ × ℤ)) (left : Left) → eqb (length left.words) 0 ≡ true → pairs_from room pairs left ≡ Ok (pairs, left)
unfolding pairs_from
pairs_done zero pairs left none = refl
pairs_done (suc room) pairs left none = rw none refl

-- a pair more
pub pairs_more : (i : ℕ) (pairs : List (ℤ × ℤ)) (left next : Left) (pair : ℤ × ℤ) → i < 15 → eqb (length left.words) 0 ≡ false → pair_at left ≡ Ok (pair, next)
    → pairs_from (15 - i) pairs left ≡ pairs_from (15 - (i + 1)) (pairs ++ pair ∷ []) next
unfolding pairs_from
pairs_more i pairs left next pair l some read =
    let room : 15 - i ≡ suc (15 - (i + 1)) = omega arith in
    rw (room, some, read) refl

-- a pair that is wrong
pub pairs_stop : (e : Stop) (i : ℕ) (pairs : List (ℤ × ℤ)) (left : Left) → i < 15 → eqb (length left.words) 0 ≡ false → Stops e (pair_at left) → Stops e (pairs_from (15 - i) pairs left)
unfolding pairs_from
pairs_stop stop.NoMemory i pairs left l some stops = tt
pairs_stop (stop.Wrong w) i pairs left l some stops =
    let room : 15 - i ≡ suc (15 - (i + 1)) = omega arith in
    rw (room, some, stops) refl

-- no room is left
pub pairs_full : (i : ℕ) (pairs : List (ℤ × ℤ)) (left : Left) → 15 ≤ i → pairs_from (15 - i) pairs left ≡ Ok (pairs, left)
unfolding pairs_from
pairs_full i pairs left full =
    let room : 15 - i ≡ 0 = omega arith in
    rw room refl
