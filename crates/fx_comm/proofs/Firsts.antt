-- The first communicator is one.
use Rattle.std.proofs.Common.{◌≡◌, ℕ, ◌+◌, ◌<◌, ◌≤◌, zero, suc, false, [], ◌∷◌, length, refl, arith}
use Rattle.std.proofs.lemmas.Bool.{ne_eqb}
use Rattle.fx_comm.specs.Seats.{seat, seats_from, first_seats, has_place, RiseAbove, IdentsRise, NoTwoPlaces, AllBelow32, IsComm}

length_from : (next n : ℕ) → length (seats_from next n) ≡ n
unfolding seats_from
length_from next zero = refl
length_from next (suc n) = omega (arith, length_from (next + 1) n)

above_from : (bound next n : ℕ) → bound < next → RiseAbove bound (seats_from next n)
unfolding seats_from
above_from bound next zero less = tt
above_from bound next (suc n) less = (less, above_from next (next + 1) n (omega arith))

rise_from : (next n : ℕ) → IdentsRise (seats_from next n)
unfolding seats_from
rise_from next zero = tt
rise_from next (suc n) = above_from next (next + 1) n (omega arith)

no_earlier : (proc next n : ℕ) → proc < next → has_place (seats_from next n) proc ≡ false
unfolding seats_from
no_earlier proc next zero less = refl
no_earlier proc next (suc n) less = rw (ne_eqb next proc (λ same. omega arith)) (no_earlier proc (next + 1) n (omega arith))

apart_from : (next n : ℕ) → NoTwoPlaces (seats_from next n)
unfolding seats_from
apart_from next zero = tt
apart_from next (suc n) = (no_earlier next (next + 1) n (omega arith), apart_from (next + 1) n)

below_from : (next n : ℕ) → next + n ≤ 32 → AllBelow32 (seats_from next n)
unfolding seats_from
below_from next zero within = tt
below_from next (suc n) within = (omega arith, omega arith, below_from (next + 1) n (omega arith))

pub first_comm : (ranks : ℕ) → 1 ≤ ranks → ranks ≤ 32 → IsComm (first_seats ranks)
first_comm ranks some within = record {
  some = omega (arith, length_from 0 ranks);
  at_most_32 = omega (arith, length_from 0 ranks);
  rise = rise_from 0 ranks;
  apart = apart_from 0 ranks;
  below = below_from 0 ranks (omega arith);
}

-- the next seat of those from one on
pub next_seat : (next n : ℕ) → seats_from next (suc n) ≡ seat next next ∷ seats_from (next + 1) n
unfolding seats_from
next_seat next n = refl

pub no_seat : (next : ℕ) → seats_from next 0 ≡ []
unfolding seats_from
no_seat next = refl
