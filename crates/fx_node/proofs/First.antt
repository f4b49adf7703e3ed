-- A process that hasn't done anything.
use Rattle.std.proofs.lemmas.Bool.Decides.{nat_tests}
use Rattle.std.proofs.Common.{All, arith, subst, sym, ◌+◌, ◌≡◌, ◌<◌, ◌≤◌, ◌++◌, ◌∷◌, ◌==◌, [], ℕ, zero, suc, true, List}
use Rattle.std.specs.Prelude.{◌||◌}
use Rattle.fx_ballot.specs.Names.{has}
use Rattle.fx_base.specs.Sets.{those_below}
use Rattle.fx_comm.specs.Seats.{Seat, first_seats, seat, seats_from}
use Rattle.std.proofs.lemmas.List.Elements.{All-cons, All-nil}

has_last : (qs : List ℕ) (q p : ℕ) → has (qs ++ q ∷ []) p ≡ (has qs p || (q == p))
has_last [] q p = grind (arith, nat_tests)
has_last (x ∷ qs) q p = let ih = has_last qs q p in grind (arith, nat_tests, ih)

pub is_below : (procs p : ℕ) → p < procs → has (those_below (λ q. true) procs) p ≡ true
unfolding those_below
is_below zero p h = absurd (omega (arith, h))
is_below (suc n) p h = let ih = is_below n p in let last = has_last (those_below (λ q. true) n) n p in grind (arith, nat_tests, ih, last)

-- ---- bounds

pub at_most_32 : (n procs : ℕ) → n ≡ procs → procs ≤ 16 → n ≤ 32
at_most_32 n procs same few = omega (arith, same, few)

pub among : (me n procs all : ℕ) → n ≡ procs → procs ≡ all → me < all → me < n
among me n procs all same of_job below = omega (arith, same, of_job, below)

-- each with a place is a process
pub first_among : (bound next n : ℕ) → next + n ≤ bound → All (λ (s : Seat). s.1.0 < bound) (seats_from next n)
unfolding seats_from
first_among bound next zero few = All-nil (λ (s : Seat). s.1.0 < bound)
first_among bound next (suc n) few = All-cons (λ (s : Seat). s.1.0 < bound) (seat next next) (seats_from (next + 1) n) (omega (arith, few)) (first_among bound (next + 1) n (omega (arith, few)))

pub seats_among : (bound ranks spares procs all : ℕ) (comm : List Seat) → bound ≡ procs → procs ≡ ranks + spares → comm ≡ first_seats all → all ≡ ranks → All (λ (s : Seat). s.1.0 < bound) comm
seats_among bound ranks spares procs all comm same of_job is first =
    subst (λ (l : List Seat). All (λ (s : Seat). s.1.0 < bound) l) (sym is) (first_among bound 0 all (omega (arith, same, of_job, first)))
