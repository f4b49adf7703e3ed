-- those gone over, joined with those that have a later place, are those that have a place
use Rattle.std.proofs.Common.{◌≡◌, ℕ, ◌||◌, drop}
use Rattle.std.specs.FinSet as set
use Rattle.fx_comm.specs.Seats.{has_place}
use Rattle.fx_comm.proofs.comm.spares_of.Given as goal

abbrev pub invariant-loop-seat : goal.invariant-loop-seat
invariant-loop-seat l = (proc : ℕ) → (set.contains l.placed proc || has_place (drop l.seat-index l.seat-items) proc) ≡ has_place l.seat-items proc
