-- the seats so far, joined with those that are left, are all
use Rattle.std.proofs.Common.{◌≡◌, ◌++◌, ◌-◌}
use Rattle.fx_comm.specs.Seats.{seats_from, first_seats}
use Rattle.fx_comm.proofs.comm.first.Given as goal

abbrev pub invariant-loop-number : goal.invariant-loop-number
invariant-loop-number l = l.seats ++ seats_from l.number (l.ranks - l.number) ≡ first_seats l.ranks
