use Rattle.std.proofs.Common.{◌≡◌, Some}
use Rattle.fx_ballot.specs.Turn.{slots_of}
use Rattle.fx_ballot.specs.Seats.{at_seat}
use Rattle.fx_agree.proofs.ballot.gathered.Given as goal

abbrev pub invariant-loop-known : goal.invariant-loop-known
invariant-loop-known l = slots_of (at_seat l.heard) l.known-index ≡ Some l.slots
