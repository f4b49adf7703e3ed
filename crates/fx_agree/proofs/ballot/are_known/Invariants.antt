use Rattle.std.specs.Prelude.{IsSome}
use Rattle.fx_ballot.specs.Turn.{slots_of}
use Rattle.fx_ballot.specs.Seats.{at_seat}
use Rattle.fx_agree.proofs.ballot.are_known.Given as goal

abbrev pub invariant-loop-known : goal.invariant-loop-known
invariant-loop-known l = IsSome (slots_of (at_seat l.heard) l.known-index)
