use Rattle.std.proofs.Common.{◌≡◌, ◌+◌, drop}
use Rattle.fx_ballot.specs.Names.{seat_of}
use Rattle.fx_inbox.proofs.ballot.seat_of.Given as goal

abbrev pub invariant-loop-member : goal.invariant-loop-member
invariant-loop-member l = (l.seat ≡ l.member-index) × (l.member-index + seat_of (drop l.member-index l.members) l.who ≡ seat_of l.members l.who)
