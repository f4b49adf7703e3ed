use Rattle.std.proofs.Common.{◌≡◌, drop}
use Rattle.fx_ballot.specs.Names.{has}
use Rattle.fx_inbox.proofs.ballot.has.Given as goal

abbrev pub invariant-loop-member : goal.invariant-loop-member
invariant-loop-member l = has (drop l.member-index l.members) l.who ≡ has l.members l.who
