use Rattle.std.proofs.Common.{◌≡◌, Some}
use Rattle.fx_ballot.specs.Turn.{slots_of}
use Rattle.fx_machine.specs.Nodes.{Node}
use Rattle.fx_inbox.specs.Ballots.{TakesPart, ballot_of}
use Rattle.fx_inbox.specs.Keeping.{IsInboxOf}
use Rattle.fx_inbox.proofs.Turns.{seats}
use Rattle.fx_inbox.proofs.inbox.Inbox.form.Given as goal

abbrev pub invariant-loop-member : goal.invariant-loop-member
invariant-loop-member l = (n : Node) → IsInboxOf n l.self → TakesPart l.ballot n → slots_of (seats (ballot_of l.ballot) n) l.member-index ≡ Some l.slots
