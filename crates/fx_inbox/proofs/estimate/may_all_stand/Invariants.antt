use Rattle.std.proofs.Common.{◌≡◌, drop}
use Rattle.std.specs.List.{list_all}
use Rattle.fx_inbox.specs.Ballots.{ballot_of}
use Rattle.fx_machine.specs.Reading.{may_stand}
use Rattle.fx_inbox.proofs.estimate.may_all_stand.Given as goal

abbrev pub invariant-loop-slot : goal.invariant-loop-slot
invariant-loop-slot l = list_all (may_stand (ballot_of l.ballot)) (drop l.slot-index l.slots) ≡ list_all (may_stand (ballot_of l.ballot)) l.slots
