-- What an estimate of another is measured by.
use Rattle.std.specs.Prelude.{Bool, false, ◌&&◌, ◌==◌, List, length, slice_get}
use Rattle.std.specs.List.{list_all}
use Rattle.fx_inbox.specs.Ballots.{ballot_of}
use Rattle.fx_inbox.specs.declared.ballot.Ballot.{Ballot}
use Rattle.fx_inbox.specs.declared.estimate.Measure.{Measure}
use Rattle.fx_link.specs.declared.slot.Slot.{Slot}
use Rattle.fx_machine.specs.Reading.{About, OfCall, OfEpoch, are_same, may_stand}
use Rattle.fx_machine.specs.Texts.{Text, Est, Jest}

-- it has a slot for each member that may stand there, and for oneself the vote that one cast
abbrev pub is_fit : Ballot → Measure → List Slot → Bool
is_fit d w slots = (length slots == length d.members.now) && (list_all (may_stand (ballot_of d)) slots && are_same (slice_get slots w.seat) w.vote)

-- an estimate in this ballot, of whatever round
abbrev pub is_estimate_in : About → Text → Bool
is_estimate_in (OfEpoch e) (Jest d round slots) = d == e
is_estimate_in (OfCall e k) (Est d j round slots) = (d == e) && (j == k)
is_estimate_in about other = false
