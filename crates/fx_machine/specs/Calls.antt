-- The action of a call, by what it is and where it stands.
use Rattle.std.specs.Prelude.{ℤ, negsuc, if◌then◌else◌, List, [], ◌∷◌, Option, Some, None}
use Rattle.std.specs.Int.{w64, int_bit_and}
use Rattle.fx_base.specs.declared.names.GroupId.{GroupId}
use Rattle.fx_base.specs.declared.names.Stamp.{Stamp}
use Rattle.fx_ballot.specs.Turn.{Phase}
use Rattle.fx_link.specs.declared.slot.Slot.{Slot}
use Rattle.fx_link.specs.declared.slot.Slot.TheVariants as slot
use Rattle.fx_walk.specs.declared.wanted.Wanted.{Wanted}
use Rattle.fx_walk.specs.declared.wanted.Wanted.TheVariants as wanted
use Rattle.fx_walk.specs.Walk.{Walk, Asks, Reply}
use Rattle.fx_machine.specs.Ballots.{in_ballot}
use Rattle.fx_machine.specs.Closing.{in_sharing, closes}
use Rattle.fx_machine.specs.Creating.{Creation, creation, in_telling, in_giving, creates}
use Rattle.fx_machine.specs.Gathering.{in_gathering, passes, returns_number}
use Rattle.fx_machine.specs.Groups.{deleting}
use Rattle.fx_machine.specs.Nodes.{Node, Act, Core, Gathering, Sharing, Telling, Giving, Balloting, Stage, Calling, members, with_group}
use Rattle.fx_machine.specs.Setup.{Setup}
use Rattle.fx_machine.specs.Waits.{Error, call_ballot, first_error, all_agree, returns_error}

-- ---- the decision of a ballot

-- the bits that all flags have
abbrev pub common_bits : List Slot → ℤ
common_bits [] = negsuc 0
common_bits (slot.Flag n ∷ slots) = int_bit_and w64 n (common_bits slots)
common_bits (other ∷ slots) = common_bits slots

-- the snapshot is deleted
abbrev pub deletes : Node → GroupId → Stamp → (Reply → Walk) → Act
deletes n g stamp rest = passes (with_group g.0 (deleting stamp.0 (n.groups g.0)) n) rest

-- what the call was for
abbrev pub affirmed : Setup → Node → Wanted → (Reply → Walk) → List Slot → Option Act
affirmed s n (wanted.Agree flag) rest slots = Some (returns_number n rest (common_bits slots))
affirmed s n (wanted.Close g) rest slots = Some (closes s n g rest)
affirmed s n (wanted.Group g start depth) rest slots = Some (creates s n (creation g start depth) rest slots)
affirmed s n (wanted.Delete g stamp) rest slots = Some (deletes n g stamp rest)
affirmed s n other rest slots = None

-- the first error of the slots; without one, and where all are affirmative, what the call was for
abbrev pub unless_error : Setup → Node → Wanted → (Reply → Walk) → List Slot → Option Error → Option Act
unless_error s n w rest slots (Some error) = Some (returns_error n error)
unless_error s n w rest slots None = if all_agree slots then affirmed s n w rest slots else None

abbrev pub decides_call : Setup → Node → Wanted → (Reply → Walk) → List Slot → Option Act
decides_call s n w rest slots = unless_error s n w rest slots (first_error (members n) slots)

-- ---- all calls

-- the stage in a phase of the ballot of its call
abbrev pub balloting : Phase → Stage
balloting phase = Calling (Balloting phase)

-- the action in the ballot of its call
abbrev pub in_call_ballot : Setup → Node → Wanted → (Reply → Walk) → Phase → Option Act
in_call_ballot s n w rest phase = in_ballot (call_ballot n w) n balloting (decides_call s n w rest) phase

-- the action while tells or helps, or gives are awaited in a creation
abbrev pub in_creation : Setup → Node → Creation → Core → Option Act
in_creation s n c Telling = in_telling s n c
in_creation s n c Giving = in_giving s n c
in_creation s n c other = None

-- the action in front of a call's ballot, or of a call without one; none where the call has no such wait
abbrev pub in_front : Setup → Node → Wanted → (Reply → Walk) → Core → Option Act
in_front s n wanted.Barrier rest Gathering = in_gathering n wanted.Barrier rest
in_front s n (wanted.Reduce op own) rest Gathering = in_gathering n (wanted.Reduce op own) rest
in_front s n (wanted.Shift by elements) rest Gathering = in_gathering n (wanted.Shift by elements) rest
in_front s n (wanted.Close g) rest Sharing = in_sharing s n (n.groups g.0)
in_front s n (wanted.Group g start depth) rest core = in_creation s n (creation g start depth) core
in_front s n w rest other = None

-- the action of a call
abbrev pub in_call : Setup → Node → Wanted → (Reply → Walk) → Core → Option Act
in_call s n w rest (Balloting phase) = in_call_ballot s n w rest phase
in_call s n w rest core = in_front s n w rest core

-- the call is what the walk asks for
abbrev pub in_asked_call : Setup → Node → Core → Walk → Option Act
in_asked_call s n core (Asks place w state rest) = in_call s n w rest core
in_asked_call s n core other = None
