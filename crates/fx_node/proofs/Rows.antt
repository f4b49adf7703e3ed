-- A shift by one, and an agreement, among three places.
use Rattle.std.specs.Prelude.{◌≡◌, refl, ℕ, pos, negsuc, List, [], ◌∷◌, Option, Some}
use Rattle.fx_comm.specs.Seats.{Seat}
use Rattle.fx_link.specs.declared.message.Message.{Message}
use Rattle.fx_link.specs.declared.message.Message.TheVariants as message
use Rattle.fx_link.specs.declared.slot.Slot.{Slot}
use Rattle.fx_link.specs.declared.slot.Slot.TheVariants as slot
use Rattle.fx_machine.specs.Calls.{decides_call}
use Rattle.fx_machine.specs.Gathering.{due_from, returns_number, source_of, target_of}
use Rattle.fx_machine.specs.Nodes.{Act, Node, procs_of}
use Rattle.fx_machine.specs.Numbers.{call_no, epoch_no, proc}
use Rattle.fx_machine.specs.Setup.{Setup}
use Rattle.fx_machine.specs.Waits.{ByLeaving, ByLoss, returns_error}
use Rattle.fx_node.specs.Asking.{share_of, to_seats}
use Rattle.fx_node.specs.Stepping.{broadcast}
use Rattle.fx_walk.specs.Walk.{Reply, Walk}
use Rattle.fx_walk.specs.declared.wanted.Wanted.TheVariants as wanted

-- processes 4, 5 and 6 have the places
abbrev three_seats : List Seat
three_seats = (record { 0 = 0 }, proc 4) ∷ (record { 0 = 1 }, proc 5) ∷ (record { 0 = 2 }, proc 6) ∷ []

abbrev meant : ℕ → ℕ → Message
meant mine x = message.Part (epoch_no 1) (call_no 2) (share_of (Some (target_of 3 1 mine)) (pos 7 ∷ pos 8 ∷ []) x)

-- the first place gives its elements to the second, and nothing to the third
first_gives : to_seats 4 (meant 0) 0 three_seats ≡ (proc 5, message.Part (epoch_no 1) (call_no 2) (pos 7 ∷ pos 8 ∷ [])) ∷ (proc 6, message.Part (epoch_no 1) (call_no 2) []) ∷ []
first_gives = refl

-- behind the last place comes the first
last_gives : to_seats 6 (meant 2) 0 three_seats ≡ (proc 4, message.Part (epoch_no 1) (call_no 2) (pos 7 ∷ pos 8 ∷ [])) ∷ (proc 5, message.Part (epoch_no 1) (call_no 2) []) ∷ []
last_gives = refl

-- to the first place two elements are due from the last, and none from the second
from_the_last : due_from (wanted.Shift 1 (pos 7 ∷ pos 8 ∷ [])) 3 0 2 ≡ 2
from_the_last = refl

from_the_second : due_from (wanted.Shift 1 (pos 7 ∷ pos 8 ∷ [])) 3 0 1 ≡ 0
from_the_second = refl

its_source : source_of 3 1 0 ≡ 2
its_source = refl

-- ---- an agreement

-- the second place says its flag to the first and to the third
second_votes : broadcast 5 (procs_of three_seats) (message.Vote (epoch_no 1) (call_no 2) (slot.Flag (pos 6)))
    ≡ (proc 4, message.Vote (epoch_no 1) (call_no 2) (slot.Flag (pos 6))) ∷ (proc 6, message.Vote (epoch_no 1) (call_no 2) (slot.Flag (pos 6))) ∷ []
second_votes = refl

-- what it comes to for a process of these places, by the slots that were decided
abbrev decided : Setup → Node → (Reply → Walk) → List Slot → Option Act
decided s n rest slots = decides_call s (record n { comm = three_seats }) (wanted.Agree (pos 6)) rest slots

-- of 6, 3 and -1 it returns the bits that all have
returns_bits : (s : Setup) (n : Node) (rest : Reply → Walk) → decided s n rest (slot.Flag (pos 6) ∷ slot.Flag (pos 3) ∷ slot.Flag (negsuc 0) ∷ []) ≡ Some (returns_number (record n { comm = three_seats }) rest (pos 2))
returns_bits s n rest = refl

-- where the second is lost it fails by process 5, though the third left
fails_by_the_second : (s : Setup) (n : Node) (rest : Reply → Walk) → decided s n rest (slot.Flag (pos 6) ∷ slot.Lost ∷ slot.Left ∷ []) ≡ Some (returns_error (record n { comm = three_seats }) (ByLoss 5))
fails_by_the_second s n rest = refl

-- where the first left it is revoked by process 4, though the second is lost
revoked_by_the_first : (s : Setup) (n : Node) (rest : Reply → Walk) → decided s n rest (slot.Left ∷ slot.Lost ∷ slot.Flag (pos 6) ∷ []) ≡ Some (returns_error (record n { comm = three_seats }) (ByLeaving 4))
revoked_by_the_first s n rest = refl
