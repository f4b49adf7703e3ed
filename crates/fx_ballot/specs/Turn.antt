-- One member of a ballot: where it stands, what it knows of each member, and its next turn.
use Rattle.std.specs.Prelude.{ℕ, zero, suc, Bool, true, false, ◌||◌, if◌then◌else◌, ◌==◌, nat_lt, List, [], ◌∷◌, ◌++◌, Option, Some, None}
use Rattle.fx_link.specs.declared.slot.Slot.{Slot}
use Rattle.fx_link.specs.declared.slot.Slot.TheVariants.{Lost, Left}
use Rattle.fx_ballot.specs.declared.heard.Heard.{Heard}
use Rattle.fx_ballot.specs.declared.poll.Poll.{Poll}
use Rattle.fx_ballot.specs.declared.poll.Poll.TheVariants as poll

-- where a member stands: it hasn't entered; it gathers votes; it holds an estimate, and the round of the numbered seat is
-- the next to be passed; it has decided
pub data Phase : Type 0 where
  Outside : Phase
  Voting : Phase
  Round : ℕ → List Slot → Phase
  Decided : List Slot → Phase

-- what members say to one another: a vote, the estimate of the round of the numbered seat, that they leave
pub data Message : Type 0 where
  Vote : Slot → Message
  Estimate : ℕ → List Slot → Message
  Leaving : Message

-- the first of what was heard stays
abbrev pub earliest : {X : Type 0} → Option X → X → Option X
earliest None x = Some x
earliest (Some y) x = Some y

-- what is known of a member once a message of it is heard
abbrev pub hear : Message → Heard → Heard
hear (Vote slot) h = record h { vote = earliest h.vote slot }
hear (Estimate round slots) h = record h { estimate = earliest h.estimate slots }
hear Leaving h = record h { left = true }

-- what is known of a member once one is told of its loss
abbrev pub learn_loss : Heard → Heard
learn_loss h = record h { lost = true }

-- nothing is known of a member
abbrev pub unheard : Heard
unheard = record { vote = None; estimate = None; lost = false; left = false }

-- the slot of a member whose vote wasn't heard
abbrev pub missing_slot : Bool → Bool → Option Slot
missing_slot true left = Some Lost
missing_slot false true = Some Left
missing_slot false false = None

-- a member's slot: its vote where that was heard, else lost, else left; not known where it is none of these
abbrev pub slot_of : Option Slot → Bool → Bool → Option Slot
slot_of (Some slot) lost left = Some slot
slot_of None lost left = missing_slot lost left

-- the list with one more slot, where both are known
abbrev pub with_slot : Option (List Slot) → Option Slot → Option (List Slot)
with_slot (Some slots) (Some slot) = Some (slots ++ slot ∷ [])
with_slot (Some slots) None = None
with_slot None slot = None

-- the slots of the first n seats, where all of them are known
abbrev pub slots_of : (ℕ → Heard) → ℕ → Option (List Slot)
slots_of seen zero = Some []
slots_of seen (suc n) = with_slot (slots_of seen n) (slot_of (seen n).vote (seen n).lost (seen n).left)

-- a turn: where the member stands after it, and what the turn does
pub record Turn : Type 0 where
  pub phase : Phase
  pub poll : Poll

-- nothing is enabled
abbrev pub waits : Phase → Turn
waits phase = record { phase = phase; poll = poll.NotYet }

-- with all slots known they are the estimate, and round 0 is next
abbrev pub form : Option (List Slot) → Turn
form None = waits Voting
form (Some slots) = record { phase = Round 0 slots; poll = poll.Moved }

-- in its own round a member says its estimate and goes on
abbrev pub speak : ℕ → List Slot → Turn
speak r held = record { phase = Round (suc r) held; poll = poll.SendEstimate held }

-- in another's round it adopts that member's estimate where it was heard; else it goes on where that member is lost or left
abbrev pub follow : ℕ → List Slot → Option (List Slot) → Bool → Turn
follow r held (Some slots) away = record { phase = Round (suc r) slots; poll = poll.Moved }
follow r held None true = record { phase = Round (suc r) held; poll = poll.Moved }
follow r held None false = waits (Round r held)

-- what is held is decided
abbrev pub decide : List Slot → Turn
decide held = record { phase = Decided held; poll = poll.Decided held }

-- the one turn that a member's phase and knowledge enable, in a ballot of n seats, for the member at seat i
abbrev pub turn : ℕ → ℕ → (ℕ → Heard) → Phase → Turn
turn n i seen Outside = waits Outside
turn n i seen Voting = form (slots_of seen n)
turn n i seen (Round r held) =
    if nat_lt r n then (if r == i then speak r held else follow r held (seen r).estimate ((seen r).lost || (seen r).left)) else decide held
turn n i seen (Decided held) = decide held
