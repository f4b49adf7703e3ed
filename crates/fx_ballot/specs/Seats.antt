-- A member as it keeps itself: what it knows of each seat, in a list; and how that reads by process.
use Rattle.std.specs.Prelude.{◌≡◌, length, Option, ◌≢◌, ◌<◌, ℕ, zero, suc, Bool, true, false, if◌then◌else◌, ◌==◌, List, replicate, slice_index_or, slice_set, Some, None}
use Rattle.fx_link.specs.declared.slot.Slot.{Slot}
use Rattle.fx_ballot.specs.declared.heard.Heard.{Heard}
use Rattle.fx_ballot.specs.declared.poll.Poll.{Poll}
use Rattle.fx_ballot.specs.declared.poll.Poll.TheVariants as poll
use Rattle.fx_ballot.specs.Turn.{Phase, Outside, Voting, Round, Decided, Message, hear, learn_loss, unheard, Turn, turn}
use Rattle.fx_ballot.specs.World.{Member, Apart}

-- the number of members, its own seat, its phase, what it knows of each seat, and whether memory ran out
pub record Seated : Type 0 where
  pub members : ℕ
  pub me : ℕ
  pub phase : Phase
  pub heard : List Heard
  pub failed : Bool

-- what is known of a seat
abbrev pub at_seat : List Heard → ℕ → Heard
at_seat heard k = slice_index_or heard k unheard

-- what is known once seat k is known otherwise
abbrev pub with_seat : ℕ → Heard → Seated → Seated
with_seat k h b = record b { heard = slice_set b.heard k h }

-- a member that has just entered: its vote counts as heard
abbrev pub seated : ℕ → ℕ → Slot → Seated
seated members me vote =
    with_seat me (record unheard { vote = Some vote })
    (record { members = members; me = me; phase = Voting; heard = replicate members unheard; failed = false })

-- it heard a message of seat k
abbrev pub hears_seat : ℕ → Message → Seated → Seated
hears_seat k x b = with_seat k (hear x (at_seat b.heard k)) b

-- it was told that the member at seat k is lost
abbrev pub told_seat : ℕ → Seated → Seated
told_seat k b = with_seat k (learn_loss (at_seat b.heard k)) b

-- its turn
abbrev pub seat_turn : Seated → Turn
seat_turn b = turn b.members b.me (at_seat b.heard) b.phase

-- its own estimate counts as heard, where the turn said one
abbrev pub noting : Poll → Seated → Seated
noting poll.NotYet b = b
noting poll.Moved b = b
noting (poll.SendEstimate slots) b = with_seat b.me (record (at_seat b.heard b.me) { estimate = Some slots }) b
noting (poll.Decided slots) b = b

-- it after its turn
abbrev pub polled : Seated → Seated
polled b = noting (seat_turn b).poll (record b { phase = (seat_turn b).phase })

-- memory ran out
abbrev pub spent : Seated → Seated
spent b = record b { failed = true }

-- what is known of a process: what is known of its seat; of a process that has none of the first n seats nothing
abbrev pub known_of : ℕ → (ℕ → ℕ) → List Heard → ℕ → Heard
known_of zero name heard p = unheard
known_of (suc n) name heard p = if p == name n then at_seat heard n else known_of n name heard p

-- the member of the ballot world that it is, the process at each seat given: it lives and hasn't left
abbrev pub as_member : (ℕ → ℕ) → Seated → Member
as_member name b = record { phase = b.phase; heard = known_of b.members name b.heard; living = true; gone = false }

-- a member's vote is awaited: it wasn't heard, the member isn't lost and hasn't left
abbrev pub NoVote : Heard → Type 0
NoVote h = (h.vote ≡ None) × (h.lost ≡ false) × (h.left ≡ false)

-- a member's estimate is awaited
abbrev pub NoEstimate : Heard → Type 0
NoEstimate h = (h.estimate ≡ None) × (h.lost ≡ false) × (h.left ≡ false)

-- a message is awaited: while votes are gathered, that of some seat; in a round that isn't one's own, that member's estimate
abbrev pub Awaits : ℕ → ℕ → (ℕ → Heard) → Phase → Type 0
Awaits n i seen Outside = Unit {0}
Awaits n i seen Voting = (k : ℕ) × (k < n) × NoVote (seen k)
Awaits n i seen (Round r held) = (r < n) × (r ≢ i) × NoEstimate (seen r)
Awaits n i seen (Decided held) = ⊥

-- under any names of the seats that are apart, the first becomes the second as the member that it is becomes by the change
abbrev pub InWorld : Seated → Seated → ((ℕ → ℕ) → Member → Member) → Type 0
InWorld old new change = (name : ℕ → ℕ) → Apart old.members name → as_member name new ≡ change name (as_member name old)

-- an estimate that was heard has one slot for each of n members
abbrev pub WholeEstimate : ℕ → Option (List Slot) → Type 0
WholeEstimate n None = Unit {0}
WholeEstimate n (Some slots) = length slots ≡ n

-- the list that a phase holds has one slot for each of n members
abbrev pub WholePhase : ℕ → Phase → Type 0
WholePhase n Outside = Unit {0}
WholePhase n Voting = Unit {0}
WholePhase n (Round r held) = length held ≡ n
WholePhase n (Decided held) = length held ≡ n

-- the list that an answer gives has one slot for each of n members
abbrev pub WholePoll : ℕ → Poll → Type 0
WholePoll n poll.NotYet = Unit {0}
WholePoll n poll.Moved = Unit {0}
WholePoll n (poll.SendEstimate slots) = length slots ≡ n
WholePoll n (poll.Decided slots) = length slots ≡ n

-- a member's own list, and each estimate that it heard, has one slot for each member
pub record Whole (b : Seated) : Type 0 where
  pub seats : length b.heard ≡ b.members
  pub phase : WholePhase b.members b.phase
  pub heard : (k : ℕ) → WholeEstimate b.members (at_seat b.heard k).estimate
