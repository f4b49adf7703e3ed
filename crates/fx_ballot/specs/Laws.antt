-- What holds in every state that a list of moves leads to.
use Rattle.std.specs.Prelude.{◌≡◌, ◌≢◌, ◌⊎◌, ◌<◌, ℕ, Bool, true, false, nat_lt, List, [], ◌∷◌, length, slice_get, Option, Some, None, IsSome}
use Rattle.fx_link.specs.declared.slot.Slot.{Slot}
use Rattle.fx_link.specs.declared.slot.Slot.TheVariants.{Lost, Left}
use Rattle.fx_ballot.specs.declared.poll.Poll.TheVariants as poll
use Rattle.fx_ballot.specs.Turn.{Phase, Outside, Voting, Round, Decided, Message, Vote, Estimate, Leaving}
use Rattle.fx_ballot.specs.World.{World, stays, is_outside, among, turn_of, leaves, Move, Enter, Act, Hear, Leave, Kill, Tell, enabled, happens, run, start}

-- the vote that a process cast, where it entered
abbrev pub vote_of : World → ℕ → Option Slot
vote_of w p = ((w.member p).heard p).vote

-- the estimate that a process sent, where it did
abbrev pub estimate_of : World → ℕ → Option (List Slot)
estimate_of w p = ((w.member p).heard p).estimate

-- the slots that a phase holds, where it holds an estimate or a decision
abbrev pub held : Phase → Option (List Slot)
held Outside = None
held Voting = None
held (Round r slots) = Some slots
held (Decided slots) = Some slots

-- the phase is past the round of seat b
abbrev pub past : ℕ → Phase → Bool
past b Outside = false
past b Voting = false
past b (Round r slots) = nat_lt b r
past b (Decided slots) = true

-- the message stands in the list
abbrev pub StandsIn : Message → List Message → Type 0
StandsIn x [] = ⊥
StandsIn x (y ∷ ys) = (x ≡ y) ⊎ StandsIn x ys

-- process q has heard the estimate of round r, or it is under way to q
abbrev pub Reaches : World → (ℕ → ℕ) → ℕ → ℕ → List Slot → Type 0
Reaches w name q r slots = (((w.member q).heard (name r)).estimate ≡ Some slots) ⊎ ((a : ℕ) × StandsIn (Estimate r slots) (w.link a q))

-- two members that decided hold the same slots, whether they live, were killed or left
abbrev pub OneDecision : World → Type 0
OneDecision w = (p q : ℕ) (f g : List Slot) → (w.member p).phase ≡ Decided f → (w.member q).phase ≡ Decided g → f ≡ g

-- the slot of a process is its vote; or it is lost, and the process was killed; or left, and the process left without having entered
abbrev pub IsTrueSlot : World → ℕ → Slot → Type 0
IsTrueSlot w p slot =
    (vote_of w p ≡ Some slot) ⊎ ((slot ≡ Lost) × ((w.member p).living ≡ false)) ⊎ ((slot ≡ Left) × ((w.member p).gone ≡ true) × ((w.member p).phase ≡ Outside))

-- one slot for each seat, each a true slot of the process at its seat
pub record TrueSlots (n : ℕ) (name : ℕ → ℕ) (w : World) (slots : List Slot) : Type 0 where
  pub size : length slots ≡ n
  pub each : (k : ℕ) (slot : Slot) → slice_get slots k ≡ Some slot → IsTrueSlot w (name k) slot

-- every estimate that a member holds, and every decision, has true slots
abbrev pub Origin : ℕ → (ℕ → ℕ) → World → Type 0
Origin n name w = (p : ℕ) (slots : List Slot) → held (w.member p).phase ≡ Some slots → TrueSlots n name w slots

-- once somebody decided, a member that was neither killed nor left is past its own round and holds the decided slots, and
-- so does each estimate that it may still adopt
pub record Settled (n : ℕ) (name : ℕ → ℕ) (w : World) (decided : List Slot) (i : ℕ) : Type 0 where
  pub own_round : past i (w.member (name i)).phase ≡ true
  pub holds : held (w.member (name i)).phase ≡ Some decided
  pub adopts : (r : ℕ) (slots : List Slot) → r < n → past r (w.member (name i)).phase ≡ false → Reaches w name (name i) r slots → slots ≡ decided

-- what still is open once somebody decided is settled, for each member that stays
abbrev pub StillOpen : ℕ → (ℕ → ℕ) → World → Type 0
StillOpen n name w =
    (p : ℕ) (decided : List Slot) → (w.member p).phase ≡ Decided decided
    → (i : ℕ) → i < n → stays (w.member (name i)) ≡ true → Settled n name w decided i

-- who has seen another leave and wasn't told of its loss has heard its vote and its estimate, where it sent them
pub record HeardAll (w : World) (p c : ℕ) : Type 0 where
  pub vote : ((w.member p).heard c).vote ≡ vote_of w c
  pub estimate : ((w.member p).heard c).estimate ≡ estimate_of w c

-- a leaving that was seen, where no loss was told, tells that all was heard
abbrev pub LeavingTellsAll : ℕ → (ℕ → ℕ) → World → Type 0
LeavingTellsAll n name w =
    (p c : ℕ) → among n name p ≡ true → ((w.member p).heard c).left ≡ true → ((w.member p).heard c).lost ≡ false → HeardAll w p c

-- a member that has entered and lives has cast a vote, and finds it in its own slot of every estimate that it heard or that is
-- under way to it
abbrev pub OwnSlot : ℕ → (ℕ → ℕ) → World → Type 0
OwnSlot n name w =
    (i r : ℕ) (slots : List Slot) → i < n → r < n → is_outside (w.member (name i)).phase ≡ false → (w.member (name i)).living ≡ true
    → Reaches w name (name i) r slots → (slice_get slots i ≡ vote_of w (name i)) × IsSome (vote_of w (name i))

-- an estimate that is under way was sent by the member of its round
abbrev pub RoundsNameTheirSender : ℕ → (ℕ → ℕ) → World → Type 0
RoundsNameTheirSender n name w = (a q r : ℕ) (slots : List Slot) → StandsIn (Estimate r slots) (w.link a q) → (r < n) × (name r ≡ a)

-- the move is the entering of process p with the vote
abbrev pub EntersWith : (ℕ → ℕ) → ℕ → Slot → Move → Type 0
EntersWith name p vote (Enter i slot) = (name i ≡ p) × (slot ≡ vote)
EntersWith name p vote (Act i) = ⊥
EntersWith name p vote (Hear i j) = ⊥
EntersWith name p vote (Leave i) = ⊥
EntersWith name p vote (Kill i) = ⊥
EntersWith name p vote (Tell i j) = ⊥

-- the move is the leaving of process p
abbrev pub Leaves : (ℕ → ℕ) → ℕ → Move → Type 0
Leaves name p (Enter i slot) = ⊥
Leaves name p (Act i) = ⊥
Leaves name p (Hear i j) = ⊥
Leaves name p (Leave i) = name i ≡ p
Leaves name p (Kill i) = ⊥
Leaves name p (Tell i j) = ⊥

-- the move is the killing of process p
abbrev pub KillsIt : (ℕ → ℕ) → ℕ → Move → Type 0
KillsIt name p (Enter i slot) = ⊥
KillsIt name p (Act i) = ⊥
KillsIt name p (Hear i j) = ⊥
KillsIt name p (Leave i) = ⊥
KillsIt name p (Kill i) = name i ≡ p
KillsIt name p (Tell i j) = ⊥

-- it holds of a move of the list that was enabled when it came, the first of them in the world given
abbrev pub SomeMove : ℕ → (ℕ → ℕ) → (Move → Type 0) → World → List Move → Type 0
SomeMove n name P w [] = ⊥
SomeMove n name P w (move ∷ moves) = (P move × (enabled n name w move ≡ true)) ⊎ SomeMove n name P (happens n name w move) moves

-- a vote that counts as cast was cast by an entering, who is gone left by a leaving, who doesn't live was killed: by a move that
-- was enabled
pub record Happened (n : ℕ) (name : ℕ → ℕ) (moves : List Move) : Type 0 where
  pub votes : (p : ℕ) (vote : Slot) → vote_of (run n name moves start) p ≡ Some vote → SomeMove n name (EntersWith name p vote) start moves
  pub gone : (p : ℕ) → ((run n name moves start).member p).gone ≡ true → SomeMove n name (Leaves name p) start moves
  pub killed : (p : ℕ) → ((run n name moves start).member p).living ≡ false → SomeMove n name (KillsIt name p) start moves

-- every estimate that a process heard, or that is under way to it, has true slots
abbrev pub OriginOfSaid : ℕ → (ℕ → ℕ) → World → Type 0
OriginOfSaid n name w = (q r : ℕ) (slots : List Slot) → r < n → Reaches w name q r slots → TrueSlots n name w slots

-- a member that is past its own round has sent its estimate
abbrev pub PastHasSent : ℕ → (ℕ → ℕ) → World → Type 0
PastHasSent n name w = (c : ℕ) → c < n → past c (w.member (name c)).phase ≡ true → IsSome (estimate_of w (name c))

-- a process that cast no vote and said no estimate; it may have left
pub record Wordless (w : World) (p : ℕ) : Type 0 where
  pub phase : (w.member p).phase ≡ Outside
  pub vote : vote_of w p ≡ None
  pub estimate : estimate_of w p ≡ None

-- each message of the list is a leaving
abbrev pub OnlyLeavings : List Message → Type 0
OnlyLeavings [] = Unit {0}
OnlyLeavings (Vote slot ∷ xs) = ⊥
OnlyLeavings (Estimate r slots ∷ xs) = ⊥
OnlyLeavings (Leaving ∷ xs) = OnlyLeavings xs

-- nothing but leavings of the process is under way, and nobody has heard a vote or an estimate of it
pub record OnlyLeft (w : World) (p : ℕ) : Type 0 where
  pub wordless : Wordless w p
  pub under_way : (q : ℕ) → OnlyLeavings (w.link p q)
  pub vote : (q : ℕ) → ((w.member q).heard p).vote ≡ None
  pub estimate : (q : ℕ) → ((w.member q).heard p).estimate ≡ None

-- a process without a seat says nothing, also once it has left
abbrev pub StrangersOnlyLeave : ℕ → (ℕ → ℕ) → World → Type 0
StrangersOnlyLeave n name w = (p : ℕ) (to : ℕ → Bool) → among n name p ≡ false → OnlyLeft w p × OnlyLeft (leaves to p w) p

-- each member that stays has entered
abbrev pub AllEntered : ℕ → (ℕ → ℕ) → World → Type 0
AllEntered n name w = (c : ℕ) → c < n → stays (w.member (name c)) ≡ true → is_outside (w.member (name c)).phase ≡ false

-- the process has heard all that the members sent it, and was told of each that was killed
pub record Attentive (n : ℕ) (name : ℕ → ℕ) (w : World) (p : ℕ) : Type 0 where
  pub clear : (c : ℕ) → c < n → name c ≢ p → w.link (name c) p ≡ []
  pub told : (c : ℕ) → c < n → name c ≢ p → (w.member (name c)).living ≡ false → ((w.member p).heard (name c)).lost ≡ true

-- the member at seat m stays; where it is in another's round, that member is past the round, or doesn't stay
pub record Unblocked (n : ℕ) (name : ℕ → ℕ) (w : World) (m : ℕ) : Type 0 where
  pub here : stays (w.member (name m)) ≡ true
  pub round : (r : ℕ) (slots : List Slot) → (w.member (name m)).phase ≡ Round r slots → r < n → r ≢ m → stays (w.member (name r)) ≡ true
      → past r (w.member (name r)).phase ≡ true

-- once all have entered, a member that has heard all, was told of all and isn't held back by a lower one has a turn
abbrev pub ClearLinksEnable : ℕ → (ℕ → ℕ) → World → Type 0
ClearLinksEnable n name w =
    (m : ℕ) → m < n → AllEntered n name w → Attentive n name w (name m) → Unblocked n name w m
    → (turn_of n name m (w.member (name m))).poll ≢ poll.NotYet
