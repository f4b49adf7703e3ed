-- The ballot world: members by process, a link for each ordered pair, and the moves.
use Rattle.std.specs.Prelude.{◌≡◌, ◌<◌, ℕ, zero, suc, Bool, true, false, not, ◌&&◌, if◌then◌else◌, ◌==◌, nat_lt, List, [], ◌∷◌, ◌++◌, Some}
use Rattle.fx_link.specs.declared.slot.Slot.{Slot}
use Rattle.fx_ballot.specs.declared.heard.Heard.{Heard}
use Rattle.fx_ballot.specs.declared.poll.Poll.{Poll}
use Rattle.fx_ballot.specs.declared.poll.Poll.TheVariants as poll
use Rattle.fx_ballot.specs.Turn.{Phase, Outside, Voting, Round, Decided, Message, Vote, Estimate, Leaving, hear, learn_loss, unheard, Turn, turn}

-- a function changed at one number
abbrev pub put : {X : Type 0} → (ℕ → X) → ℕ → X → ℕ → X
put f k x j = if j == k then x else f j

-- one member's state: its phase, what it knows of each process, whether it lives, whether it has left.
-- A member that is killed or has left keeps its record
pub record Member : Type 0 where
  pub phase : Phase
  pub heard : ℕ → Heard
  pub living : Bool
  pub gone : Bool

-- all members, and what is under way from each process to each other, the oldest first
pub record World : Type 0 where
  pub member : ℕ → Member
  pub link : ℕ → ℕ → List Message

-- it hasn't entered, and knows nothing
abbrev pub fresh : Member
fresh = record { phase = Outside; heard = λ p. unheard; living = true; gone = false }

-- nobody has entered, and nothing is under way
abbrev pub start : World
start = record { member = λ p. fresh; link = λ a b. [] }

-- neither killed nor left
abbrev pub stays : Member → Bool
stays m = m.living && not m.gone

-- it hasn't entered
abbrev pub is_outside : Phase → Bool
is_outside Outside = true
is_outside Voting = false
is_outside (Round r held) = false
is_outside (Decided held) = false

-- it hasn't entered, or has decided
abbrev pub may_leave : Phase → Bool
may_leave Outside = true
may_leave Voting = false
may_leave (Round r held) = false
may_leave (Decided held) = true

-- the member once it heard a message of process p. An estimate is kept under its sender, which is the member of its round
abbrev pub after : ℕ → Message → Member → Member
after p x m = record m { heard = put m.heard p (hear x (m.heard p)) }

-- the member once it was told that process p is lost
abbrev pub told : ℕ → Member → Member
told p m = record m { heard = put m.heard p (learn_loss (m.heard p)) }

-- process p enters with a vote, which counts as heard
abbrev pub entered : ℕ → Slot → Member → Member
entered p vote m = record m { phase = Voting; heard = put m.heard p (record (m.heard p) { vote = Some vote }) }

-- what is known of oneself after a turn: one's own estimate counts as heard
abbrev pub own_after : Poll → Heard → Heard
own_after poll.NotYet h = h
own_after poll.Moved h = h
own_after (poll.SendEstimate slots) h = record h { estimate = Some slots }
own_after (poll.Decided slots) h = h

-- the turn of the member at seat i
abbrev pub turn_of : ℕ → (ℕ → ℕ) → ℕ → Member → Turn
turn_of n name i m = turn n i (λ k. m.heard (name k)) m.phase

-- the member at seat i after its turn
abbrev pub acted : ℕ → (ℕ → ℕ) → ℕ → Member → Member
acted n name i m =
    record m { phase = (turn_of n name i m).phase; heard = put m.heard (name i) (own_after (turn_of n name i m).poll (m.heard (name i))) }

-- what the member at seat i sends by a turn
abbrev pub sent_by : ℕ → Poll → List Message
sent_by i poll.NotYet = []
sent_by i poll.Moved = []
sent_by i (poll.SendEstimate slots) = Estimate i slots ∷ []
sent_by i (poll.Decided slots) = []

-- the links once process p sent the messages to all others that are meant. Being told is of a loss alone; these are sent
abbrev pub told_all : (ℕ → Bool) → (ℕ → ℕ → List Message) → ℕ → List Message → ℕ → ℕ → List Message
told_all to link p sent a b = if (a == p) && (to b && not (b == p)) then link a b ++ sent else link a b

-- the links once what is under way from a to b is the list given
abbrev pub put_link : (ℕ → ℕ → List Message) → ℕ → ℕ → List Message → ℕ → ℕ → List Message
put_link link a b rest c d = if (c == a) && (d == b) then rest else link c d

-- the process has one of the first n seats
abbrev pub among : ℕ → (ℕ → ℕ) → ℕ → Bool
among zero name p = false
among (suc n) name p = if p == name n then true else among n name p

-- process p enters with a vote and sends it to all others that are meant
abbrev pub enters : (ℕ → Bool) → ℕ → Slot → World → World
enters to p vote w = record { member = put w.member p (entered p vote (w.member p)); link = told_all to w.link p (Vote vote ∷ []) }

-- the member at seat i takes its turn
abbrev pub acts : ℕ → (ℕ → ℕ) → ℕ → World → World
acts n name i w = record {
  member = put w.member (name i) (acted n name i (w.member (name i)));
  link = told_all (among n name) w.link (name i) (sent_by i (turn_of n name i (w.member (name i))).poll);
}

-- process b hears the front of the link from process a
abbrev pub hears : ℕ → ℕ → List Message → World → World
hears a b [] w = w
hears a b (x ∷ rest) w = record { member = put w.member b (after a x (w.member b)); link = put_link w.link a b rest }

-- process p leaves: it is gone, and on each link from it a leaving comes last
abbrev pub leaves : (ℕ → Bool) → ℕ → World → World
leaves to p w = record { member = put w.member p (record (w.member p) { gone = true }); link = told_all to w.link p (Leaving ∷ []) }

-- process p is killed
abbrev pub kills : ℕ → World → World
kills p w = record w { member = put w.member p (record (w.member p) { living = false }) }

-- the link from process p to process q is emptied, and q is told that p is lost
abbrev pub tells : ℕ → ℕ → World → World
tells p q w = record { member = put w.member q (told p (w.member q)); link = put_link w.link p q [] }

-- the moves; members are named by their seats
pub data Move : Type 0 where
  Enter : ℕ → Slot → Move
  Act : ℕ → Move
  Hear : ℕ → ℕ → Move
  Leave : ℕ → Move
  Kill : ℕ → Move
  Tell : ℕ → ℕ → Move

-- the move is enabled in a world of n members, the process at each seat given. One hears nothing from an empty link
abbrev pub enabled : ℕ → (ℕ → ℕ) → World → Move → Bool
enabled n name w (Enter i vote) = nat_lt i n && (stays (w.member (name i)) && is_outside (w.member (name i)).phase)
enabled n name w (Act i) = nat_lt i n && stays (w.member (name i))
enabled n name w (Hear i j) = nat_lt i n && (nat_lt j n && (w.member (name j)).living)
enabled n name w (Leave i) = nat_lt i n && (stays (w.member (name i)) && may_leave (w.member (name i)).phase)
enabled n name w (Kill i) = nat_lt i n
enabled n name w (Tell i j) = nat_lt i n && (nat_lt j n && (not (i == j) && not (w.member (name i)).living))

-- one move; one that isn't enabled changes nothing
abbrev pub happens : ℕ → (ℕ → ℕ) → World → Move → World
happens n name w (Enter i vote) = if enabled n name w (Enter i vote) then enters (among n name) (name i) vote w else w
happens n name w (Act i) = if enabled n name w (Act i) then acts n name i w else w
happens n name w (Hear i j) = if enabled n name w (Hear i j) then hears (name i) (name j) (w.link (name i) (name j)) w else w
happens n name w (Leave i) = if enabled n name w (Leave i) then leaves (among n name) (name i) w else w
happens n name w (Kill i) = if enabled n name w (Kill i) then kills (name i) w else w
happens n name w (Tell i j) = if enabled n name w (Tell i j) then tells (name i) (name j) w else w

-- one move after another
abbrev pub run : ℕ → (ℕ → ℕ) → List Move → World → World
run n name [] w = w
run n name (move ∷ moves) w = run n name moves (happens n name w move)

-- no two seats have one process
abbrev pub Apart : ℕ → (ℕ → ℕ) → Type 0
Apart n name = (i j : ℕ) → i < n → j < n → name i ≡ name j → i ≡ j

-- the plain names: the member at a seat is the process of that number
abbrev pub plain : ℕ → ℕ
plain k = k
