-- What a node reads among the texts that it keeps: of those that fit the first one. So what it knows in a ballot or a call is a function
-- of what it keeps and of whose loss it was told.
use Rattle.std.specs.Prelude.{ℕ, suc, ℤ, Bool, true, false, not, ◌&&◌, ◌||◌, ◌==◌, nat_lt, nat_le, List, [], ◌∷◌, length, slice_get, Option, Some, None, is_some}
use Rattle.std.specs.List.{list_all}
use Rattle.std.specs.Ordering.{int_eq}
use Rattle.fx_ballot.specs.declared.heard.Heard.{Heard}
use Rattle.fx_ballot.specs.Names.{seat_at, seat_of, has}
use Rattle.fx_ballot.specs.Turn.{Phase, Turn, turn}
use Rattle.std.specs.Option.{option_or}
use Rattle.fx_link.specs.declared.slot.Slot.{Slot}
use Rattle.fx_link.specs.declared.slot.Slot.TheVariants as slot
use Rattle.fx_machine.specs.Nodes.{Node}
use Rattle.fx_machine.specs.Texts.{Packed, Known, Text, Join, Jest, Part, Vote, Est, Share, Tell, Help, Give}

-- ---- what a text says, where it is of the kind that is asked for

-- the value where the test holds
abbrev pub given_that : {X : Type 0} → Bool → X → Option X
given_that true x = Some x
given_that false x = None

-- the value where it passes the test
abbrev pub only : {X : Type 0} → (X → Bool) → Option X → Option X
only test None = None
only test (Some x) = given_that (test x) x

-- of texts the first that can be read
abbrev pub first_read : {X : Type 0} → (Text → Option X) → List Text → Option X
first_read read [] = None
first_read read (t ∷ ts) = option_or (read t) (first_read read ts)

-- the values of a part in this call
abbrev pub part_in : (epoch call : ℕ) → Text → Option (List ℤ)
part_in e k (Part d j values) = given_that ((d == e) && (j == k)) values
part_in e k other = None

-- the snapshots of a share in this call
abbrev pub share_in : (epoch call : ℕ) → Text → Option Packed
share_in e k (Share d j packed) = given_that ((d == e) && (j == k)) packed
share_in e k other = None

-- what is told in this call
abbrev pub tell_in : (epoch call : ℕ) → Text → Option (Option Known)
tell_in e k (Tell d j known) = given_that ((d == e) && (j == k)) known
tell_in e k other = None

-- the help in this call
abbrev pub help_in : (epoch call : ℕ) → Text → Option Packed
help_in e k (Help d j packed) = given_that ((d == e) && (j == k)) packed
help_in e k other = None

-- what is given in this call
abbrev pub give_in : (epoch call : ℕ) → Text → Option Packed
give_in e k (Give d j packed) = given_that ((d == e) && (j == k)) packed
give_in e k other = None

-- ---- ballots

-- what a ballot is about: the begin of an epoch, or a call in one
pub data About : Type 0 where
  OfEpoch : (epoch : ℕ) → About
  OfCall : (epoch call : ℕ) → About

-- a ballot: its members, by seat, and what a vote may be
pub record Ballot : Type 0 where
  pub about : About
  pub members : List ℕ
  pub is_vote : Slot → Bool

-- the text of a vote
abbrev pub vote_text : About → Slot → Text
vote_text (OfEpoch e) x = Join e x
vote_text (OfCall e k) x = Vote e k x

-- the text of the estimate of a round
abbrev pub estimate_text : About → ℕ → List Slot → Text
estimate_text (OfEpoch e) r slots = Jest e r slots
estimate_text (OfCall e k) r slots = Est e k r slots

-- the vote of a text in this ballot
abbrev pub vote_in : About → Text → Option Slot
vote_in (OfEpoch e) (Join d x) = given_that (d == e) x
vote_in (OfCall e k) (Vote d j x) = given_that ((d == e) && (j == k)) x
vote_in about other = None

-- the estimate of a text in this ballot, where it is of this round
abbrev pub estimate_in : About → ℕ → Text → Option (List Slot)
estimate_in (OfEpoch e) r (Jest d q slots) = given_that ((d == e) && (q == r)) slots
estimate_in (OfCall e k) r (Est d j q slots) = given_that ((d == e) && ((j == k) && (q == r))) slots
estimate_in about r other = None

-- who left counts as left in the ballot of a call alone
abbrev pub is_of_call : About → Bool
is_of_call (OfEpoch e) = false
is_of_call (OfCall e k) = true

-- ---- votes, and who left

-- what a join of this epoch may be
abbrev pub is_join : ℕ → Slot → Bool
is_join epoch slot.Start = epoch == 1
is_join epoch slot.Spare = not (epoch == 1)
is_join epoch slot.Error = not (epoch == 1)
is_join epoch slot.Final = not (epoch == 1)
is_join epoch other = false

-- the ballot of the next epoch: its members are those that are present
abbrev pub next_ballot : Node → Ballot
next_ballot n = record { about = OfEpoch (suc n.epoch); members = n.present; is_vote = is_join (suc n.epoch) }

-- the vote of q that was heard; one's own counts as it is
abbrev pub vote_of : Ballot → Node → ℕ → Option Slot
vote_of b n q = first_read (λ t. only (λ x. (q == n.me) || b.is_vote x) (vote_in b.about t)) (n.texts q)

-- a present process has left once its join of the next epoch came
abbrev pub has_left : Node → ℕ → Bool
has_left n q = has n.present q && is_some (vote_of (next_ballot n) n q)

-- ---- estimates

abbrev pub is_lost : Slot → Bool
is_lost slot.Lost = true
is_lost other = false

abbrev pub is_left : Slot → Bool
is_left slot.Left = true
is_left other = false

abbrev pub same_slot : Slot → Slot → Bool
same_slot slot.Start slot.Start = true
same_slot slot.Spare slot.Spare = true
same_slot slot.Error slot.Error = true
same_slot slot.Final slot.Final = true
same_slot slot.Yes slot.Yes = true
same_slot (slot.Flag n) (slot.Flag m) = int_eq n m
same_slot slot.Fresh slot.Fresh = true
same_slot slot.Kept slot.Kept = true
same_slot slot.Gone slot.Gone = true
same_slot (slot.NoLost p) (slot.NoLost q) = p.0 == q.0
same_slot (slot.NoLeft p) (slot.NoLeft q) = p.0 == q.0
same_slot slot.Lost slot.Lost = true
same_slot slot.Left slot.Left = true
same_slot one other = false

-- both are there and the same
abbrev pub are_same : Option Slot → Option Slot → Bool
are_same (Some one) (Some other) = same_slot one other
are_same one other = false

-- what may stand in an estimate: a vote, or lost, or in a call left
abbrev pub may_stand : Ballot → Slot → Bool
may_stand b x = b.is_vote x || (is_lost x || (is_of_call b.about && is_left x))

-- an estimate fits where it has a slot for each member that may stand there, and for oneself the vote that one cast
abbrev pub fits : Ballot → Node → List Slot → Bool
fits b n slots = (length slots == length b.members) && (list_all (may_stand b) slots && are_same (slice_get slots (seat_of b.members n.me)) (vote_of b n n.me))

-- the estimate of q that was heard, of the round of its seat; one's own counts as it is
abbrev pub estimate_of : Ballot → Node → ℕ → Option (List Slot)
estimate_of b n q = first_read (λ t. only (λ slots. (q == n.me) || fits b n slots) (estimate_in b.about (seat_of b.members q) t)) (n.texts q)

-- ---- turns

-- what it knows of a process in a ballot
abbrev pub seen : Ballot → Node → ℕ → Heard
seen b n q = record { vote = vote_of b n q; estimate = estimate_of b n q; lost = n.lost q; left = is_of_call b.about && has_left n q }

-- its turn in a phase of a ballot
abbrev pub turn_in : Ballot → Node → Phase → Turn
turn_in b n phase = turn (length b.members) (seat_of b.members n.me) (λ k. seen b n (seat_at b.members k)) phase

-- ---- what is over

-- a call is over, for who has come to this call of this epoch
abbrev pub is_past_call : (epoch calls : ℕ) → (e k : ℕ) → Bool
is_past_call epoch calls e k = nat_lt e epoch || ((e == epoch) && nat_lt k calls)

-- a text is of a ballot or of a call that is over, for who has come to this call of this epoch
abbrev pub is_past_at : (epoch calls : ℕ) → Text → Bool
is_past_at epoch calls (Join e kind) = nat_le e epoch
is_past_at epoch calls (Jest e r slots) = nat_le e epoch
is_past_at epoch calls (Part e k values) = is_past_call epoch calls e k
is_past_at epoch calls (Vote e k x) = is_past_call epoch calls e k
is_past_at epoch calls (Est e k r slots) = is_past_call epoch calls e k
is_past_at epoch calls (Share e k packed) = is_past_call epoch calls e k
is_past_at epoch calls (Tell e k known) = is_past_call epoch calls e k
is_past_at epoch calls (Help e k packed) = is_past_call epoch calls e k
is_past_at epoch calls (Give e k packed) = is_past_call epoch calls e k

-- no later action of a node reads a text that is past, so it may forget it
abbrev pub is_past : Node → Text → Bool
is_past n t = is_past_at n.epoch n.calls t
