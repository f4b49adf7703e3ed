-- A process as it runs, and the node that it is defined to be.
use Rattle.std.specs.Prelude.{◌≡◌, ◌+◌, ◌<◌, ◌≤◌, ℕ, ℤ, suc, Bool, false, true, List, All, Some, length, nat_le, slice_get}
use Rattle.std.specs.List.{list_all}
use Rattle.fx_ballot.specs.declared.poll.Poll.{Poll}
use Rattle.fx_ballot.specs.Names.{Distinct, has, seat_of}
use Rattle.fx_base.specs.declared.names.Role.{Role}
use Rattle.fx_check.specs.Rules.{count_of}
use Rattle.fx_comm.specs.Seats.{Seat, has_place}
use Rattle.fx_flow.specs.Flowing.{Flowing, DoesRest, IsFlowOf, state_of}
use Rattle.fx_inbox.specs.declared.phase.Phase.{Phase}
use Rattle.fx_inbox.specs.declared.phase.Phase.TheVariants as phase
use Rattle.fx_inbox.specs.Keeping.{Kept, IsInboxOf, Knows, goes_on, senders}
use Rattle.fx_machine.specs.Texts.{Text, Join, Jest}
use Rattle.fx_machine.specs.Waits.{call_ballot}
use Rattle.fx_inbox.specs.Turns.{IsTurn, Stays, phase_of}
use Rattle.fx_link.specs.declared.slot.Slot.{Slot}
use Rattle.fx_machine.specs.Ballots.{may_join}
use Rattle.fx_machine.specs.Nodes as node
use Rattle.fx_machine.specs.Nodes.{Node, my_place, size}
use Rattle.fx_machine.specs.Reading.{is_join, next_ballot, turn_in, vote_of}
use Rattle.fx_node.specs.declared.stage.Stage.{Stage}
use Rattle.fx_node.specs.declared.stage.Stage.TheVariants as stage
use Rattle.fx_script.specs.declared.job.Job.{Job}
use Rattle.fx_value.specs.Shape.{StaysShaped}
use Rattle.fx_walk.specs.Callbacks.{view_at_init}
use Rattle.fx_walk.specs.declared.action.View.{View}
use Rattle.fx_walk.specs.Lengths.{IsWithin}
use Rattle.fx_walk.specs.declared.wanted.Wanted.{Wanted}
use Rattle.fx_walk.specs.declared.wanted.Wanted.TheVariants as wanted
use Rattle.fx_node.specs.Asking.{AsksSuch, OnlyCarried, gathers_parts, is_agreement}

-- all that a process keeps, and whether memory ran out
pub record Standing : Type 0 where
  pub me : ℕ
  pub ranks : ℕ
  pub epoch : ℕ
  pub comm : List Seat
  pub present : List ℕ
  pub role : Role
  pub calls : ℕ
  pub stage : Stage
  pub view : View
  pub flow : Flowing
  pub inbox : Kept
  pub failed : Bool

-- of how many processes it is one
abbrev pub processes : Standing → ℕ
processes c = senders c.inbox

-- it is one of its processes, of at most 32, and so are all with a place and the members of its ballots, none of whom stands
-- there twice
pub record IsSound (c : Standing) : Type 0 where
  pub few : processes c ≤ 32
  pub one_of_them : c.me < processes c
  pub same : c.inbox.me ≡ c.me
  pub seats : All (λ (s : Seat). s.1.0 < processes c) c.comm
  pub members : All (λ q. q < processes c) c.present
  pub count : length c.present ≤ 32
  pub apart : Distinct c.present

-- its walk stands in the state that the flow keeps
abbrev pub IsStill : Standing → Node → Type 0
IsStill c n = node.state_of n ≡ state_of c.flow

-- if a text is a vote or an estimate in the ballot of an epoch, it is that of this epoch or of one before
abbrev pub is_up_to : ℕ → Text → Bool
is_up_to epoch (Join e kind) = nat_le e epoch
is_up_to epoch (Jest e round slots) = nat_le e epoch
is_up_to epoch other = true

-- so are its own votes and estimates; those in ballots of calls may be of any call
abbrev pub OwnAreUpTo : ℕ → Node → Type 0
OwnAreUpTo epoch n = list_all (is_up_to epoch) (n.texts n.me) ≡ true

-- in the estimate that it holds stands its own vote
abbrev pub HoldsVote : Node → Slot → Phase → Type 0
HoldsVote n vote phase.Voting = Unit {0}
HoldsVote n vote (phase.Round round slots) = slice_get slots (seat_of n.present n.me) ≡ Some vote

-- it has voted in the ballot of the next epoch, of which it is a member
pub record HasVoted (n : Node) (phase : Phase) : Type 0 where
  pub vote : Slot
  pub own : vote_of (next_ballot n) n n.me ≡ Some vote
  pub valid : is_join (suc n.epoch) vote ≡ true
  pub holds : HoldsVote n vote phase
  pub counted : may_join n ≡ true
  pub told : OwnAreUpTo (suc n.epoch) n

-- It does what is left of the node's walk, which asks only for what is carried out, and stays in the shape that the job declares.
-- It has a place. The calls so far and those that can come are at most so many.
pub record WalksAlong (job : Job) (most : ℕ) (c : Standing) (n : Node) : Type 0 where
  pub sees : c.view ≡ view_at_init n.role (my_place n) (size n)
  pub does : DoesRest c.view n.walk c.flow
  pub carried : OnlyCarried n.walk
  pub shaped : StaysShaped job.names n.walk
  pub placed : has_place n.comm n.me ≡ true
  pub left : ℕ
  pub within : IsWithin n.walk left
  pub few : n.calls + left ≤ most

-- It is in a call that passes the test, which has a number already and still stands before it in the walk.
pub record InCall (job : Job) (test : Wanted → Bool) (c : Standing) (n : Node) : Type 0 where
  pub along : WalksAlong job 20001 c n
  pub told : OwnAreUpTo n.epoch n
  pub begun : 0 < n.epoch
  pub asks : AsksSuch test n.walk

-- It stands where the node stands. No epoch has begun before its first join, and one has behind it.
abbrev pub StandsAs : Job → Stage → Standing → Node → Type 0
StandsAs job stage.Begins c n = (n.stage ≡ node.Begins) × IsStill c n × OwnAreUpTo n.epoch n × (n.epoch ≡ 0)
StandsAs job (stage.Joining phase) c n = (n.stage ≡ node.Joining (phase_of phase)) × IsStill c n × HasVoted n phase
StandsAs job stage.Arrived c n = (n.stage ≡ node.Arrived) × IsStill c n × OwnAreUpTo n.epoch n × (0 < n.epoch) × (n.calls ≡ 0)
StandsAs job stage.Walking c n = (n.stage ≡ node.Walking) × WalksAlong job 20000 c n × OwnAreUpTo n.epoch n × (0 < n.epoch)
StandsAs job stage.Gathering c n = (n.stage ≡ node.Calling node.Gathering) × InCall job gathers_parts c n
StandsAs job (stage.Balloting phase) c n = (n.stage ≡ node.Calling (node.Balloting (phase_of phase))) × InCall job is_agreement c n
StandsAs job stage.Failed c n = (n.stage ≡ node.Failed) × IsStill c n × OwnAreUpTo n.epoch n × (0 < n.epoch)
StandsAs job stage.Over c n = n.stage ≡ node.Over

-- it is this node of a job, in which no group is created
pub record IsNodeOf (job : Job) (c : Standing) (n : Node) : Type 0 where
  pub me : n.me ≡ c.me
  pub ranks : c.ranks ≡ count_of job.ranks
  pub epoch : n.epoch ≡ c.epoch
  pub comm : n.comm ≡ c.comm
  pub present : n.present ≡ c.present
  pub member : has n.present n.me ≡ true
  pub role : n.role ≡ c.role
  pub calls : n.calls ≡ c.calls
  pub bare : (g : ℕ) → (n.groups g).created ≡ false
  pub is_flow : IsFlowOf job c.flow
  pub knows : IsInboxOf n c.inbox
  pub stands : StandsAs job c.stage c n

-- ---- what its steps rest on

-- it is in the ballot of the next epoch
abbrev pub IsJoining : Stage → Type 0
IsJoining (stage.Joining phase) = Unit {0}
IsJoining other = ⊥

-- it is in the ballot of its call
abbrev pub IsBalloting : Stage → Type 0
IsBalloting (stage.Balloting phase) = Unit {0}
IsBalloting other = ⊥

-- it is in a call
abbrev pub IsInCall : Stage → Type 0
IsInCall stage.Gathering = Unit {0}
IsInCall (stage.Balloting phase) = Unit {0}
IsInCall other = ⊥

-- it may vote so in the ballot of the next epoch: it hasn't ended, stands still, and hasn't voted there
pub record MayVote (kind : Slot) (c : Standing) (n : Node) : Type 0 where
  pub goes_on : node.has_ended n ≡ false
  pub still : IsStill c n
  pub valid : is_join (suc n.epoch) kind ≡ true
  pub unheard : OwnAreUpTo n.epoch n

-- the ballot of the next epoch is decided with these slots, its own vote among them
pub record IsDeciding (n : Node) (vote : Slot) (slots : List Slot) (c : Standing) : Type 0 where
  pub still : IsStill c n
  pub valid : is_join (suc n.epoch) vote ≡ true
  pub own : slice_get slots (seat_of n.present n.me) ≡ Some vote
  pub counted : may_join n ≡ true
  pub told : OwnAreUpTo (suc n.epoch) n

-- it took its turn in the ballot of the next epoch, and said this
pub record HasTurned (c after : Standing) (said : Poll) : Type 0 where
  pub before : Phase
  pub later : Phase
  pub at : c.stage ≡ stage.Joining before
  pub apart : Distinct c.present
  pub same : after ≡ record c { stage = stage.Joining later }
  pub takes : (n : Node) → IsInboxOf n c.inbox → n.epoch ≡ c.epoch → n.present ≡ c.present → IsTurn (turn_in (next_ballot n) n (phase_of before)) said later
  pub stays : Stays said before later

-- it took its turn in the ballot of the agreement that it is in, and said this
pub record HasTurnedInCall (c after : Standing) (said : Poll) : Type 0 where
  pub before : Phase
  pub later : Phase
  pub at : c.stage ≡ stage.Balloting before
  pub same : after ≡ record c { stage = stage.Balloting later }
  pub takes : (job : Job) (n : Node) (flag : ℤ) → IsNodeOf job c n → IsTurn (turn_in (call_ballot n (wanted.Agree flag)) n (phase_of before)) said later
  pub stays : Stays said before later

-- an inbox that forgot what is over at this call
abbrev pub ComesTo : Standing → ℕ → Kept → Type 0
ComesTo c next box =
    (me before calls : ℕ) (lost : ℕ → Bool) (texts : ℕ → List Text) → goes_on before calls c.epoch next ≡ true → Knows me before calls lost texts c.inbox → Knows me c.epoch next lost texts box
