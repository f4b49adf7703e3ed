-- A node: what one process keeps; and what a step of it is.
use Rattle.std.specs.Prelude.{ℕ, ℤ, Bool, true, false, not, if◌then◌else◌, ◌==◌, List, [], ◌∷◌, ◌++◌, map, length, slice_index_or}
use Rattle.std.specs.List.{filter, flat_map, enumerate_from}
use Rattle.fx_base.specs.declared.names.Role.{Role}
use Rattle.fx_base.specs.declared.names.Role.TheVariants as role
use Rattle.fx_base.specs.Sets.{those_below}
use Rattle.fx_ballot.specs.Names.{seat_at, seat_of}
use Rattle.fx_ballot.specs.Turn.{Phase}
use Rattle.fx_ballot.specs.World.{put}
use Rattle.fx_comm.specs.Seats.{Seat, first_seats, idents_of}
use Rattle.fx_item.specs.declared.item.Item.{Item}
use Rattle.fx_walk.specs.Along.{stop_of}
use Rattle.fx_walk.specs.Callbacks.{state_at}
use Rattle.fx_walk.specs.State.{State}
use Rattle.fx_walk.specs.Walk.{Walk, Ends, Given, Reply}
use Rattle.fx_machine.specs.Groups.{Group, untouched, newest_stamp}
use Rattle.fx_machine.specs.Numbers.{of_each_below}
use Rattle.fx_machine.specs.Setup.{Setup}
use Rattle.fx_machine.specs.Texts.{Text}

-- where a call stands: it waits for the parts of all, for the shares of its wards, for the tells or helps of a creation, for the
-- gives of its wards; or it is in the ballot of the call
pub data Core : Type 0 where
  Gathering : Core
  Sharing : Core
  Telling : Core
  Giving : Core
  Balloting : (phase : Phase) → Core

-- where a node stands: before any join; in the ballot of the next epoch; behind it, where a spare stays; in the walk of its body;
-- in the call that its walk asks for; behind a call that failed or was revoked; at its end
pub data Stage : Type 0 where
  Begins : Stage
  Joining : (phase : Phase) → Stage
  Arrived : Stage
  Walking : Stage
  Calling : (core : Core) → Stage
  Failed : Stage
  Over : Stage

abbrev pub is_over : Stage → Bool
is_over Over = true
is_over other = false

pub record Node : Type 0 where
  -- its process
  pub me : ℕ
  pub epoch : ℕ
  -- the communicator of the epoch, and its present set in rising order
  pub comm : List Seat
  pub present : List ℕ
  pub role : Role
  -- the number of the last call
  pub calls : ℕ
  pub stage : Stage
  -- what is left of the body
  pub walk : Walk
  pub groups : ℕ → Group
  -- of whose loss it was told
  pub lost : ℕ → Bool
  -- what it received of each process, in order; under itself its own votes and estimates
  pub texts : ℕ → List Text

-- what a step does: the node after it, what it sends to whom, and what it writes
pub record Act : Type 0 where
  pub node : Node
  pub sends : List (ℕ × Text)
  pub items : List Item

-- a node that hasn't done anything: in epoch 0 each rank has the place of its number, and all processes are present
abbrev pub first_node : Setup → ℕ → Node
first_node s p = record {
  me = p;
  epoch = 0;
  comm = first_seats s.ranks;
  present = those_below (λ q. true) s.procs;
  role = role.Initial;
  calls = 0;
  stage = Begins;
  walk = Ends s.blank;
  groups = λ g. untouched;
  lost = λ q. false;
  texts = λ q. [];
}

-- it has ended: a node without an action that hasn't is quiet
abbrev pub has_ended : Node → Bool
has_ended n = is_over n.stage

-- ---- places

-- the processes of a communicator, by place
abbrev pub procs_of : List Seat → List ℕ
procs_of comm = map (λ s. s.1.0) comm

abbrev pub members : Node → List ℕ
members n = procs_of n.comm

-- the number of places
abbrev pub size : Node → ℕ
size n = length n.comm

-- the process at a place
abbrev pub proc_at : Node → ℕ → ℕ
proc_at n x = seat_at (members n) x

-- the identity at a place
abbrev pub ident_at : Node → ℕ → ℕ
ident_at n x = slice_index_or (idents_of n.comm) x 0

-- its own place
abbrev pub my_place : Node → ℕ
my_place n = seat_of (members n) n.me

-- ---- the walk

-- the state where its walk stands
abbrev pub state_of : Node → State
state_of n = state_at (stop_of n.walk [])

-- the newest stamps of the eight groups
abbrev pub latest : Node → List ℤ
latest n = of_each_below 8 (λ g. newest_stamp (n.groups g))

-- the walk goes on behind an outward statement with what that is given
abbrev pub goes_on : (Reply → Walk) → Given → Node → Node
goes_on rest given n = record n { stage = Walking; walk = rest (record { given = given; latest = latest n }) }

-- a node that keeps this of a group
abbrev pub with_group : ℕ → Group → Node → Node
with_group g group n = record n { groups = put n.groups g group }

-- ---- what a step says and writes

-- its own vote or estimate counts as heard
abbrev pub keeping : Text → Node → Node
keeping t n = record n { texts = put n.texts n.me (n.texts n.me ++ t ∷ []) }

-- a text to all of them but itself, in their order
abbrev pub to_others : ℕ → List ℕ → Text → List (ℕ × Text)
to_others me all t = map (λ q. (q, t)) (filter (λ q. not (q == me)) all)

-- to the process of each place but one's own what is meant for the place, in rising place
abbrev pub to_places : Node → (ℕ → List Text) → List (ℕ × Text)
to_places n meant = flat_map (λ place. if place.1 == n.me then [] else map (λ t. (place.1, t)) (meant place.0)) (enumerate_from 0 (members n))

-- a step that says and writes nothing
abbrev pub silently : Node → Act
silently n = record { node = n; sends = []; items = [] }

-- a step that only writes
abbrev pub writing : List Item → Node → Act
writing items n = record { node = n; sends = []; items = items }

-- a step that says its vote or estimate to all members of a ballot
abbrev pub saying : List ℕ → Text → List Item → Node → Act
saying all t items n = record { node = keeping t n; sends = to_others n.me all t; items = items }

-- ---- what comes in

-- a text comes from a process; none is taken from oneself
abbrev pub receives : ℕ → Text → Node → Node
receives from t n = record n { texts = if from == n.me then n.texts else put n.texts from (n.texts from ++ t ∷ []) }

-- it is told that a process is lost
abbrev pub is_told : ℕ → Node → Node
is_told q n = record n { lost = put n.lost q true }
