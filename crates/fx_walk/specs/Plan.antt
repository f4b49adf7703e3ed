-- The part of a walk that is the same on all ranks, whatever their roles, places and arrays are.
use Rattle.std.specs.Prelude.{◌≡◌, ℕ, zero, suc, ◌+◌, ℤ, pos, Bool, true, false, if◌then◌else◌, List, [], ◌∷◌, map, slice_set, get_or, Option, Some, None}
use Rattle.fx_base.specs.declared.names.GroupId.{GroupId}
use Rattle.fx_base.specs.declared.names.MemberId.{MemberId}
use Rattle.fx_base.specs.declared.names.Op.{Op}
use Rattle.fx_base.specs.declared.names.Role.TheVariants as role
use Rattle.fx_base.specs.declared.names.Stamp.{Stamp}
use Rattle.fx_base.specs.declared.spot.Spot.{Spot}
use Rattle.fx_script.specs.declared.job.Stmt.{Stmt}
use Rattle.fx_script.specs.declared.job.Stmt.TheOpen.{Stmt-F}
use Rattle.fx_script.specs.declared.job.Stmt.TheFolds.{fold-Stmt}
use Rattle.fx_check.specs.Facts.{Facts}
use Rattle.fx_check.specs.Rules.{count_of}
use Rattle.fx_walk.specs.declared.action.View.{View}
use Rattle.fx_walk.specs.declared.wanted.Wanted.{Wanted}
use Rattle.fx_walk.specs.declared.wanted.Wanted.TheVariants as wanted
use Rattle.fx_walk.specs.State.{State, counter_slot, array_slot}
use Rattle.fx_walk.specs.Values.{Sight, value_of, holds}
use Rattle.fx_walk.specs.Walk as walked

-- ---- what ranks have in common

-- what all ranks see alike
pub record Shared : Type 0 where
  pub size : ℕ
  pub latest : List ℤ
  pub counters : List ℤ

abbrev pub shared_of : View → State → Shared
shared_of view state = record { size = view.size; latest = view.latest; counters = state.counters }

-- what an expression sees that sees nothing else
abbrev pub shared_sight : Shared → Sight
shared_sight shared = record {
  view = record { role = role.Initial; rank = 0; size = shared.size; latest = shared.latest };
  state = record { counters = shared.counters; arrays = []; callbacks = [] };
  index = 0;
}

-- an outward statement without what is one rank's own: its number, its flag, its elements
pub data Common : Type 0 where
  Barrier : Common
  Reduce : (o : Op) → Common
  Agree : Common
  Shift : (by : ℕ) → Common
  Group : (group : GroupId) (start : Stamp) (depth : ℕ) → Common
  Attach : (group : GroupId) (member : MemberId) → Common
  Store : (group : GroupId) (member : MemberId) → Common
  Commit : (group : GroupId) → Common
  Close : (group : GroupId) → Common
  Restore : (group : GroupId) (member : MemberId) (stamp : Stamp) → Common
  Delete : (group : GroupId) (stamp : Stamp) → Common

-- the operands that are the same on all ranks
abbrev pub common_of : Wanted → Common
common_of wanted.Barrier = Barrier
common_of (wanted.Reduce o own) = Reduce o
common_of (wanted.Agree flag) = Agree
common_of (wanted.Shift by elements) = Shift by
common_of (wanted.Group group start depth) = Group group start depth
common_of (wanted.Attach group member) = Attach group member
common_of (wanted.Store group member entries) = Store group member
common_of (wanted.Commit group) = Commit group
common_of (wanted.Close group) = Close group
common_of (wanted.Restore group member stamp) = Restore group member stamp
common_of (wanted.Delete group stamp) = Delete group stamp

-- a statement that may stand inside `when`: a rank carries it out alone, and it changes no stamp
abbrev pub may_stand_in_when : Common → Bool
may_stand_in_when (Attach group member) = true
may_stand_in_when (Store group member) = true
may_stand_in_when (Restore group member stamp) = true
may_stand_in_when other = false

-- the number among what is given
abbrev pub number_of : walked.Given → Option ℤ
number_of (walked.Number n) = Some n
number_of other = None

-- what a statement sets in a counter: only a reduce and an agree set what they are given
abbrev pub number_set : Common → walked.Given → Option ℤ
number_set (Reduce o) given = number_of given
number_set Agree given = number_of given
number_set other given = None

-- ---- plans

-- What is left of a walk for all ranks alike, blocks of `when` aside: the counters at its end; or a place of the text, what is asked
-- there, the slot of the array that a shift gives away, and the counters there, and what is left by the number that is set and the
-- newest stamps after it.
pub data Plan : Type 0 where
  Stops : (counters : List ℤ) → Plan
  Meets : (spot : Spot) (common : Common) (source : Option ℕ) (counters : List ℤ) (rest : Option ℤ → List ℤ → Plan) → Plan

abbrev pub PlanOnward : Type 0
PlanOnward = Shared → Plan

abbrev pub PlanMeaning : Type 0
PlanMeaning = PlanOnward → PlanOnward

abbrev pub planned : List PlanMeaning → PlanMeaning
planned [] onward = onward
planned (meaning ∷ meanings) onward = meaning (planned meanings onward)

abbrev pub planned_if : Option (List PlanMeaning) → PlanMeaning
planned_if None onward = onward
planned_if (Some meanings) onward = planned meanings onward

abbrev pub set_to : Facts → List ℕ → Shared → ℤ → Shared
set_to f counter shared n = record shared { counters = slice_set shared.counters (counter_slot f.names counter) n }

abbrev pub set_if : Facts → List ℕ → Shared → Option ℤ → Shared
set_if f counter shared None = shared
set_if f counter shared (Some n) = set_to f counter shared n

abbrev pub plan_looped : Facts → List ℕ → PlanMeaning → ℕ → ℕ → PlanMeaning
plan_looped f counter body zero value onward shared = onward shared
plan_looped f counter body (suc left) value onward shared = body (plan_looped f counter body left (value + 1) onward) (set_to f counter shared (pos value))

abbrev pub meets_from : Spot → Common → Option ℕ → PlanMeaning
meets_from spot common source onward shared = Meets spot common source shared.counters (λ number latest. onward (record shared { latest = latest }))

-- no array is given away
abbrev pub meets : Spot → Common → PlanMeaning
meets spot common = meets_from spot common None

-- the number that is given is set in a counter
abbrev pub meets_for : Facts → Spot → Common → List ℕ → PlanMeaning
meets_for f spot common counter onward shared = Meets spot common None shared.counters (λ number latest. onward (record (set_if f counter shared number) { latest = latest }))

-- the plan of a statement: only a set, a branch, a loop and what is asked outside `when` count
abbrev pub plan_level : Facts → Stmt-F PlanMeaning → PlanMeaning
plan_level f (Stmt-F.Let spot array value) onward shared = onward shared
plan_level f (Stmt-F.Set spot counter value) onward shared = onward (set_to f counter shared (value_of f value (shared_sight shared)))
plan_level f (Stmt-F.Print spot name) onward shared = onward shared
plan_level f (Stmt-F.Register spot name) onward shared = onward shared
plan_level f (Stmt-F.RoleOnly spot role body) onward shared = onward shared
plan_level f (Stmt-F.Branch spot test left right body other) onward shared =
    if holds test (value_of f left (shared_sight shared)) (value_of f right (shared_sight shared)) then planned body onward shared else planned_if other onward shared
plan_level f (Stmt-F.Loop spot counter first last body) onward shared =
    plan_looped f counter (planned body) (walked.turns_of (value_of f first (shared_sight shared)) last) (count_of (value_of f first (shared_sight shared))) onward shared
plan_level f (Stmt-F.Barrier spot) onward shared = meets spot Barrier onward shared
plan_level f (Stmt-F.Reduce spot o counter array) onward shared = meets_for f spot (Reduce o) counter onward shared
plan_level f (Stmt-F.Agree spot counter array index) onward shared = meets_for f spot Agree counter onward shared
plan_level f (Stmt-F.Shift spot source target by) onward shared = meets_from spot (Shift (count_of by)) (Some (array_slot f.names source)) onward shared
plan_level f (Stmt-F.Group spot group start depth) onward shared = meets spot (Group (walked.group_id group) (walked.stamp_at start) (count_of depth)) onward shared
plan_level f (Stmt-F.Member spot group member array) onward shared = meets spot (Attach (walked.group_id group) (walked.member_id member)) onward shared
plan_level f (Stmt-F.Store spot group member subset) onward shared = meets spot (Store (walked.group_id group) (walked.member_id member)) onward shared
plan_level f (Stmt-F.Commit spot group) onward shared = meets spot (Commit (walked.group_id group)) onward shared
plan_level f (Stmt-F.CommitBarrier spot group) onward shared = meets spot (Close (walked.group_id group)) onward shared
plan_level f (Stmt-F.Restore spot group member stamp) onward shared =
    meets spot (Restore (walked.group_id group) (walked.member_id member) (walked.stamp_at (value_of f stamp (shared_sight shared)))) onward shared
plan_level f (Stmt-F.Drop spot group stamp) onward shared = meets spot (Delete (walked.group_id group) (walked.stamp_at (value_of f stamp (shared_sight shared)))) onward shared

abbrev pub plan : Facts → Stmt → PlanMeaning
plan f = fold-Stmt PlanMeaning (plan_level f)

abbrev pub plans : Facts → List Stmt → PlanMeaning
plans f statements = planned (map (plan f) statements)

-- the plan of statements and nothing behind them
abbrev pub plan_of : Facts → List Stmt → Shared → Plan
plan_of f statements = plans f statements (λ shared. Stops shared.counters)

-- ---- a walk keeps to a plan

-- the walk's end is the plan's, with its counters
abbrev pub StopsAs : Plan → State → Type 0
StopsAs (Stops counters) state = state.counters ≡ counters
StopsAs (Meets spot common source counters rest) state = ⊥

-- a shift gives away the elements of the array in this slot
abbrev pub GivesFrom : Option ℕ → Wanted → State → Type 0
GivesFrom (Some slot) (wanted.Shift by elements) state = elements ≡ get_or state.arrays slot []
GivesFrom None (wanted.Shift by elements) state = ⊥
GivesFrom source other state = Unit {0}

-- the statement is the plan's next: its place, its common operands, the array that it gives away, the counters there
abbrev pub MeetsAs : Plan → Spot → Wanted → State → (Plan → walked.Reply → Type 0) → Type 0
MeetsAs (Stops counters) spot asked state Keeps = ⊥
MeetsAs (Meets at due source counters rest) spot asked state Keeps =
    (spot ≡ at) × (common_of asked ≡ due) × (state.counters ≡ counters) × GivesFrom source asked state
    × ((reply : walked.Reply) → Keeps (rest (number_set (common_of asked) reply.given) reply.latest) reply)

-- A statement inside `when` is asked beside the plan, whatever it is given, and leaves the newest stamps as they are. Any other is the
-- next of the plan, and what is left of the plan is the same for all that are given the same number and the same stamps.
abbrev pub AsksBy : Bool → Plan → Spot → Wanted → State → List ℤ → (Plan → walked.Reply → Type 0) → Type 0
AsksBy true plan spot asked state latest Keeps = (may_stand_in_when (common_of asked) ≡ true) × ((given : walked.Given) → Keeps plan (record { given = given; latest = latest }))
AsksBy false plan spot asked state latest Keeps = MeetsAs plan spot asked state Keeps

-- A walk asks what the plan has, at the same places with the same counters, gives away the same arrays, and ends where the plan ends.
abbrev pub Keeps : walked.Walk → Plan → List ℤ → Type 0
Keeps (walked.Ends state) plan latest = StopsAs plan state
Keeps (walked.Passes rest) plan latest = Keeps rest plan latest
Keeps (walked.Prints printed rest) plan latest = Keeps rest plan latest
Keeps (walked.Asks place wanted state rest) plan latest =
    AsksBy place.in_when plan place.spot wanted state latest (λ left reply. Keeps (rest reply) left reply.latest)
