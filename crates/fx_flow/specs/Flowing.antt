-- A flow as it is seen, and what it is to do the rest of a walk.
use Rattle.std.specs.Prelude.{◌≡◌, ℕ, Bool, true, List, [], ◌∷◌, length, slice_get, Option, Some, None, is_some, IsSomeAnd}
use Rattle.std.specs.Str.{bytes_eq}
use Rattle.fx_base.specs.declared.names.MemberId.{MemberId}
use Rattle.fx_script.specs.declared.job.Callback.{Callback}
use Rattle.fx_script.specs.declared.job.Decl.{Decl}
use Rattle.fx_script.specs.declared.job.Job.{Job}
use Rattle.fx_script.specs.declared.job.Stmt.{Stmt}
use Rattle.fx_check.specs.Acceptance.{callback_body_lines}
use Rattle.fx_check.specs.Facts.{Facts, facts_of}
use Rattle.fx_check.specs.Parts.{KeepRules, KeepsByParts}
use Rattle.fx_walk.specs.declared.action.At.{At}
use Rattle.fx_walk.specs.declared.action.At.TheVariants as at
use Rattle.fx_walk.specs.declared.action.View.{View}
use Rattle.fx_walk.specs.declared.printed.Printed.{Printed}
use Rattle.fx_walk.specs.declared.wanted.Wanted.{Wanted}
use Rattle.fx_walk.specs.declared.wanted.Wanted.TheVariants as wanted
use Rattle.fx_walk.specs.State.{State}
use Rattle.fx_walk.specs.Walk.{Given, Reply, Walk, Passes, Prints, Asks, view_after}
use Rattle.fx_value.specs.Shape.{Fits, IsShaped, StaysShaped}
use Rattle.fx_flow.specs.declared.instr.Instr.{Instr}
use Rattle.fx_flow.specs.declared.instr.Instr.TheVariants as instr
use Rattle.fx_flow.specs.declared.instr.Loop.{Loop}
use Rattle.fx_flow.specs.declared.instr.Outward.{Outward}
use Rattle.fx_flow.specs.declared.instr.Outward.TheVariants as outward
use Rattle.fx_flow.specs.declared.instr.Routine.{Routine}
use Rattle.fx_flow.specs.Code.{Stand, Follows, IsCode, Leads, start}

-- the code of a job's body and of its callbacks, where the body begins, and where a rank stands
pub record Flowing : Type 0 where
  pub code : List Instr
  pub begin : ℕ
  pub routines : List Routine
  pub stand : Stand

-- what the rank keeps
abbrev pub state_of : Flowing → State
state_of flow = flow.stand.state

-- ---- what comes next

-- an end is an action where it ends a turn
abbrev pub at_end : List Loop → At
at_end [] = at.Finish
at_end (loop ∷ opened) = at.Plain

abbrev pub kind_of : List Loop → Option Instr → At
kind_of opened None = at_end opened
kind_of opened (Some instr.End) = at_end opened
kind_of opened (Some (instr.Outward what next)) = at.Outward
kind_of opened (Some plain) = at.Plain

abbrev pub next_of : Flowing → At
next_of flow = kind_of flow.stand.opened (slice_get flow.code flow.stand.place)

-- the outward statement that comes next, if one does, and the place behind it
abbrev pub outward_in : Option Instr → Option (Outward × ℕ)
outward_in (Some (instr.Outward what next)) = Some (what, next)
outward_in other = None

abbrev pub outward_of : Flowing → Option (Outward × ℕ)
outward_of flow = outward_in (slice_get flow.code flow.stand.place)

-- ---- what it takes

-- the counter that is set to a number
abbrev pub counter_of : Outward → Option ℕ
counter_of (outward.Reduce op counter array) = Some counter
counter_of (outward.Agree counter array index) = Some counter
counter_of other = None

-- the array whose elements become others
abbrev pub target_of : Outward → Option ℕ
target_of (outward.Shift by source target) = Some target
target_of other = None

-- the member that is restored, and its array
abbrev pub restored_of : Outward → Option (MemberId × ℕ)
restored_of (outward.Restore group member array stamp) = Some (member, array)
restored_of other = None

abbrev pub TakesNumber : Option (Outward × ℕ) → Type 0
TakesNumber None = ⊥
TakesNumber (Some due) = is_some (counter_of due.0) ≡ true

abbrev pub TakesElements : Option (Outward × ℕ) → Type 0
TakesElements None = ⊥
TakesElements (Some due) = is_some (target_of due.0) ≡ true

abbrev pub TakesEntries : Option (Outward × ℕ) → MemberId → Type 0
TakesEntries None member = ⊥
TakesEntries (Some due) member = IsSomeAnd (restored_of due.0) (λ restored. restored.0 ≡ member)

-- sum, min, max or agree comes next
abbrev pub WantsNumber : Flowing → Type 0
WantsNumber flow = TakesNumber (outward_of flow)

-- a shift comes next
abbrev pub WantsElements : Flowing → Type 0
WantsElements flow = TakesElements (outward_of flow)

-- a restore of this member comes next
abbrev pub WantsEntries : Flowing → MemberId → Type 0
WantsEntries flow member = TakesEntries (outward_of flow) member

-- what is wanted tells which of these holds
abbrev pub TellsNeed : Flowing → Wanted → Type 0
TellsNeed flow (wanted.Reduce op n) = WantsNumber flow
TellsNeed flow (wanted.Agree n) = WantsNumber flow
TellsNeed flow (wanted.Shift by elements) = WantsElements flow
TellsNeed flow (wanted.Restore group member stamp) = WantsEntries flow member
TellsNeed flow other = Unit {0}

-- ---- the rest of a walk

-- from where it stands a flow does what is left of a walk, action for action
abbrev pub DoesRest : View → Walk → Flowing → Type 0
DoesRest view walk flow = Follows flow.code walk view flow.stand

-- the walk's next action was taken, and printed this
abbrev pub WentOn : View → Walk → Option Printed → Flowing → Type 0
WentOn view (Passes rest) None flow = DoesRest view rest flow
WentOn view (Prints printed rest) (Some told) flow = (told ≡ printed) × DoesRest view rest flow
WentOn view other told flow = ⊥

-- the walk before an action that printed this
abbrev pub before : Option Printed → Walk → Walk
before None rest = Passes rest
before (Some printed) rest = Prints printed rest

-- the walk asks this next
abbrev pub AsksFor : Walk → Wanted → Type 0
AsksFor (Asks place wanted state rest) told = told ≡ wanted
AsksFor other told = ⊥

-- the walk stays in the declared shape, and this fits what it asks next
abbrev pub IsGivenFitting : List Decl → Walk → Given → Type 0
IsGivenFitting names (Asks place wanted state rest) given = StaysShaped names (Asks place wanted state rest) × Fits wanted given
IsGivenFitting names other given = ⊥

-- the walk's next statement was answered
abbrev pub WasAnswered : View → Walk → Reply → Flowing → Type 0
WasAnswered view (Asks place wanted state rest) reply flow = DoesRest (view_after view reply) (rest reply) flow
WasAnswered view other reply flow = ⊥

-- ---- of which job it is

-- the code of a callback
pub record IsRoutine (f : Facts) (code : List Instr) (routine : Routine) (callback : Callback) : Type 0 where
  pub same_name : routine.name ≡ callback.name
  pub same_count : routine.count ≡ length callback.body
  pub is_code : IsCode f code routine.begin callback.body

abbrev pub AreRoutines : Facts → List Instr → List Routine → List Callback → Type 0
AreRoutines f code [] [] = Unit {0}
AreRoutines f code [] (callback ∷ callbacks) = ⊥
AreRoutines f code (routine ∷ routines) [] = ⊥
AreRoutines f code (routine ∷ routines) (callback ∷ callbacks) = IsRoutine f code routine callback × AreRoutines f code routines callbacks

-- a flow of this accepted job
pub record IsFlowOf (job : Job) (flow : Flowing) : Type 0 where
  pub accepted : KeepsByParts job
  pub is_code : IsCode (facts_of job) flow.code flow.begin job.body
  pub are_routines : AreRoutines (facts_of job) flow.code flow.routines job.callbacks
  pub shaped : IsShaped job.names (state_of flow)

-- it stands at the beginning of the body
abbrev pub IsAtBegin : Flowing → Type 0
IsAtBegin flow = flow.stand ≡ start flow.begin (state_of flow)

-- ---- callbacks

-- the code of this callback
abbrev pub is_routine_of : List ℕ → Routine → Bool
is_routine_of name routine = bytes_eq routine.name name

-- where it begins, and how many statements it has
abbrev pub part_of : Option Routine → Option (ℕ × ℕ)
part_of None = None
part_of (Some routine) = Some (routine.begin, routine.count)

-- this body of a callback, of so many statements, comes next
pub record IsDue (job : Job) (body : List Stmt) (count : ℕ) (flow : Flowing) : Type 0 where
  pub of_job : IsFlowOf job flow
  pub leads : Leads (facts_of job) flow.code flow.stand.place body 0
  pub keeps : KeepRules (callback_body_lines (facts_of job) 0 body)
  pub counted : count ≡ length body

-- callbacks ran: the flow has another place and another state of the same shape, with the same callbacks, and nothing
-- else changed
pub record Ran (job : Job) (old new : Flowing) : Type 0 where
  pub same : new ≡ record old { stand = record old.stand { place = new.stand.place; state = state_of new } }
  pub shaped : IsShaped job.names (state_of new)
  pub registered : (state_of new).callbacks ≡ (state_of old).callbacks
