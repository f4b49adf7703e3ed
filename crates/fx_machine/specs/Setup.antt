-- What the machines of all processes of a job share.
use Rattle.std.specs.Prelude.{ℕ, List}
use Rattle.fx_base.specs.declared.names.GroupId.{GroupId}
use Rattle.fx_base.specs.declared.names.MemberId.{MemberId}
use Rattle.fx_base.specs.declared.names.Role.{Role}
use Rattle.fx_store.specs.Redundancy.{Redundancy}
use Rattle.fx_walk.specs.declared.action.View.{View}
use Rattle.fx_walk.specs.declared.printed.Called.{Called}
use Rattle.fx_walk.specs.State.{State}
use Rattle.fx_walk.specs.Walk.{Walk}
use Rattle.fx_machine.specs.Packings.{Packing}

-- who is there, the redundancy of closed data, how snapshots are bytes, and what the statements do
pub record Setup : Type 0 where
  pub ranks : ℕ
  pub procs : ℕ
  pub redundancy : Redundancy
  pub packing : Packing
  -- how many elements the array of a member has
  pub member_len : GroupId → MemberId → ℕ
  -- the state of who hasn't begun
  pub blank : State
  -- the callbacks that run as the body begins, by role, rank, size, and the state before; and the state that the body begins in
  pub callbacks : Role → (rank size : ℕ) → State → List Called
  pub body_state : Role → (rank size : ℕ) → State → State
  -- the walk of the body
  pub body : View → State → Walk
