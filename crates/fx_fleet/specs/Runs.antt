-- The run of a job: all that its processes write.
use Rattle.std.specs.Prelude.{ℕ, ◌+◌, ◌*◌, ℤ, pos, List, map, Option, Some, None}
use Rattle.fx_base.specs.declared.names.GroupId.{GroupId}
use Rattle.fx_base.specs.declared.names.MemberId.{MemberId}
use Rattle.fx_check.specs.Facts.{Facts, facts_of, array_in}
use Rattle.fx_check.specs.Rules.{count_of, procs_of}
use Rattle.fx_check.specs.Work.{work_of, bound_of}
use Rattle.fx_item.specs.declared.item.Item.{Item}
use Rattle.fx_script.specs.declared.job.EventKind.{EventKind}
use Rattle.fx_script.specs.declared.job.EventKind.TheVariants as event
use Rattle.fx_script.specs.declared.job.Job.{Job}
use Rattle.fx_store.specs.Mirror.{mirror}
use Rattle.fx_store.specs.Redundancy.{Redundancy}
use Rattle.fx_walk.specs.declared.action.View.{View}
use Rattle.fx_walk.specs.Callbacks.{callbacks_at_init, body_start}
use Rattle.fx_walk.specs.Lengths.{OnlyPrints}
use Rattle.fx_walk.specs.State.{State, blank}
use Rattle.fx_walk.specs.Walk.{walk_of, member_array}
use Rattle.fx_machine.specs.Packings.{spelling}
use Rattle.fx_machine.specs.Setup.{Setup}
use Rattle.fx_fleet.specs.Rounds.{Moment, Step, Rest, Deliver, Kill, Notice, Run, wire, journal}

-- ---- what the machines of a job share

-- a length, or none
abbrev pub length_or_none : Option ℤ → ℕ
length_or_none None = 0
length_or_none (Some len) = count_of len

-- how many elements the array has that the job attaches to a member
abbrev pub attached_len : Facts → GroupId → MemberId → ℕ
attached_len f g m = length_or_none (array_in f.names (member_array f (pos g.0) (pos m.0)))

-- under a way of redundancy
abbrev pub set_up : Redundancy → Job → Setup
set_up redundancy job = record {
  ranks = count_of job.ranks;
  procs = procs_of job;
  redundancy = redundancy;
  packing = spelling;
  member_len = attached_len (facts_of job);
  blank = blank (facts_of job);
  callbacks = callbacks_at_init (facts_of job);
  body_state = body_start (facts_of job);
  body = walk_of (facts_of job) job.body;
}

-- the body asks nothing and prints under names, whatever it sees and whatever state it begins in
abbrev pub AsksNothing : Job → Type 0
AsksNothing job = (view : View) (state : State) → OnlyPrints (walk_of (facts_of job) job.body view state)

-- ---- the schedule

-- the moment of an event; no number of an event of an accepted job is negative
abbrev pub moment_of : EventKind → Moment
moment_of (event.Step p) = Step (count_of p)
moment_of (event.Rest p) = Rest (count_of p)
moment_of (event.Deliver p q) = Deliver (count_of p) (count_of q)
moment_of (event.Kill p) = Kill (count_of p)
moment_of (event.Notice p q) = Notice (count_of p) (count_of q)
moment_of (event.Run count) = Run (count_of count)

abbrev pub moments_of : Job → List Moment
moments_of job = map (λ e. moment_of e.kind) job.events

-- ---- fuel and bound

-- So many steps are enough for a rest, with P processes and the work W of the body. In an epoch each of at most W statements and tests takes
-- at most P + 5 steps; joining, deciding and `Init` take at most P + 4; and there are at most 2P + 2 epochs.
abbrev pub rest_bound : (procs work : ℕ) → ℕ
rest_bound procs work = (2 * procs + 2) * (work + 2) * (procs + 8)

abbrev pub rest_bound_of : Job → ℕ
rest_bound_of job = rest_bound (procs_of job) (work_of job.body)

-- ---- the whole run

-- all items of a job, under a way of redundancy
abbrev pub wire_under : Redundancy → Job → List Item
wire_under redundancy job = wire (set_up redundancy job) (rest_bound_of job) (bound_of job) (moments_of job)

-- the redundancy of a job is the mirror at its separation
abbrev pub redundancy_of : Job → Redundancy
redundancy_of job = mirror (count_of job.separation)

abbrev pub job_setup : Job → Setup
job_setup job = set_up (redundancy_of job) job

-- all items of a job
abbrev pub wire_of : Job → List Item
wire_of job = wire_under (redundancy_of job) job

-- the journal of a job
abbrev pub journal_of : Job → List Item
journal_of job = journal (job_setup job) (rest_bound_of job) (bound_of job) (moments_of job)
