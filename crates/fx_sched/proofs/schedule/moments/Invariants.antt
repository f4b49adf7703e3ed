-- The moments so far stand for the events so far, and the others are left.
use Rattle.std.proofs.Common.{◌≡◌, ◌++◌, map, drop}
use Rattle.fx_sched.specs.Moments.{event_of, kind_of}
use Rattle.fx_sched.proofs.schedule.moments.Given as goal

abbrev pub invariant-loop-event : goal.invariant-loop-event
invariant-loop-event l = map event_of l.moments ++ map kind_of (drop l.event-index l.job.events) ≡ map kind_of l.job.events
