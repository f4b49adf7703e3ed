-- What happens in a schedule, by processes and rounds.
use Rattle.std.specs.Prelude.{◌≡◌, ◌<◌, ℕ, pos, List, map, refl}
use Rattle.fx_script.specs.declared.job.Event.{Event}
use Rattle.fx_script.specs.declared.job.EventKind.{EventKind}
use Rattle.fx_script.specs.declared.job.EventKind.TheVariants as event
use Rattle.fx_script.specs.declared.job.Job.{Job}
use Rattle.fx_sched.specs.declared.moment.Moment.{Moment}
use Rattle.fx_sched.specs.declared.moment.Moment.TheVariants as moment

-- the event of a job's text that a moment stands for
abbrev pub event_of : Moment → EventKind
event_of (moment.Step p) = event.Step (pos p.0)
event_of (moment.Rest p) = event.Rest (pos p.0)
event_of (moment.Deliver p q) = event.Deliver (pos p.0) (pos q.0)
event_of (moment.Kill p) = event.Kill (pos p.0)
event_of (moment.Notice p q) = event.Notice (pos p.0) (pos q.0)
event_of (moment.Run rounds) = event.Run (pos rounds)

-- the kind of an event
abbrev pub kind_of : Event → EventKind
kind_of e = e.kind

-- moments stand for the events of a job, one for one and in order
abbrev pub AreMoments : Job → List Moment → Type 0
AreMoments job moments = map event_of moments ≡ map kind_of job.events

-- the processes of a moment are among so many
abbrev pub IsAmong : ℕ → Moment → Type 0
IsAmong procs (moment.Step p) = p.0 < procs
IsAmong procs (moment.Rest p) = p.0 < procs
IsAmong procs (moment.Deliver p q) = (p.0 < procs) × (q.0 < procs)
IsAmong procs (moment.Kill p) = p.0 < procs
IsAmong procs (moment.Notice p q) = (p.0 < procs) × (q.0 < procs)
IsAmong procs (moment.Run rounds) = Unit {0}

-- the front of the link from 3 to 0
a_delivery : event_of (moment.Deliver (record { 0 = 3 }) (record { 0 = 0 })) ≡ event.Deliver (pos 3) (pos 0)
a_delivery = refl
