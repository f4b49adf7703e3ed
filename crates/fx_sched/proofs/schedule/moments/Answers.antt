use Rattle.std.proofs.Common.{◌≡◌, ◌≤◌, List, ◌++◌, map, length, append-nil, sym, ap, ◌∙◌, arith}
use Rattle.std.proofs.lemmas.List.{drop_all}
use Rattle.fx_check.specs.Rules.{procs_of}
use Rattle.fx_script.specs.declared.job.Event.{Event}
use Rattle.fx_sched.specs.Moments.{event_of, kind_of}
use Rattle.fx_sched.proofs.InRange.{in_range, all_among}
use Rattle.fx_sched.proofs.schedule.moments.Goals as goal

pub moment_of-requires : goal.moment_of-requires
moment_of-requires c =
    let parts = c.job.ensures.by_parts in
    let same : c.as_slice-event-items.result.now ≡ c.args.job.now.events = cc in
    let there = in_range (procs_of c.args.job.now) 0 c.args.job.now.events c.loop-event.event-index _ parts.procs parts.events (rw same at c.loop-event-test.true) in
    rw same there

pub returns-clause-among : goal.returns-clause-among
returns-clause-among c =
    let events = c.args.job.now.events in
    let same : c.as_slice-event-items.result.now ≡ events = cc in
    let over = rw same at c.loop-event-test.false in
    let behind : length events ≤ c.loop-event.event-index = omega (arith, over) in
    let all : map event_of c.loop-event.moments ≡ map kind_of events =
    sym (append-nil (map event_of c.loop-event.moments))
    ∙ ap (λ (l : List Event). map event_of c.loop-event.moments ++ map kind_of l) (sym (drop_all c.loop-event.event-index events behind))
    ∙ c.loop-event.invariant in
    all_among (procs_of c.args.job.now) 0 c.loop-event.moments events all c.job.ensures.by_parts.events
