use Rattle.std.proofs.Common.{◌≡◌, drop}
use Rattle.fx_check.specs.Acceptance.{event_lines, first_refused}
use Rattle.fx_check.proofs.head.check_events.Given as goal

abbrev pub invariant-loop-index : goal.invariant-loop-index
invariant-loop-index l = first_refused (event_lines l.procs l.index (drop l.index l.events)) ≡ first_refused (event_lines l.procs 0 l.events)
