-- What is written so far, with the events that are left, is the whole.
use Rattle.std.proofs.Common.{◌≡◌, ◌++◌, map, drop}
use Rattle.fx_script.specs.Canonical.{text_of}
use Rattle.fx_script.specs.Spelling.{event_entry}
use Rattle.fx_script.proofs.print.put_events.Given as goal

abbrev pub invariant-loop-event : goal.invariant-loop-event
invariant-loop-event l = l.out ++ text_of (map event_entry (drop l.event-index l.events)) ≡ l.fn.out ++ text_of (map event_entry l.events)
