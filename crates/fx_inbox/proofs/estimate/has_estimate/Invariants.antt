use Rattle.std.proofs.Common.{◌≡◌, map, drop}
use Rattle.std.specs.List.{list_any}
use Rattle.fx_inbox.specs.Ballots.{about_of}
use Rattle.fx_inbox.specs.Measures.{is_estimate_in}
use Rattle.fx_machine.specs.Messages.{wire_text}
use Rattle.fx_inbox.proofs.estimate.has_estimate.Given as goal

abbrev pub invariant-loop-message : goal.invariant-loop-message
invariant-loop-message l =
    list_any (is_estimate_in (about_of l.about)) (map wire_text (drop l.message-index l.messages))
    ≡ list_any (is_estimate_in (about_of l.about)) (map wire_text l.messages)
