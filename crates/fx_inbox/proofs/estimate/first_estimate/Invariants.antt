use Rattle.std.proofs.Common.{◌≡◌, ◌||◌, List, map, drop}
use Rattle.fx_link.specs.declared.slot.Slot.{Slot}
use Rattle.fx_inbox.specs.Ballots.{about_of}
use Rattle.fx_inbox.specs.Measures.{is_fit}
use Rattle.fx_machine.specs.Messages.{wire_text}
use Rattle.fx_machine.specs.Reading.{estimate_in, first_read, only}
use Rattle.fx_inbox.proofs.estimate.first_estimate.Given as goal

abbrev pub invariant-loop-message : goal.invariant-loop-message
invariant-loop-message l =
    first_read (λ t. only (λ (slots : List Slot). l.own || is_fit l.ballot l.measure slots) (estimate_in (about_of l.ballot.about) l.round t)) (map wire_text (drop l.message-index l.messages))
    ≡ first_read (λ t. only (λ (slots : List Slot). l.own || is_fit l.ballot l.measure slots) (estimate_in (about_of l.ballot.about) l.round t)) (map wire_text l.messages)
