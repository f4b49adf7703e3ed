use Rattle.std.proofs.Common.{◌≡◌, ◌==◌, ℤ, List, length, map, drop}
use Rattle.fx_machine.specs.Messages.{wire_text}
use Rattle.fx_machine.specs.Reading.{first_read, only, part_in}
use Rattle.fx_inbox.proofs.part.first_part.Given as goal

abbrev pub invariant-loop-message : goal.invariant-loop-message
invariant-loop-message l =
    first_read (λ t. only (λ (values : List ℤ). length values == l.due) (part_in l.epoch.0 l.call.0 t)) (map wire_text (drop l.message-index l.messages))
    ≡ first_read (λ t. only (λ (values : List ℤ). length values == l.due) (part_in l.epoch.0 l.call.0 t)) (map wire_text l.messages)
