use Rattle.std.proofs.Common.{◌≡◌, ◌||◌, map, drop}
use Rattle.fx_inbox.specs.Ballots.{about_of, is_vote_in}
use Rattle.fx_link.specs.declared.slot.Slot.{Slot}
use Rattle.fx_machine.specs.Messages.{wire_text}
use Rattle.fx_machine.specs.Reading.{first_read, only, vote_in}
use Rattle.fx_inbox.proofs.vote.first_vote.Given as goal

abbrev pub invariant-loop-message : goal.invariant-loop-message
invariant-loop-message l =
    first_read (λ t. only (λ (x : Slot). l.own || is_vote_in l.about x) (vote_in (about_of l.about) t)) (map wire_text (drop l.message-index l.messages))
    ≡ first_read (λ t. only (λ (x : Slot). l.own || is_vote_in l.about x) (vote_in (about_of l.about) t)) (map wire_text l.messages)
