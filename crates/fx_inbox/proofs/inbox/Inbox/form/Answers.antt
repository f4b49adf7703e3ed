use Rattle.fx_link.specs.declared.slot.Slot.{Slot}
use Rattle.std.proofs.Common.{◌≡◌, ◌∙◌, ℕ, List, Some, None, length, subst, sym, ap, refl, arith}
use Rattle.fx_ballot.specs.declared.poll.Poll.TheVariants as poll
use Rattle.fx_ballot.specs.Names.{seat_at}
use Rattle.fx_ballot.specs.Turn.{slot_of, slots_of}
use Rattle.fx_machine.specs.Reading.{Ballot, turn_in, vote_of}
use Rattle.fx_inbox.specs.Ballots.{ballot_of}
use Rattle.fx_inbox.specs.declared.phase.Phase.{Phase}
use Rattle.fx_inbox.specs.declared.phase.Phase.TheVariants as phase
use Rattle.fx_inbox.specs.Turns.{IsTurn, phase_of}
use Rattle.fx_inbox.proofs.Turns.{form_moves, form_waits, is_gone, seats}
use Rattle.fx_inbox.proofs.inbox.Inbox.form.Goals as goal

pub returns-in-None-clause-takes : goal.returns-in-None-clause-takes
returns-in-None-clause-takes c = λ n know part.
    let b : Ballot = ballot_of c.args.ballot.now in
    let k : ℕ = c.loop-member.member-index in
    let who : ℕ = seat_at b.members k in
    let unknown : slot_of (vote_of b n who) (n.lost who) (is_gone b n who) ≡ None = sym (c.slot_of.ensures n know part) ∙ c.in-None.is in
    subst (λ (p : Phase). IsTurn (turn_in b n (phase_of p)) poll.NotYet p) (sym c.requires.voting)
    (form_waits b n k who c.loop-member-test.true refl unknown)

pub returns-clause-takes : goal.returns-clause-takes
returns-clause-takes c = λ n know part.
    let b : Ballot = ballot_of c.args.ballot.now in
    let all : c.loop-member.member-index ≡ length b.members = omega arith in
    let known : slots_of (seats b n) (length b.members) ≡ Some c.loop-member.slots = ap (λ (k : ℕ). slots_of (seats b n) k) (sym all) ∙ c.loop-member.invariant n know part in
    subst (λ (p : Phase). IsTurn (turn_in b n (phase_of p)) poll.Moved (phase.Round 0 c.in_ok-of.field-0)) (sym c.requires.voting)
    (form_moves b n c.in_ok-of.field-0 (known ∙ ap (λ (slots : List Slot). Some slots) (sym c.in_ok-of.ensures)))
