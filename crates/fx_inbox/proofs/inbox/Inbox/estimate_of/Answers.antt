use Rattle.std.proofs.Common.{◌≡◌, ◌==◌, ◌||◌, ℕ, false, List, [], None, map, arith, refl, sym, ap, ◌∙◌}
use Rattle.std.specs.Prelude.{slice_index_or}
use Rattle.std.proofs.lemmas.Grind.{common_steps}
use Rattle.fx_ballot.specs.Names.{seat_of}
use Rattle.fx_machine.specs.Reading.{vote_of}
use Rattle.fx_inbox.specs.Ballots.{about_of, ballot_of}
use Rattle.fx_inbox.specs.Keeping.{Kept}
use Rattle.std.specs.List.{list_any}
use Rattle.std.proofs.lemmas.Bool.Decides.{nat_tests}
use Rattle.fx_machine.specs.Messages.{wire_text}
use Rattle.fx_inbox.specs.Measures.{is_estimate_in, is_fit}
use Rattle.fx_inbox.specs.declared.estimate.Measure.{Measure}
use Rattle.fx_inbox.proofs.Keeping.{estimate_read, none_is_read}
use Rattle.fx_inbox.proofs.inbox.Inbox.estimate_of.Goals as goal

pub returns : goal.returns
returns c = λ n know part.
    let members : List ℕ = c.args.ballot.now.members.now in
    let row : c.as_slice-messages.result.now ≡ slice_index_or c.args.self.now.messages c.args.who [] = grind (arith, common_steps) in
    let me : c.self.inside.me.0 ≡ n.me = ap (λ (b : Kept). b.me) c.self.view_is ∙ know.same in
    let seat : c.args.seat ≡ seat_of members n.me = c.requires.own ∙ (λ i. seat_of members (know.same i)) in
    let vote : c.vote_in.result ≡ vote_of (ballot_of c.args.ballot.now) n n.me = c.vote_in.ensures n know part ∙ ap (λ (q : ℕ). vote_of (ballot_of c.args.ballot.now) n q) me in
    estimate_read n c.args.self.now c.args.ballot.now _ _ c.args.who c.seat_of-round.result c.as_slice-messages.result.now _ know part.now
    seat vote (ap (λ (q : ℕ). c.args.who == q) me) c.seat_of-round.ensures.same row c.first_estimate.ensures

pub returns-then-not-has_estimate : goal.returns-then-not-has_estimate
returns-then-not-has_estimate c = λ n know part.
    let members : List ℕ = c.args.ballot.now.members.now in
    let row : c.as_slice-messages.result.now ≡ slice_index_or c.args.self.now.messages c.args.who [] = grind (arith, common_steps) in
    let seat : c.args.seat ≡ seat_of members n.me = c.requires.own ∙ (λ i. seat_of members (know.same i)) in
    let off : c.has_estimate.result ≡ false = grind (arith, nat_tests, c.if-not-has_estimate.true) in
    let none : list_any (is_estimate_in (about_of c.args.ballot.now.about)) (map wire_text c.as_slice-messages.result.now) ≡ false = sym c.has_estimate.ensures ∙ off in
    let w : Measure = record { seat = c.args.seat; vote = vote_of (ballot_of c.args.ballot.now) n n.me } in
    estimate_read n c.args.self.now c.args.ballot.now w (c.args.who == n.me) c.args.who (seat_of members c.args.who) c.as_slice-messages.result.now None know part.now
    seat refl refl refl row
    (sym
    (none_is_read (about_of c.args.ballot.now.about) (seat_of members c.args.who) (λ slots. (c.args.who == n.me) || is_fit c.args.ballot.now w slots) (map wire_text c.as_slice-messages.result.now)
    none))
