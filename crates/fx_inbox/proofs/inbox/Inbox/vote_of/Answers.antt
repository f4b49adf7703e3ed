use Rattle.std.proofs.Common.{◌≡◌, ◌∙◌, ◌==◌, ◌||◌, ℕ, suc, [], arith, ap, map, refl, sym}
use Rattle.std.specs.Prelude.{slice_index_or}
use Rattle.std.proofs.lemmas.Grind.{common_steps}
use Rattle.fx_inbox.specs.Keeping.{Kept}
use Rattle.fx_inbox.proofs.Keeping.{vote_read}
use Rattle.fx_machine.specs.Messages.{wire_text}
use Rattle.fx_machine.specs.Reading.{OfEpoch, first_read, is_join, next_ballot, only, vote_in}
use Rattle.fx_inbox.proofs.inbox.Inbox.vote_of.Goals as goal

pub returns : goal.returns
returns c = λ n know at.
    let row : c.as_slice.result.now ≡ slice_index_or c.args.self.now.messages c.args.who [] = grind (arith, common_steps) in
    vote_read n c.args.self.now (next_ballot n) c.args.who (c.args.who == c.self.inside.me.0) c.as_slice.result.now c.first_vote.result know refl
    (ap (λ (b : Kept). c.args.who == b.me) c.self.view_is) row
    (c.first_vote.ensures
    ∙ ap (λ (e : ℕ). first_read (λ t. only (λ x. (c.args.who == c.self.inside.me.0) || is_join (suc e) x) (vote_in (OfEpoch (suc e)) t)) (map wire_text c.as_slice.result.now)) (sym at))
