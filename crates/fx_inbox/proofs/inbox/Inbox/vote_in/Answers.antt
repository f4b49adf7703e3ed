use Rattle.std.proofs.Common.{◌≡◌, ◌==◌, [], arith, ap}
use Rattle.std.specs.Prelude.{slice_index_or}
use Rattle.std.proofs.lemmas.Grind.{common_steps}
use Rattle.fx_inbox.specs.Ballots.{ballot_of}
use Rattle.fx_inbox.specs.Keeping.{Kept}
use Rattle.fx_inbox.proofs.Keeping.{vote_read}
use Rattle.fx_inbox.proofs.inbox.Inbox.vote_in.Goals as goal

pub returns : goal.returns
returns c = λ n know part.
    let row : c.as_slice.result.now ≡ slice_index_or c.args.self.now.messages c.args.who [] = grind (arith, common_steps) in
    vote_read n c.args.self.now (ballot_of c.args.ballot.now) c.args.who _ c.as_slice.result.now c.first_vote.result know part.now (ap (λ (b : Kept). c.args.who == b.me) c.self.view_is) row c.first_vote.ensures
