use Rattle.std.proofs.Common.{arith, ◌≡◌, length, subst, true}
use Rattle.std.proofs.lemmas.Grind.{common_steps}
use Rattle.std.specs.Vec.{with_item}
use Rattle.fx_agree.specs.contracts.ballot.Ballot.{the_view}
use Rattle.fx_ballot.proofs.Readings.{in_world_told}
use Rattle.fx_agree.specs.Stages.{IsKept}
use Rattle.fx_agree.proofs.Keeping.{kept_telling}
use Rattle.fx_agree.proofs.ballot.Ballot.on_lost.Goals as goal

pub returns-clause-was_told_in_the_world : goal.returns-clause-was_told_in_the_world
returns-clause-was_told_in_the_world c =
    let whole : length c.args.self.now.heard ≡ c.args.self.now.members = rw (← c.self.view_is) c.self.invariant.0 in
    in_world_told c.args.self.now (the_view (record { members = c.self.inside.members; me = c.self.inside.me; stage = c.self.inside.stage; heard = with_item c.self.inside.heard c.from.result (record { vote = c.index_mut.result.now.vote; estimate = c.index_mut.result.now.estimate; lost = true; left = c.index_mut.result.now.left }); failed = c.self.inside.failed })) c.args.who (grind (arith, common_steps)) c.requires whole

pub invariant_of-self : goal.invariant_of-self
invariant_of-self c =
    kept_telling c.args.self.now (the_view (record { members = c.self.inside.members; me = c.self.inside.me; stage = c.self.inside.stage; heard = with_item c.self.inside.heard c.from.result (record { vote = c.index_mut.result.now.vote; estimate = c.index_mut.result.now.estimate; lost = true; left = c.index_mut.result.now.left }); failed = c.self.inside.failed })) c.args.who (grind (arith, common_steps)) c.requires
    (subst IsKept c.self.view_is c.self.invariant)
