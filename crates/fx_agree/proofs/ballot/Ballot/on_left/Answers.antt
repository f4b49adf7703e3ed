use Rattle.std.proofs.Common.{arith, ◌≡◌, length, subst, true}
use Rattle.std.proofs.lemmas.Grind.{common_steps}
use Rattle.std.specs.Vec.{with_item}
use Rattle.fx_agree.specs.contracts.ballot.Ballot.{the_view}
use Rattle.fx_ballot.specs.Turn.{Leaving}
use Rattle.fx_ballot.proofs.Readings.{in_world_hears}
use Rattle.fx_ballot.proofs.Wholes.{no_estimate_leaving}
use Rattle.fx_agree.specs.Stages.{IsKept}
use Rattle.fx_agree.proofs.Keeping.{kept_hearing}
use Rattle.fx_agree.proofs.ballot.Ballot.on_left.Goals as goal

pub returns-clause-has_heard_in_the_world : goal.returns-clause-has_heard_in_the_world
returns-clause-has_heard_in_the_world c =
    let whole : length c.args.self.now.heard ≡ c.args.self.now.members = rw (← c.self.view_is) c.self.invariant.0 in
    in_world_hears c.args.self.now (the_view (record { members = c.self.inside.members; me = c.self.inside.me; stage = c.self.inside.stage; heard = with_item c.self.inside.heard c.from.result (record { vote = c.index_mut.result.now.vote; estimate = c.index_mut.result.now.estimate; lost = c.index_mut.result.now.lost; left = true }); failed = c.self.inside.failed })) c.args.who Leaving (grind (arith, common_steps)) c.requires whole

pub invariant_of-self : goal.invariant_of-self
invariant_of-self c =
    kept_hearing c.args.self.now (the_view (record { members = c.self.inside.members; me = c.self.inside.me; stage = c.self.inside.stage; heard = with_item c.self.inside.heard c.from.result (record { vote = c.index_mut.result.now.vote; estimate = c.index_mut.result.now.estimate; lost = c.index_mut.result.now.lost; left = true }); failed = c.self.inside.failed })) c.args.who Leaving (grind (arith, common_steps)) c.requires
    (no_estimate_leaving c.args.self.now.members) (subst IsKept c.self.view_is c.self.invariant)
