use Rattle.std.proofs.Common.{arith, ◌≡◌, length, subst, Some, true}
use Rattle.std.proofs.lemmas.Grind.{common_steps}
use Rattle.std.specs.Vec.{with_item}
use Rattle.fx_agree.specs.contracts.ballot.Ballot.{the_view}
use Rattle.fx_ballot.specs.Turn.{Estimate}
use Rattle.fx_ballot.proofs.Readings.{in_world_hears}
use Rattle.fx_ballot.proofs.Wholes.{that_estimate}
use Rattle.fx_agree.specs.Stages.{IsKept}
use Rattle.fx_agree.proofs.Keeping.{kept_hearing, kept_failing}
use Rattle.fx_agree.proofs.ballot.Ballot.on_estimate.Goals as goal

pub returns-then-is_some-clause-has_heard_in_the_world : goal.returns-then-is_some-clause-has_heard_in_the_world
returns-then-is_some-clause-has_heard_in_the_world c =
    let whole : length c.args.self.now.heard ≡ c.args.self.now.members = rw (← c.self.view_is) c.self.invariant.0 in
    in_world_hears c.args.self.now (the_view (record { members = c.self.inside.members; me = c.self.inside.me; stage = c.self.inside.stage; heard = with_item c.self.inside.heard c.from.result (record { vote = c.index_mut-heard.result.now.vote; estimate = c.index_mut-heard.result.now.estimate; lost = c.index_mut-heard.result.now.lost; left = c.index_mut-heard.result.now.left }); failed = c.self.inside.failed })) c.args.round (Estimate c.args.round c.args.slots.now) (grind (arith, common_steps)) c.requires.below whole

pub returns-in-Ok-clause-has_heard_in_the_world : goal.returns-in-Ok-clause-has_heard_in_the_world
returns-in-Ok-clause-has_heard_in_the_world c =
    let whole : length c.args.self.now.heard ≡ c.args.self.now.members = rw (← c.self.view_is) c.self.invariant.0 in
    in_world_hears c.args.self.now (the_view (record { members = c.self.inside.members; me = c.self.inside.me; stage = c.self.inside.stage; heard = with_item c.self.inside.heard c.from.result (record { vote = c.index_mut-heard.result.now.vote; estimate = Some c.in-Ok.copy; lost = c.index_mut-heard.result.now.lost; left = c.index_mut-heard.result.now.left }); failed = c.self.inside.failed })) c.args.round (Estimate c.args.round c.args.slots.now) (grind (arith, common_steps)) c.requires.below whole

pub invariant_of-self : goal.invariant_of-self
invariant_of-self c =
    kept_hearing c.args.self.now (the_view (record { members = c.self.inside.members; me = c.self.inside.me; stage = c.self.inside.stage; heard = with_item c.self.inside.heard c.from.result (record { vote = c.index_mut-heard.result.now.vote; estimate = c.index_mut-heard.result.now.estimate; lost = c.index_mut-heard.result.now.lost; left = c.index_mut-heard.result.now.left }); failed = c.self.inside.failed })) c.args.round (Estimate c.args.round c.args.slots.now) (grind (arith, common_steps)) c.requires.below
    (that_estimate c.args.self.now.members c.args.round c.args.slots.now c.requires.whole) (subst IsKept c.self.view_is c.self.invariant)

pub invariant_of-self-in-Ok : goal.invariant_of-self-in-Ok
invariant_of-self-in-Ok c =
    kept_hearing c.args.self.now (the_view (record { members = c.self.inside.members; me = c.self.inside.me; stage = c.self.inside.stage; heard = with_item c.self.inside.heard c.from.result (record { vote = c.index_mut-heard.result.now.vote; estimate = Some c.in-Ok.copy; lost = c.index_mut-heard.result.now.lost; left = c.index_mut-heard.result.now.left }); failed = c.self.inside.failed })) c.args.round (Estimate c.args.round c.args.slots.now) (grind (arith, common_steps)) c.requires.below
    (that_estimate c.args.self.now.members c.args.round c.args.slots.now c.requires.whole) (subst IsKept c.self.view_is c.self.invariant)

pub invariant_of-self-in-Err : goal.invariant_of-self-in-Err
invariant_of-self-in-Err c =
    kept_failing c.args.self.now (the_view (record { members = c.self.inside.members; me = c.self.inside.me; stage = c.self.inside.stage; heard = with_item c.self.inside.heard c.from.result (record { vote = c.index_mut-heard.result.now.vote; estimate = c.index_mut-heard.result.now.estimate; lost = c.index_mut-heard.result.now.lost; left = c.index_mut-heard.result.now.left }); failed = true })) (grind (arith, common_steps)) (subst IsKept c.self.view_is c.self.invariant)
