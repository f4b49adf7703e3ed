use Rattle.std.proofs.Common.{arith, ◌≡◌, length, subst}
use Rattle.std.proofs.lemmas.Grind.{common_steps}
use Rattle.fx_agree.specs.contracts.ballot.Ballot.{the_view}
use Rattle.fx_ballot.specs.Turn.{Vote}
use Rattle.fx_ballot.proofs.Readings.{in_world_hears}
use Rattle.fx_ballot.proofs.Wholes.{no_estimate_vote}
use Rattle.fx_agree.specs.Stages.{IsKept}
use Rattle.fx_agree.proofs.Keeping.{kept_hearing}
use Rattle.fx_agree.proofs.ballot.Ballot.on_vote.Goals as goal

pub returns-clause-has_heard_in_the_world : goal.returns-clause-has_heard_in_the_world
returns-clause-has_heard_in_the_world c =
    let whole : length c.args.self.now.heard ≡ c.args.self.now.members = rw (← c.self.view_is) c.self.invariant.0 in
    in_world_hears c.args.self.now (the_view c.if-is_none.self-inside) c.args.from (Vote c.args.slot) (grind (arith, common_steps)) c.requires whole

pub invariant_of-self : goal.invariant_of-self
invariant_of-self c =
    kept_hearing c.args.self.now (the_view c.if-is_none.self-inside) c.args.from (Vote c.args.slot) (grind (arith, common_steps)) c.requires
    (no_estimate_vote c.args.self.now.members c.args.slot) (subst IsKept c.self.view_is c.self.invariant)
