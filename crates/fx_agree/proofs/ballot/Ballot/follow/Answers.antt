use Rattle.std.proofs.Common.{arith, ◌+◌, subst}
use Rattle.std.proofs.lemmas.Grind.{common_steps}
use Rattle.fx_agree.specs.contracts.ballot.Ballot.{the_view}
use Rattle.fx_agree.specs.declared.stage.Stage.TheVariants as stage
use Rattle.fx_agree.specs.Stages.{IsKept}
use Rattle.fx_agree.proofs.Keeping.{kept_turned}
use Rattle.fx_agree.proofs.ballot.Ballot.follow.Goals as goal

pub invariant_of-self : goal.invariant_of-self
invariant_of-self c =
    kept_turned c.args.self.now
    (the_view (record {
      members = c.self.inside.members;
      me = c.self.inside.me;
      stage = stage.Round (c.args.number + 1) c.in_ok-copy-in-Some.field-0;
      heard = c.self.inside.heard;
      failed = c.self.inside.failed;
    }))
    (grind (arith, common_steps)) (subst IsKept c.self.view_is c.self.invariant)

pub invariant_of-self-then-heard-2 : goal.invariant_of-self-then-heard-2
invariant_of-self-then-heard-2 c =
    kept_turned c.args.self.now
    (the_view (record {
      members = c.if-heard.self-inside.members;
      me = c.if-heard.self-inside.me;
      stage = c.pass.new.self;
      heard = c.if-heard.self-inside.heard;
      failed = c.if-heard.self-inside.failed;
    }))
    (grind (arith, common_steps)) (subst IsKept c.self.view_is c.self.invariant)
