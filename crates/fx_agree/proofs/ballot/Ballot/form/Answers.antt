use Rattle.std.proofs.Common.{arith, subst}
use Rattle.std.proofs.lemmas.Grind.{common_steps}
use Rattle.fx_agree.specs.contracts.ballot.Ballot.{the_view}
use Rattle.fx_agree.specs.declared.stage.Stage.TheVariants as stage
use Rattle.fx_agree.specs.Stages.{IsKept}
use Rattle.fx_agree.proofs.Keeping.{kept_turned}
use Rattle.fx_agree.proofs.ballot.Ballot.form.Goals as goal

pub invariant_of-self : goal.invariant_of-self
invariant_of-self c =
    kept_turned c.args.self.now
    (the_view (record {
      members = c.self.inside.members;
      me = c.self.inside.me;
      stage = stage.Round 0 c.in_ok-slots.slots;
      heard = c.self.inside.heard;
      failed = c.self.inside.failed;
    }))
    (grind (arith, common_steps)) (subst IsKept c.self.view_is c.self.invariant)
