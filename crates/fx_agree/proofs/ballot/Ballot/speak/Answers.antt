use Rattle.std.proofs.Common.{arith, subst, Some}
use Rattle.std.proofs.lemmas.Grind.{common_steps}
use Rattle.std.specs.Vec.{with_item}
use Rattle.fx_agree.specs.contracts.ballot.Ballot.{the_view}
use Rattle.fx_agree.specs.Stages.{IsKept}
use Rattle.fx_agree.proofs.Keeping.{kept_turned}
use Rattle.fx_agree.proofs.ballot.Ballot.speak.Goals as goal

pub invariant_of-self : goal.invariant_of-self
invariant_of-self c =
    kept_turned c.args.self.now
    (the_view (record {
      members = c.self.inside.members;
      me = c.self.inside.me;
      stage = c.pass.new.self;
      heard = with_item c.self.inside.heard c.from.result (record { vote = c.index_mut.result.now.vote; estimate = Some c.in_ok-own.own; lost = c.index_mut.result.now.lost; left = c.index_mut.result.now.left });
      failed = c.self.inside.failed;
    }))
    (grind (arith, common_steps)) (subst IsKept c.self.view_is c.self.invariant)
