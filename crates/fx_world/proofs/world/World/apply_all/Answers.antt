use Rattle.std.proofs.Common.{drop}
use Rattle.std.proofs.lemmas.List.{get_or_default}
use Rattle.std.proofs.lemmas.Result.{err_from_is_err_and}
use Rattle.fx_world.specs.Goes.{at_all, at_moment}
use Rattle.fx_world.proofs.Going.{cuts_way}
use Rattle.fx_world.proofs.Loops.{moment_of_all}
use Rattle.fx_world.proofs.world.World.apply_all.Goals as goal

pub returns-in_err-apply-clause-goes : goal.returns-in_err-apply-clause-goes
returns-in_err-apply-clause-goes g c =
    let p = err_from_is_err_and c.from_residual.result c.from_residual.ensures.1 in
    rw (p.1, p.2) (cuts_way _ _ c.in_err-apply.field-0.0 _ _ _ c.args.shown _ _ _ (at_all c.args.moments.now) (at_all (drop c.loop-moment.moment-index c.args.moments.now)) (at_moment _) c.loop-moment.invariant.way c.in_err-apply.ensures.goes
    (λ job w asks is. moment_of_all job c.args.moments.now c.loop-moment.moment-index _ w c.loop-moment-test.true (get_or_default c.args.moments.now c.loop-moment.moment-index _ _ c.loop-moment-test.true)))
