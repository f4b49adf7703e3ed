use Rattle.std.proofs.Common.{Ok, sym, subst, ◌∙◌}
use Rattle.std.proofs.lemmas.Result.{err_from_is_err_and}
use Rattle.fx_fleet.specs.Runs.{job_setup, rest_bound_of}
use Rattle.fx_fleet.specs.World.{World}
use Rattle.fx_world.specs.Goes.{in_turn, learning, receiving, resting}
use Rattle.fx_world.proofs.Going.{goes_on, same_way, stops}
use Rattle.fx_world.proofs.Grows.{Grows, grows_on, rest_adds}
use Rattle.fx_world.proofs.Loops.{learning_adds, turn_is}
use Rattle.fx_world.proofs.world.World.take_turn.Goals as goal

pub returns-in_err-receive_all-clause-goes : goal.returns-in_err-receive_all-clause-goes
returns-in_err-receive_all-clause-goes g c =
    let p = err_from_is_err_and c.from_residual.result c.from_residual.ensures.1 in
    rw (p.1, p.2) (stops _ _ c.in_err-receive_all.field-0.0 _ _ c.args.shown _ _ (receiving c.args.q.0) (in_turn c.args.q.0) c.in_err-receive_all.ensures.goes
    (λ job w asks is.
    let on = sym (c.is_up.ensures.world job w is) ∙ c.if-not-is_up.false in
    let x = receiving c.args.q.0 job w in
    subst (λ (y : World). Grows x y) (turn_is job c.args.q.0 w on) (grows_on (learning_adds job c.args.q.0 x) (rest_adds (job_setup job) (rest_bound_of job) c.args.q.0 (learning c.args.q.0 job x)))))

pub returns-in_err-learn_all-clause-goes : goal.returns-in_err-learn_all-clause-goes
returns-in_err-learn_all-clause-goes g c =
    let p = err_from_is_err_and c.from_residual-in_err-learn_all.result c.from_residual-in_err-learn_all.ensures.1 in
    rw (p.1, p.2) (stops _ _ c.in_err-learn_all.field-0.0 _ _ c.args.shown _ _ (λ job w. learning c.args.q.0 job (receiving c.args.q.0 job w)) (in_turn c.args.q.0)
    (goes_on _ _ _ _ _ _ c.args.shown _ _ _ (receiving c.args.q.0) (learning c.args.q.0) _ c.in_ok-receive_all.ensures.goes c.in_err-learn_all.ensures.goes)
    (λ job w asks is.
    let on = sym (c.is_up.ensures.world job w is) ∙ c.if-not-is_up.false in
    let x = learning c.args.q.0 job (receiving c.args.q.0 job w) in
    subst (λ (y : World). Grows x y) (turn_is job c.args.q.0 w on) (rest_adds (job_setup job) (rest_bound_of job) c.args.q.0 x)))

pub returns-clause-goes : goal.returns-clause-goes
returns-clause-goes g c =
    same_way _ c.rest.result _ _ c.args.shown _ _ (λ job w. resting c.args.q.0 job (learning c.args.q.0 job (receiving c.args.q.0 job w))) (in_turn c.args.q.0)
    (goes_on _ _ _ _ _ _ c.args.shown _ _ _ (λ job w. learning c.args.q.0 job (receiving c.args.q.0 job w)) (resting c.args.q.0) _
    (goes_on _ _ _ _ _ _ c.args.shown _ _ _ (receiving c.args.q.0) (learning c.args.q.0) (Ok tt) c.in_ok-receive_all.ensures.goes c.in_ok-learn_all.ensures.goes) c.rest.ensures.goes)
    (λ job w asks is. turn_is job c.args.q.0 w (sym (c.is_up.ensures.world job w is) ∙ c.if-not-is_up.false))
