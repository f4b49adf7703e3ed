use Rattle.std.proofs.Common.{◌+◌, ◌-◌, arith, refl, sym, ◌∙◌, ap}
use Rattle.std.proofs.lemmas.Result.{err_from_is_err_and}
use Rattle.fx_fleet.specs.Rounds.{is_quiet, rests}
use Rattle.fx_fleet.specs.Runs.{job_setup, rest_bound_of}
use Rattle.fx_world.specs.Goes.{resting, stepping}
use Rattle.fx_world.specs.Standings.{Standings}
use Rattle.fx_world.proofs.Going.{cuts_way, ends_way, goes_way}
use Rattle.fx_world.proofs.Loops.{quiet_stays, rest_on, rest_over, rest_quiet, step_of_rest}
use Rattle.fx_world.proofs.Lists.{not_not_so, not_so}
use Rattle.fx_world.proofs.world.World.rest.Goals as goal

pub returns-in_err-step-clause-goes : goal.returns-in_err-step-clause-goes
returns-in_err-step-clause-goes g c =
    let p = err_from_is_err_and c.from_residual.result c.from_residual.ensures.1 in
    let fuel = ap (λ (s : Standings). s.fuel) c.self.view_is in
    rw (p.1, p.2) (cuts_way _ _ c.in_err-step.field-0.0 _ _ _ c.args.shown _ _ _ (resting c.args.p.0) _ (stepping c.args.p.0) c.loop.invariant.way c.in_err-step.ensures.goes
    (λ job w asks is. step_of_rest (job_setup job) (rest_bound_of job) c.loop.counter c.args.p.0 w (omega (arith, c.loop-test.true, is.fuel, c.loop.invariant.same.fuel, fuel))))

pub returns-then-not-branch-clause-goes : goal.returns-then-not-branch-clause-goes
returns-then-not-branch-clause-goes g c =
    ends_way _ tt _ _ c.args.shown _ _ (resting c.args.p.0) (λ job w. w)
    (goes_way _ _ _ _ _ c.args.shown _ _ _ (resting c.args.p.0) (λ job w. rests (job_setup job) (rest_bound_of job - c.loop.counter) c.args.p.0 w) (λ job w. w) (stepping c.args.p.0) c.loop.invariant.way c.in_ok-step.ensures.goes
    (λ job w asks is.
    let quiet = not_so c.in_ok-step.field-0 (is_quiet (job_setup job) c.args.p.0 w) (c.in_ok-step.ensures.acts job w asks is) c.if-not-branch.true in
    quiet_stays (job_setup job) c.args.p.0 w quiet ∙ sym (rest_quiet (job_setup job) (rest_bound_of job - c.loop.counter) c.args.p.0 w quiet)))
    (λ job w asks is. refl)

pub loop-preserved : goal.loop-preserved
loop-preserved g c =
    let fuel = ap (λ (s : Standings). s.fuel) c.self.view_is in
    record {
      way = goes_way _ _ _ _ _ c.args.shown _ _ _ (resting c.args.p.0) (λ job w. rests (job_setup job) (rest_bound_of job - c.loop.counter) c.args.p.0 w) (λ job w. rests (job_setup job) (rest_bound_of job - (c.loop.counter + 1)) c.args.p.0 w) (stepping c.args.p.0) c.loop.invariant.way c.in_ok-step.ensures.goes
          (λ job w asks is.
          let busy = not_not_so c.in_ok-step.field-0 (is_quiet (job_setup job) c.args.p.0 w) (c.in_ok-step.ensures.acts job w asks is) c.if-not-branch.false in
          rest_on (job_setup job) (rest_bound_of job) c.loop.counter c.args.p.0 w (omega (arith, c.loop-test.true, is.fuel, c.loop.invariant.same.fuel, fuel)) busy);
      same = record { procs = c.in_ok-step.ensures.of_all.procs ∙ c.loop.invariant.same.procs; fuel = c.in_ok-step.ensures.of_all.fuel ∙ c.loop.invariant.same.fuel };
    }

pub returns-clause-goes : goal.returns-clause-goes
returns-clause-goes g c =
    let fuel = ap (λ (s : Standings). s.fuel) c.self.view_is in
    ends_way _ tt _ _ c.args.shown _ _ (resting c.args.p.0) (λ job w. rests (job_setup job) (rest_bound_of job - c.loop.counter) c.args.p.0 w) c.loop.invariant.way
    (λ job w asks is. rest_over (job_setup job) (rest_bound_of job) c.loop.counter c.args.p.0 w (omega (arith, c.loop-test.false, is.fuel, c.loop.invariant.same.fuel, fuel)))
