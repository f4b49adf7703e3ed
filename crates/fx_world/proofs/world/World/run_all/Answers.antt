use Rattle.std.proofs.Common.{Ok, ◌∙◌, ap}
use Rattle.std.proofs.lemmas.Result.{err_from_is_err_and}
use Rattle.fx_fleet.specs.Runs.{job_setup, rest_bound_of}
use Rattle.fx_world.specs.Goes.{at_all, in_run, in_tail, meant}
use Rattle.fx_world.specs.Standings.{Standings}
use Rattle.fx_world.specs.declared.end.RunEnd.TheVariants as end
use Rattle.std.proofs.Common.{map}
use Rattle.fx_world.proofs.Going.{gives_up_at_once, goes_on, stops}
use Rattle.fx_world.proofs.Grows.{grows_on, moments_add, tail_adds}
use Rattle.fx_world.proofs.Wholes.{whole_cut, whole_done, whole_unfinished}
use Rattle.fx_world.proofs.world.World.run_all.Goals as goal

pub returns-then-self-clause-goes : goal.returns-then-self-clause-goes
returns-then-self-clause-goes g c =
    whole_cut c.args.self.now c.args.self.now c.args.shown _ _ (in_run c.args.moments.now c.args.bound) end.NoMemory
    (gives_up_at_once _ c.args.self.now c.args.self.now c.args.shown _ (in_run c.args.moments.now c.args.bound)
    (λ job w. grows_on (moments_add (job_setup job) (rest_bound_of job) (map meant c.args.moments.now) w) (tail_adds (job_setup job) (rest_bound_of job) c.args.bound (at_all c.args.moments.now job w))))

pub returns-in_err-apply_all-clause-goes : goal.returns-in_err-apply_all-clause-goes
returns-in_err-apply_all-clause-goes g c =
    let p = err_from_is_err_and c.from_residual.result c.from_residual.ensures.1 in
    rw (p.1, p.2) (whole_cut _ _ c.args.shown _ _ (in_run c.args.moments.now c.args.bound) c.in_err-apply_all.field-0.0
    (stops _ _ c.in_err-apply_all.field-0.0 _ _ c.args.shown _ _ (at_all c.args.moments.now) (in_run c.args.moments.now c.args.bound) (rw c.as_slice.ensures at c.in_err-apply_all.ensures.goes)
    (λ job w asks is. tail_adds (job_setup job) (rest_bound_of job) c.args.bound (at_all c.args.moments.now job w))))

pub returns-then-not-is_over-clause-goes : goal.returns-then-not-is_over-clause-goes
returns-then-not-is_over-clause-goes g c =
    whole_unfinished _ _ c.args.shown _ _ (in_run c.args.moments.now c.args.bound) c.is_over.result
    (goes_on _ _ _ _ _ _ c.args.shown _ _ _ (at_all c.args.moments.now) (in_tail c.args.bound) (Ok tt) (rw c.as_slice.ensures at c.in_ok-apply_all.ensures.goes) c.in_ok-run_tail.ensures.goes)
    c.is_over.ensures c.if-not-is_over.true

pub returns-clause-goes : goal.returns-clause-goes
returns-clause-goes g c =
    whole_done _ _ c.args.shown _ _ (in_run c.args.moments.now c.args.bound) c.is_over.result c.counts.result
    (goes_on _ _ _ _ _ _ c.args.shown _ _ _ (at_all c.args.moments.now) (in_tail c.args.bound) (Ok tt) (rw c.as_slice.ensures at c.in_ok-apply_all.ensures.goes) c.in_ok-run_tail.ensures.goes)
    c.is_over.ensures c.if-not-is_over.false (c.counts.ensures ∙ ap (λ (s : Standings). s.counts) c.self-2.view_is)
