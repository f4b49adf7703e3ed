use Rattle.std.proofs.Common.{arith, ap, ◌∙◌}
use Rattle.std.proofs.lemmas.Result.{err_from_is_err_and}
use Rattle.fx_fleet.specs.Runs.{job_setup}
use Rattle.fx_world.specs.Goes.{noticing}
use Rattle.fx_world.specs.Standings.{Standings}
use Rattle.fx_world.proofs.Going.{turn_on}
use Rattle.fx_world.proofs.Grows.{notice_adds}
use Rattle.fx_world.proofs.Loops.{all_turns, cut_turn}
use Rattle.fx_world.proofs.world.World.learn_all.Goals as goal

pub returns-in_err-tell_loss-clause-goes : goal.returns-in_err-tell_loss-clause-goes
returns-in_err-tell_loss-clause-goes g c =
    let p = err_from_is_err_and c.from_residual.result c.from_residual.ensures.1 in
    let procs = ap (λ (s : Standings). s.procs) c.self.view_is in
    rw (p.1, p.2) (cut_turn _ _ _ c.args.shown _ _ _ (λ job p. noticing p c.args.q.0 job) c.loop-process.process c.in_err-tell_loss.field-0.0 c.loop-process.invariant.goes c.in_err-tell_loss.ensures.goes
    (omega (arith, c.loop-process-test.true, procs)) (λ job p w. notice_adds (job_setup job) p c.args.q.0 w))

pub loop-process-preserved : goal.loop-process-preserved
loop-process-preserved g c = record {
  goes = turn_on _ _ _ c.args.shown _ _ _ (λ job p. noticing p c.args.q.0 job) c.loop-process.process c.loop-process.invariant.goes c.in_ok-tell_loss.ensures.goes;
  same = record { procs = c.in_ok-tell_loss.ensures.of_all.procs ∙ c.loop-process.invariant.same.procs; fuel = c.in_ok-tell_loss.ensures.of_all.fuel ∙ c.loop-process.invariant.same.fuel };
}

pub returns-clause-goes : goal.returns-clause-goes
returns-clause-goes g c =
    let procs = ap (λ (s : Standings). s.procs) c.self.view_is in
    all_turns _ _ c.args.shown _ _ (λ job p. noticing p c.args.q.0 job) c.loop-process.process c.loop-process.invariant.goes
    (omega (arith, c.loop-process-test.false, c.loop-process.auto.process-end, procs))
