use Rattle.std.proofs.Common.{◌≡◌, ◌==◌, Ok, Err, arith, ap, ◌∙◌, refl, true, false}
use Rattle.std.proofs.lemmas.Result.{err_from_is_err_and}
use Rattle.std.proofs.lemmas.Bool.Decides.{nat_tests}
use Rattle.fx_world.specs.Goes.{draining, draining_other}
use Rattle.fx_world.specs.Standings.{Standings}
use Rattle.fx_world.proofs.Going.{same_way, stays, turn_on}
use Rattle.fx_world.proofs.Loops.{all_turns, cut_turn, other_drain, other_drain_adds, own_drain}
use Rattle.fx_world.proofs.world.World.receive_all.Goals as goal
use Rattle.fx_world.proofs.world.World.receive_all.Goals.{then-process-q+in_ok-drain, else-process-q}

pub returns-in_err-drain-clause-goes : goal.returns-in_err-drain-clause-goes
returns-in_err-drain-clause-goes g c =
    let p = err_from_is_err_and c.from_residual.result c.from_residual.ensures.1 in
    let procs = ap (λ (s : Standings). s.procs) c.self.view_is in
    let apart : (c.loop-process.process == c.args.q.0) ≡ false = grind (arith, nat_tests, c.if-process-q.true) in
    rw (p.1, p.2) (cut_turn _ _ _ c.args.shown _ _ _ (λ job p. draining_other c.args.q.0 p job) c.loop-process.process c.in_err-drain.field-0.0 c.loop-process.invariant.goes
    (same_way _ (Err c.in_err-drain.field-0.0) _ _ c.args.shown _ _ (draining c.loop-process.process c.args.q.0) (draining_other c.args.q.0 c.loop-process.process) c.in_err-drain.ensures.goes
    (λ job w asks is. other_drain job c.args.q.0 c.loop-process.process w apart))
    (omega (arith, c.loop-process-test.true, procs)) (λ job p w. other_drain_adds job c.args.q.0 p w))

pub loop-process-preserved : goal.loop-process-preserved
loop-process-preserved g c = elim c.if-process-q.branch [
  | then-process-q+in_ok-drain w ↦
      let apart : (c.loop-process.process == c.args.q.0) ≡ false = grind (arith, nat_tests, w.if-process-q.true) in
      rw (w.self-is, w.sink-is) record {
        goes = turn_on _ _ _ c.args.shown _ _ _ (λ job p. draining_other c.args.q.0 p job) c.loop-process.process c.loop-process.invariant.goes
            (same_way _ (Ok tt) _ _ c.args.shown _ _ (draining c.loop-process.process c.args.q.0) (draining_other c.args.q.0 c.loop-process.process) w.in_ok-drain.ensures.goes
            (λ job v asks is. other_drain job c.args.q.0 c.loop-process.process v apart));
        same = record { procs = w.in_ok-drain.ensures.of_all.procs ∙ c.loop-process.invariant.same.procs; fuel = w.in_ok-drain.ensures.of_all.fuel ∙ c.loop-process.invariant.same.fuel };
      }
  | else-process-q w ↦
      let own : (c.loop-process.process == c.args.q.0) ≡ true = grind (arith, nat_tests, w.if-process-q.false) in
      rw (w.self-is, w.sink-is) record {
        goes = turn_on _ _ _ c.args.shown _ _ _ (λ job p. draining_other c.args.q.0 p job) c.loop-process.process c.loop-process.invariant.goes
            (stays _ tt _ _ c.args.shown _ (draining_other c.args.q.0 c.loop-process.process) refl (λ job v asks is. own_drain job c.args.q.0 c.loop-process.process v own));
        same = c.loop-process.invariant.same;
      }
]

pub returns-clause-goes : goal.returns-clause-goes
returns-clause-goes g c =
    let procs = ap (λ (s : Standings). s.procs) c.self.view_is in
    all_turns _ _ c.args.shown _ _ (λ job p. draining_other c.args.q.0 p job) c.loop-process.process c.loop-process.invariant.goes
    (omega (arith, c.loop-process-test.false, c.loop-process.auto.process-end, procs))
