use Rattle.std.proofs.Common.{◌+◌, ◌-◌, arith, sym, ◌∙◌}
use Rattle.std.proofs.lemmas.Result.{err_from_is_err_and}
use Rattle.fx_world.specs.Goes.{in_round, in_tail}
use Rattle.fx_world.proofs.Going.{cuts_way, ends_way, goes_way}
use Rattle.fx_world.proofs.Loops.{no_tail, round_of_tail, tail_on, tail_over}
use Rattle.fx_world.proofs.world.World.run_tail.Goals as goal

pub returns-then-is_over-clause-goes : goal.returns-then-is_over-clause-goes
returns-then-is_over-clause-goes g c =
    ends_way _ tt _ _ c.args.shown _ _ (in_tail c.args.bound) (in_tail (c.args.bound - c.loop.counter)) c.loop.invariant.way
    (λ job w asks is. tail_over job (c.args.bound - c.loop.counter) w (sym (c.if-is_over.ensures job w is)))

pub returns-in_err-round-clause-goes : goal.returns-in_err-round-clause-goes
returns-in_err-round-clause-goes g c =
    let p = err_from_is_err_and c.from_residual.result c.from_residual.ensures.1 in
    rw (p.1, p.2) (cuts_way _ _ c.in_err-round.field-0.0 _ _ _ c.args.shown _ _ _ (in_tail c.args.bound) (in_tail (c.args.bound - c.loop.counter)) in_round c.loop.invariant.way c.in_err-round.ensures.goes
    (λ job w asks is. round_of_tail job c.args.bound c.loop.counter w c.loop-test.true (sym (c.if-is_over.ensures job w is))))

pub loop-preserved : goal.loop-preserved
loop-preserved g c = record {
  way = goes_way _ _ _ _ _ c.args.shown _ _ _ (in_tail c.args.bound) (in_tail (c.args.bound - c.loop.counter)) (in_tail (c.args.bound - (c.loop.counter + 1))) in_round c.loop.invariant.way c.in_ok-round.ensures.goes
      (λ job w asks is. tail_on job c.args.bound c.loop.counter w c.loop-test.true (sym (c.if-is_over.ensures job w is)));
  same = record { procs = c.in_ok-round.ensures.of_all.procs ∙ c.loop.invariant.same.procs; fuel = c.in_ok-round.ensures.of_all.fuel ∙ c.loop.invariant.same.fuel };
}

pub returns-clause-goes : goal.returns-clause-goes
returns-clause-goes g c =
    ends_way _ tt _ _ c.args.shown _ _ (in_tail c.args.bound) (in_tail (c.args.bound - c.loop.counter)) c.loop.invariant.way
    (λ job w asks is. no_tail job c.args.bound c.loop.counter w (omega (arith, c.loop-test.false)))
