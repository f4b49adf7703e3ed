use Rattle.std.proofs.Common.{◌≡◌, Ok, arith, ap, ◌∙◌}
use Rattle.std.proofs.lemmas.Result.{err_from_is_err_and}
use Rattle.fx_fleet.specs.Rounds.{in_rising_order}
use Rattle.fx_fleet.specs.Runs.{job_setup, rest_bound_of}
use Rattle.fx_world.specs.Goes.{in_round, in_rounds}
use Rattle.fx_world.proofs.Going.{same_way, turn_on}
use Rattle.fx_world.proofs.Grows.{round_adds}
use Rattle.fx_world.proofs.Loops.{cut_turn_of}
use Rattle.fx_world.proofs.world.World.go_rounds.Goals as goal

pub returns-in_err-go_round-clause-goes : goal.returns-in_err-go_round-clause-goes
returns-in_err-go_round-clause-goes g c =
    let p = err_from_is_err_and c.from_residual.result c.from_residual.ensures.1 in
    rw (p.1, p.2) (cut_turn_of _ _ _ c.args.shown _ _ _ (λ job i. in_round job) c.loop.counter c.args.count c.in_err-go_round.field-0.0 c.loop.invariant.goes c.in_err-go_round.ensures.goes
    c.loop-test.true (λ job i w. round_adds (job_setup job) (rest_bound_of job) w))

pub loop-preserved : goal.loop-preserved
loop-preserved g c = record {
  goes = turn_on _ _ _ c.args.shown _ _ _ (λ job i. in_round job) c.loop.counter c.loop.invariant.goes c.in_ok-go_round.ensures.goes;
  same = record { procs = c.in_ok-go_round.ensures.of_all.procs ∙ c.loop.invariant.same.procs; fuel = c.in_ok-go_round.ensures.of_all.fuel ∙ c.loop.invariant.same.fuel };
}

pub returns-clause-goes : goal.returns-clause-goes
returns-clause-goes g c =
    let all : c.loop.counter ≡ c.args.count = omega (arith, c.loop-test.false, c.loop.auto.counter-end) in
    same_way _ (Ok tt) _ _ c.args.shown _ _ (λ job w. in_rising_order (λ i. in_round job) c.loop.counter w) (in_rounds c.args.count) c.loop.invariant.goes
    (λ job w asks is. ap (λ n. in_rising_order (λ i. in_round job) n w) all)
