use Rattle.std.proofs.Common.{◌≡◌, suc, ◌+◌, ◌-◌, sym, ap, ◌∙◌, subst, arith}
use Rattle.std.specs.FinMap.{empty}
use Rattle.std.proofs.lemmas.Result.{err_from_is_err_and}
use Rattle.fx_base.specs.Bounds.{HasIndicesBelow256}
use Rattle.fx_pack.specs.Reading.{runs_put}
use Rattle.fx_pack.proofs.Steps.{run_step, run_fails, runs_end}
use Rattle.fx_store.proofs.Indices.{none_above}
use Rattle.fx_pack.proofs.reading.read_runs.Goals as goal

pub loop-init : goal.loop-init
loop-init c =
    let same : c.args.count - 0 ≡ c.args.count = omega arith in
    record {
      read = (λ i. runs_put (same i) 0 c.args.bytes.now (c.new-elements.ensures i));
      indices = subst HasIndicesBelow256 (sym c.new-elements.ensures) none_above;
    }

pub returns-in_err-least-clause-read : goal.returns-in_err-least-clause-read
returns-in_err-least-clause-read c =
    let p = err_from_is_err_and c.from_residual.result c.from_residual.ensures.1 in
    let more : c.args.count - c.loop.counter ≡ suc (c.args.count - (c.loop.counter + 1)) = omega (arith, c.loop-test.true) in
    let inv = ap (λ k. runs_put k c.loop.least c.loop.rest.now c.loop.elements) (sym more) ∙ c.loop.invariant.read in
    rw (p.1, p.2) (run_fails c.in_err-least.field-0.0 (c.args.count - (c.loop.counter + 1)) c.loop.least c.loop.rest.now c.loop.elements (runs_put c.args.count 0 c.args.bytes.now empty) c.in_err-least.ensures.read inv)

pub loop-preserved : goal.loop-preserved
loop-preserved c =
    let more : c.args.count - c.loop.counter ≡ suc (c.args.count - (c.loop.counter + 1)) = omega (arith, c.loop-test.true) in
    let inv = ap (λ k. runs_put k c.loop.least c.loop.rest.now c.loop.elements) (sym more) ∙ c.loop.invariant.read in
    record {
      read = run_step (c.args.count - (c.loop.counter + 1)) c.loop.least c.in_ok-least.field-0-0 c.loop.rest.now c.in_ok-least.field-0-1.now c.loop.elements c.read_run.new.elements (runs_put c.args.count 0 c.args.bytes.now empty) c.in_ok-least.ensures.read inv;
      indices = c.in_ok-least.ensures.indices;
    }

pub returns-clause-read : goal.returns-clause-read
returns-clause-read c =
    let none : c.args.count - c.loop.counter ≡ 0 = omega (arith, c.loop-test.false) in
    runs_end c.loop.least c.loop.rest.now c.loop.elements (runs_put c.args.count 0 c.args.bytes.now empty) (ap (λ k. runs_put k c.loop.least c.loop.rest.now c.loop.elements) (sym none) ∙ c.loop.invariant.read)
