use Rattle.std.proofs.Common.{arith}
use Rattle.fx_subset.proofs.Count.{apart_at, total_at, total_fits}
use Rattle.fx_subset.proofs.runs.total.Goals as goal

pub overflow_sub-count : goal.overflow_sub-count
overflow_sub-count c = apart_at 0 c.args.runs.now c.loop-run.run-index (0, 0) c.requires (omega arith)

pub overflow_add-count : goal.overflow_add-count
overflow_add-count c =
    let here = total_at c.args.runs.now c.loop-run.run-index (0, 0) c.requires (omega arith) in
    let fits = total_fits c.args.runs.now c.requires in
    omega (arith, here, fits, c.loop-run.invariant)

pub overflow_add-count-in-loop-run : goal.overflow_add-count-in-loop-run
overflow_add-count-in-loop-run c =
    let here = total_at c.args.runs.now c.loop-run.run-index (0, 0) c.requires (omega arith) in
    let fits = total_fits c.args.runs.now c.requires in
    omega (arith, here, fits, c.loop-run.invariant)

pub loop-run-preserved : goal.loop-run-preserved
loop-run-preserved c =
    let here = total_at c.args.runs.now c.loop-run.run-index (0, 0) c.requires (omega arith) in
    omega (arith, here, c.loop-run.invariant)
