use Rattle.std.proofs.Common.{refl, ◌∙◌}
use Rattle.std.specs.Ordering.{nat_cmp}
use Rattle.std.specs.FinSet as set
use Rattle.fx_node.proofs.Electing.{inserted_step, all_inserted}
use Rattle.fx_node.proofs.node.set_of.Goals as goal

pub loop-process-init : goal.loop-process-init
loop-process-init c = λ q. rw (c.new-set.ensures, set.contains-empty nat_cmp q) refl

pub loop-process-preserved : goal.loop-process-preserved
loop-process-preserved c = λ q.
    rw c.insert.ensures (inserted_step c.loop-process.set c.args.processes.now c.loop-process.process-index 0 q c.loop-process-test.true)
    ∙ c.loop-process.invariant q

pub returns : goal.returns
returns c = λ q. all_inserted c.loop-process.set c.args.processes.now c.loop-process.process-index q c.loop-process-test.false (c.loop-process.invariant q)
