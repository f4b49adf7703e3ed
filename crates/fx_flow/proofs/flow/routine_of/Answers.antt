use Rattle.std.proofs.Common.{◌∙◌, sym}
use Rattle.fx_flow.proofs.Made.{found_here}
use Rattle.fx_flow.proofs.flow.routine_of.Goals as goal

pub returns-then-eq : goal.returns-then-eq
returns-then-eq c =
    let same = rw (c.as_slice.ensures) at c.eq.ensures in
    found_here c.args.name.now c.args.routines.now c.loop-routine.routine-index c.routine-item.result c.loop-routine-test.true c.routine-item.is (sym same ∙ c.if-eq.true) c.loop-routine.invariant
