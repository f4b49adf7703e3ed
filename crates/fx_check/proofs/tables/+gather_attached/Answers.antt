use Rattle.fx_check.specs.Facts.{attached_in}
use Rattle.fx_check.proofs.Gathering.{attached_next, attached_step, branch_attaches}
use Rattle.fx_check.proofs.tables.+gather_attached.Goals as goal

pub gather_attached-loop-statement-preserved : goal.gather_attached-loop-statement-preserved
gather_attached-loop-statement-preserved t c =
    attached_next c.args.body.now c.loop-statement.statement-index c.statement-item.result c.loop-statement.attached c.gather_attached_by.new.attached c.args.attached.now (attached_in c.args.body.now)
    c.loop-statement-test.true c.statement-item.is c.loop-statement.invariant c.in_ok-gather_attached_by.ensures

pub gather_attached_by-returns-in_ok-gather_attached-in-Branch-2 : goal.gather_attached_by-returns-in_ok-gather_attached-in-Branch-2
gather_attached_by-returns-in_ok-gather_attached-in-Branch-2 t c =
    let b = c.in-Branch in
    let has = branch_attaches c.args.statement.now b.spot b.test b.left b.right b.yes c.in-Some.no b.no b.is c.in-Some.is in
    let step = attached_step c.args.attached.now c.gather_attached-in-Branch.new.attached c.gather_attached-in-Some.new.attached
    (attached_in c.as_slice-in-Branch.result.now) (attached_in c.as_slice-in-Some.result.now)
    c.in_ok-gather_attached-in-Branch.ensures c.in_ok-gather_attached-in-Branch-2.ensures in
    rw (has, ← c.as_slice-in-Branch.ensures, ← c.as_slice-in-Some.ensures) step
