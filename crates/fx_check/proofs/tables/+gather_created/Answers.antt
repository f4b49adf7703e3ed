use Rattle.fx_check.specs.Facts.{created_in}
use Rattle.fx_check.proofs.Gathering.{created_next, created_step, branch_creates}
use Rattle.fx_check.proofs.tables.+gather_created.Goals as goal

pub gather_created-loop-statement-preserved : goal.gather_created-loop-statement-preserved
gather_created-loop-statement-preserved t c =
    created_next c.args.body.now c.loop-statement.statement-index c.statement-item.result c.loop-statement.created c.gather_created_by.new.created c.args.created.now (created_in c.args.body.now)
    c.loop-statement-test.true c.statement-item.is c.loop-statement.invariant c.in_ok-gather_created_by.ensures

pub gather_created_by-returns-in_ok-gather_created-in-Branch-2 : goal.gather_created_by-returns-in_ok-gather_created-in-Branch-2
gather_created_by-returns-in_ok-gather_created-in-Branch-2 t c =
    let b = c.in-Branch in
    let has = branch_creates c.args.statement.now b.spot b.test b.left b.right b.yes c.in-Some.no b.no b.is c.in-Some.is in
    let step = created_step c.args.created.now c.gather_created-in-Branch.new.created c.gather_created-in-Some.new.created
    (created_in c.as_slice-in-Branch.result.now) (created_in c.as_slice-in-Some.result.now)
    c.in_ok-gather_created-in-Branch.ensures c.in_ok-gather_created-in-Branch-2.ensures in
    rw (has, ← c.as_slice-in-Branch.ensures, ← c.as_slice-in-Some.ensures) step
