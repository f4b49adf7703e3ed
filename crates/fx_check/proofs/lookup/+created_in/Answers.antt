use Rattle.std.proofs.Common.{sym, ◌∙◌}
use Rattle.fx_check.proofs.Gathering.{created_here, created_on, branch_created_here, branch_created_on}
use Rattle.fx_check.proofs.lookup.+created_in.Goals as goal

pub created_in-returns-then-is_some : goal.created_in-returns-then-is_some
created_in-returns-then-is_some t c =
    created_here c.args.body.now c.loop-statement.statement-index c.statement-item.result c.args.group.now c.created_by-first.result
    c.loop-statement-test.true c.statement-item.is c.created_by-first.ensures (sym c.is_some.ensures ∙ c.if-is_some.true) c.loop-statement.invariant

pub created_in-loop-statement-preserved : goal.created_in-loop-statement-preserved
created_in-loop-statement-preserved t c =
    created_on c.args.body.now c.loop-statement.statement-index c.statement-item.result c.args.group.now c.created_by-first.result
    c.loop-statement-test.true c.statement-item.is c.created_by-first.ensures (sym c.is_some.ensures ∙ c.if-is_some.false) c.loop-statement.invariant

pub created_by-returns-then-is_some : goal.created_by-returns-then-is_some
created_by-returns-then-is_some t c =
    let in_chosen = rw c.as_slice-in-Some.ensures at c.created_in-first.ensures in
    branch_created_here c.args.statement.now c.in-Branch.spot c.in-Branch.test c.in-Branch.left c.in-Branch.right c.in-Branch.yes c.in-Some.no c.in-Branch.no c.args.wanted.now
    c.created_in-first.result c.in-Branch.is c.in-Some.is in_chosen (sym c.is_some.ensures ∙ c.if-is_some.true)

pub created_by-returns-else-is_some : goal.created_by-returns-else-is_some
created_by-returns-else-is_some t c =
    let in_chosen = rw c.as_slice-in-Some.ensures at c.created_in-first.ensures in
    let in_other = rw c.as_slice-in-Some-2.ensures at c.created_in-in-Some.ensures in
    in_other ∙ branch_created_on c.args.statement.now c.in-Branch.spot c.in-Branch.test c.in-Branch.left c.in-Branch.right c.in-Branch.yes c.in-Some.no c.in-Branch.no c.args.wanted.now
    c.created_in-first.result c.in-Branch.is c.in-Some.is in_chosen (sym c.is_some.ensures ∙ c.if-is_some.false)
