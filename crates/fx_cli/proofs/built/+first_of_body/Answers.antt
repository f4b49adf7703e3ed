use Rattle.std.proofs.Common.{sym, ◌∙◌}
use Rattle.fx_cli.proofs.Marks.{found_here, goes_on, in_when, in_loop, in_branch, in_first, in_other}
use Rattle.fx_cli.proofs.built.+first_of_body.Goals as goal

pub first_of_body-returns-then-is_some : goal.first_of_body-returns-then-is_some
first_of_body-returns-then-is_some t c =
    found_here c.args.body.now c.loop-statement.statement-index c.statement-item.result c.first_of-first.result
    c.loop-statement-test.true c.statement-item.is c.first_of-first.ensures (sym c.is_some.ensures ∙ c.if-is_some.true) c.loop-statement.invariant

pub first_of_body-loop-statement-preserved : goal.first_of_body-loop-statement-preserved
first_of_body-loop-statement-preserved t c =
    goes_on c.args.body.now c.loop-statement.statement-index c.statement-item.result c.first_of-first.result
    c.loop-statement-test.true c.statement-item.is c.first_of-first.ensures (sym c.is_some.ensures ∙ c.if-is_some.false) c.loop-statement.invariant

pub first_of-returns-in-RoleOnly : goal.first_of-returns-in-RoleOnly
first_of-returns-in-RoleOnly t c =
    let in_body = rw c.as_slice.ensures at c.first_of_body.ensures in
    in_body ∙ sym (in_when c.args.statement.now c.in-RoleOnly.spot c.in-RoleOnly.role c.in-RoleOnly.body c.in-RoleOnly.is)

pub first_of-returns-in-Loop : goal.first_of-returns-in-Loop
first_of-returns-in-Loop t c =
    let in_body = rw c.as_slice-in-Loop.ensures at c.first_of_body-in-Loop.ensures in
    in_body ∙ sym (in_loop c.args.statement.now c.in-Loop.spot c.in-Loop.counter c.in-Loop.first c.in-Loop.last c.in-Loop.body c.in-Loop.is)

pub first_of-returns-in-None : goal.first_of-returns-in-None
first_of-returns-in-None t c =
    let in_chosen = rw c.as_slice-in-None.ensures at c.first_of_body-in-None.ensures in
    in_chosen ∙ sym (in_branch c.args.statement.now c.in-Branch.spot c.in-Branch.test c.in-Branch.left c.in-Branch.right c.in-Branch.yes c.in-Branch.no c.in-Branch.is c.in-None.is)

pub first_of-returns-then-is_some : goal.first_of-returns-then-is_some
first_of-returns-then-is_some t c =
    let in_chosen = rw c.as_slice-in-Some.ensures at c.first_of_body-first.ensures in
    in_first c.args.statement.now c.in-Branch.spot c.in-Branch.test c.in-Branch.left c.in-Branch.right c.in-Branch.yes c.in-Some.no c.in-Branch.no
    c.first_of_body-first.result c.in-Branch.is c.in-Some.is in_chosen (sym c.is_some.ensures ∙ c.if-is_some.true)

pub first_of-returns-else-is_some : goal.first_of-returns-else-is_some
first_of-returns-else-is_some t c =
    let in_chosen = rw c.as_slice-in-Some.ensures at c.first_of_body-first.ensures in
    let in_no = rw c.as_slice-in-Some-2.ensures at c.first_of_body-in-Some.ensures in
    in_no ∙ in_other c.args.statement.now c.in-Branch.spot c.in-Branch.test c.in-Branch.left c.in-Branch.right c.in-Branch.yes c.in-Some.no c.in-Branch.no
    c.first_of_body-first.result c.in-Branch.is c.in-Some.is in_chosen (sym c.is_some.ensures ∙ c.if-is_some.false)
