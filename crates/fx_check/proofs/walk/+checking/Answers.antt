use Rattle.std.proofs.Common.{rules, arith, ◌+◌, ◌++◌, Option, Result, Ok, drop, sym, ap, subst, ◌∙◌}
use Rattle.std.proofs.lemmas.Result.{err_from_is_err_and}
use Rattle.fx_script.specs.declared.job.Stmt.TheViews.{the_lemmas}
use Rattle.fx_check.specs.declared.fault.CheckJob.{CheckJob}
use Rattle.fx_check.specs.Acceptance.{Refused, Tells, first_refused, judged_line, stmt_lines, stmts_lines}
use Rattle.fx_check.specs.Facts.{facts_of, or_first}
use Rattle.fx_check.specs.Rules.{inside_when, inside_if, inside_for}
use Rattle.fx_check.proofs.Walks.{refused_append, answers_on, answers_stop, answers_behind, refuses_behind, when_lines, if_lines, if_alone_lines, if_begins, for_lines, if_room, for_room, lines_from}
use Rattle.fx_check.proofs.walk.+checking.Goals as goal

pub check_stmt-returns-in-RoleOnly : goal.check_stmt-returns-in-RoleOnly
check_stmt-returns-in-RoleOnly t c =
    let b = c.in-RoleOnly in
    let f = facts_of c.args.job.now in
    answers_behind c.check_stmts.result (judged_line f c.args.place c.args.statement.now) (stmts_lines f b.body (inside_when c.args.place)) (stmt_lines f c.args.statement.now c.args.place)
    (when_lines f c.args.place c.args.statement.now b.spot b.role b.body b.is) (sym c.in_ok-fault.ensures ∙ c.in_default.is)
    (rw (c.as_slice.ensures, c.inside_when.ensures.same) at c.check_stmts.ensures)

pub check_stmt-returns-in-Loop : goal.check_stmt-returns-in-Loop
check_stmt-returns-in-Loop t c =
    let b = c.in-Loop in
    let f = facts_of c.args.job.now in
    answers_behind c.check_stmts-in-Loop.result (judged_line f c.args.place c.args.statement.now) (stmts_lines f b.body (inside_for c.args.place)) (stmt_lines f c.args.statement.now c.args.place)
    (for_lines f c.args.place c.args.statement.now b.spot b.counter b.first b.last b.body b.is) (sym c.in_ok-fault.ensures ∙ c.in_default.is)
    (rw (c.as_slice-in-Loop.ensures, c.inside_for.ensures.same) at c.check_stmts-in-Loop.ensures)

pub check_stmt-returns-in-Some-no : goal.check_stmt-returns-in-Some-no
check_stmt-returns-in-Some-no t c =
    let b = c.in-Branch in
    let f = facts_of c.args.job.now in
    let first = stmts_lines f b.yes (inside_if c.args.place) in
    let other = stmts_lines f c.in-Some-no.no (inside_if c.args.place) in
    answers_behind c.check_stmts-in-Some-no.result (judged_line f c.args.place c.args.statement.now) (first ++ other) (stmt_lines f c.args.statement.now c.args.place)
    (if_lines f c.args.place c.args.statement.now b.spot b.test b.left b.right b.yes c.in-Some-no.no b.no b.is c.in-Some-no.is) (sym c.in_ok-fault.ensures ∙ c.in_default.is)
    (answers_on c.check_stmts-in-Some-no.result first other (rw (c.as_slice-in-Branch.ensures, c.inside_if.ensures.same) at c.in_ok-check_stmts-in-Branch.ensures)
    (rw (c.as_slice-in-Some-no.ensures, c.inside_if-in-Some-no.ensures.same) at c.check_stmts-in-Some-no.ensures))

abbrev ok_unit : Unit {0} → Result (Unit {0}) CheckJob
ok_unit u = Ok u

pub check_stmt-returns-in-None : goal.check_stmt-returns-in-None
check_stmt-returns-in-None t c =
    let b = c.in-Branch in
    let f = facts_of c.args.job.now in
    answers_behind (ok_unit tt) (judged_line f c.args.place c.args.statement.now) (stmts_lines f b.yes (inside_if c.args.place)) (stmt_lines f c.args.statement.now c.args.place)
    (if_alone_lines f c.args.place c.args.statement.now b.spot b.test b.left b.right b.yes b.no b.is c.in-None.is) (sym c.in_ok-fault.ensures ∙ c.in_default.is)
    (rw (c.as_slice-in-Branch.ensures, c.inside_if.ensures.same) at c.in_ok-check_stmts-in-Branch.ensures)

pub check_stmt-returns-in_err-check_stmts-in-Branch : goal.check_stmt-returns-in_err-check_stmts-in-Branch
check_stmt-returns-in_err-check_stmts-in-Branch t c =
    let b = c.in-Branch in
    let f = facts_of c.args.job.now in
    let e = c.in_err-check_stmts-in-Branch.field-0.0 in
    let first = stmts_lines f b.yes (inside_if c.args.place) in
    let begins = if_begins f c.args.place c.args.statement.now b.spot b.test b.left b.right b.yes b.no b.is in
    let p = err_from_is_err_and c.from_residual-in_err-check_stmts-in-Branch.result c.from_residual-in_err-check_stmts-in-Branch.ensures.1 in
    rw (p.1, p.2) (refuses_behind e (judged_line f c.args.place c.args.statement.now) (first ++ begins.0) (stmt_lines f c.args.statement.now c.args.place) begins.1 (sym c.in_ok-fault.ensures ∙ c.in_default.is)
    (answers_stop e first begins.0 (rw (c.as_slice-in-Branch.ensures, c.inside_if.ensures.same) at c.in_err-check_stmts-in-Branch.ensures)))

pub check_stmts-returns-in_err-check_stmt : goal.check_stmts-returns-in_err-check_stmt
check_stmts-returns-in_err-check_stmt t c =
    let f = facts_of c.args.job.now in
    let from = lines_from f c.args.place c.args.body.now c.loop-statement.statement-index c.statement-item.result c.loop-statement-test.true c.statement-item.is in
    let e = c.in_err-check_stmt.field-0.0 in
    let p = err_from_is_err_and c.from_residual.result c.from_residual.ensures.1 in
    let stops = answers_stop e (stmt_lines f c.statement-item.result c.args.place) (stmts_lines f (drop (c.loop-statement.statement-index + 1) c.args.body.now) c.args.place) c.in_err-check_stmt.ensures in
    rw (p.1, p.2) (subst (λ (o : Option Refused). Tells e o) (ap first_refused (sym from) ∙ c.loop-statement.invariant) stops)

pub check_stmts-loop-statement-preserved : goal.check_stmts-loop-statement-preserved
check_stmts-loop-statement-preserved t c =
    let f = facts_of c.args.job.now in
    let from = lines_from f c.args.place c.args.body.now c.loop-statement.statement-index c.statement-item.result c.loop-statement-test.true c.statement-item.is in
    let rest = stmts_lines f (drop (c.loop-statement.statement-index + 1) c.args.body.now) c.args.place in
    sym (ap (λ (o : Option Refused). or_first o (first_refused rest)) c.in_ok-check_stmt.ensures) ∙ sym (refused_append (stmt_lines f c.statement-item.result c.args.place) rest) ∙ ap first_refused (sym from) ∙ c.loop-statement.invariant

pub check_stmt-inside_if-requires-clause-blocks : goal.check_stmt-inside_if-requires-clause-blocks
check_stmt-inside_if-requires-clause-blocks t c =
    let b = c.in-Branch in
    if_room (facts_of c.args.job.now) c.args.place c.args.statement.now b.spot b.test b.left b.right b.yes b.no b.is (sym c.in_ok-fault.ensures ∙ c.in_default.is)

pub check_stmt-inside_for-requires-clause-blocks : goal.check_stmt-inside_for-requires-clause-blocks
check_stmt-inside_for-requires-clause-blocks t c =
    let b = c.in-Loop in
    (for_room (facts_of c.args.job.now) c.args.place c.args.statement.now b.spot b.counter b.first b.last b.body b.is (sym c.in_ok-fault.ensures ∙ c.in_default.is)).0

pub check_stmt-inside_for-requires-clause-loops : goal.check_stmt-inside_for-requires-clause-loops
check_stmt-inside_for-requires-clause-loops t c =
    let b = c.in-Loop in
    (for_room (facts_of c.args.job.now) c.args.place c.args.statement.now b.spot b.counter b.first b.last b.body b.is (sym c.in_ok-fault.ensures ∙ c.in_default.is)).1

pub check_stmt-check_stmts-requires-in-Branch : goal.check_stmt-check_stmts-requires-in-Branch
check_stmt-check_stmts-requires-in-Branch t c =
    (first_of (search (rules, the_lemmas), search (rules, the_lemmas) depth 16 fits 4000, grind (arith, the_lemmas)), (c.inside_if.ensures.blocks, c.inside_if.ensures.loops))

pub check_stmt-check_stmts-requires-in-Some-no : goal.check_stmt-check_stmts-requires-in-Some-no
check_stmt-check_stmts-requires-in-Some-no t c =
    (first_of (search (rules, the_lemmas), search (rules, the_lemmas) depth 16 fits 4000, grind (arith, the_lemmas)), (c.inside_if-in-Some-no.ensures.blocks, c.inside_if-in-Some-no.ensures.loops))
