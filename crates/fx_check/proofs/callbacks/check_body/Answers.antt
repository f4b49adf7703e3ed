use Rattle.std.proofs.Common.{◌+◌, drop}
use Rattle.std.proofs.lemmas.Result.{err_from_is_err_and}
use Rattle.fx_check.specs.Acceptance.{stmt_lines, callback_body_lines}
use Rattle.fx_check.specs.Facts.{facts_of}
use Rattle.fx_check.specs.Rules.{callback_place}
use Rattle.fx_check.proofs.CallbackLines.{body_from}
use Rattle.fx_check.proofs.Walks.{loop_stops, loop_goes_on}
use Rattle.fx_check.proofs.callbacks.check_body.Goals as goal

pub returns-in_err-check_stmt : goal.returns-in_err-check_stmt
returns-in_err-check_stmt c =
    let f = facts_of c.args.job.now in
    let i = c.loop-index.index in
    let from = body_from f c.args.body.now i c.index-body-index.result c.loop-index-test.true c.index-body-index.is in
    let p = err_from_is_err_and c.from_residual.result c.from_residual.ensures.1 in
    rw (p.1, p.2) (loop_stops c.in_err-check_stmt.field-0.0 (stmt_lines f c.index-body-index.result (callback_place i)) (callback_body_lines f (i + 1) (drop (i + 1) c.args.body.now))
    (callback_body_lines f i (drop i c.args.body.now)) (callback_body_lines f 0 c.args.body.now) from c.loop-index.invariant (rw c.callback.ensures at c.in_err-check_stmt.ensures))

pub loop-index-preserved : goal.loop-index-preserved
loop-index-preserved c =
    let f = facts_of c.args.job.now in
    let i = c.loop-index.index in
    let from = body_from f c.args.body.now i c.index-body-index.result c.loop-index-test.true c.index-body-index.is in
    loop_goes_on (stmt_lines f c.index-body-index.result (callback_place i)) (callback_body_lines f (i + 1) (drop (i + 1) c.args.body.now))
    (callback_body_lines f i (drop i c.args.body.now)) (callback_body_lines f 0 c.args.body.now) from c.loop-index.invariant (rw c.callback.ensures at c.in_ok-check_stmt.ensures)
