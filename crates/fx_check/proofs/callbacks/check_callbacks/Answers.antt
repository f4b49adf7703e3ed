use Rattle.std.proofs.Common.{◌+◌, ◌++◌, ◌∷◌, [], take, drop}
use Rattle.std.proofs.lemmas.Result.{err_from_is_err_and}
use Rattle.fx_check.specs.Acceptance.{callback_body_lines, callback_line, callbacks_lines}
use Rattle.fx_check.specs.Facts.{facts_of}
use Rattle.fx_check.proofs.CallbackLines.{callbacks_from}
use Rattle.fx_check.proofs.Walks.{loop_stops, loop_goes_on, refuses_on, none_append}
use Rattle.fx_check.proofs.callbacks.check_callbacks.Goals as goal

pub returns-in_err-check_body : goal.returns-in_err-check_body
returns-in_err-check_body c =
    let f = facts_of c.args.job.now in
    let i = c.loop-index.index in
    let cs = c.args.callbacks.now in
    let this = c.index-callbacks-index.result in
    let line = callback_line f (take i cs) this ∷ [] in
    let body = callback_body_lines f 0 this.body in
    let e = c.in_err-check_body.field-0.0 in
    let from = callbacks_from f cs i this c.loop-index-test.true c.index-callbacks-index.is in
    let p = err_from_is_err_and c.from_residual-in_err-check_body.result c.from_residual-in_err-check_body.ensures.1 in
    rw (p.1, p.2) (loop_stops e (line ++ body) (callbacks_lines f (take (i + 1) cs) (drop (i + 1) cs)) (callbacks_lines f (take i cs) (drop i cs)) (callbacks_lines f [] cs) from c.loop-index.invariant
    (refuses_on e line body c.in_ok-check_callback.ensures (rw c.as_slice.ensures at c.in_err-check_body.ensures)))

pub loop-index-preserved : goal.loop-index-preserved
loop-index-preserved c =
    let f = facts_of c.args.job.now in
    let i = c.loop-index.index in
    let cs = c.args.callbacks.now in
    let this = c.index-callbacks-index.result in
    let line = callback_line f (take i cs) this ∷ [] in
    let body = callback_body_lines f 0 this.body in
    let from = callbacks_from f cs i this c.loop-index-test.true c.index-callbacks-index.is in
    loop_goes_on (line ++ body) (callbacks_lines f (take (i + 1) cs) (drop (i + 1) cs)) (callbacks_lines f (take i cs) (drop i cs)) (callbacks_lines f [] cs) from c.loop-index.invariant
    (none_append line body c.in_ok-check_callback.ensures (rw c.as_slice.ensures at c.in_ok-check_body.ensures))
