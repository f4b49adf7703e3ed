use Rattle.std.proofs.lemmas.Result.{err_from_is_err_and}
use Rattle.fx_check.proofs.LineParts.{names_stop, callbacks_stop, body_stops, events_stop, all_fine}
use Rattle.fx_check.proofs.check.check_lines.Goals as goal

pub returns-in_err-check_names-clause-exact : goal.returns-in_err-check_names-clause-exact
returns-in_err-check_names-clause-exact c =
    let p = err_from_is_err_and c.from_residual-in_err-check_names.result c.from_residual-in_err-check_names.ensures.1 in
    rw (p.1, p.2) (names_stop c.args.job.now c.in_err-check_names.field-0.0 c.in_ok-procs.ensures.exact (rw c.as_slice.ensures at c.in_err-check_names.ensures))

pub returns-in_err-check_callbacks-clause-exact : goal.returns-in_err-check_callbacks-clause-exact
returns-in_err-check_callbacks-clause-exact c =
    let p = err_from_is_err_and c.from_residual-in_err-check_callbacks.result c.from_residual-in_err-check_callbacks.ensures.1 in
    rw (p.1, p.2) (callbacks_stop c.args.job.now c.in_err-check_callbacks.field-0.0 c.in_ok-procs.ensures.exact (rw c.as_slice.ensures at c.in_ok-check_names.ensures)
    (rw (c.as_slice-2.ensures, c.in_ok-indexed.ensures) at c.in_err-check_callbacks.ensures))

pub returns-in_err-check_stmts-clause-exact : goal.returns-in_err-check_stmts-clause-exact
returns-in_err-check_stmts-clause-exact c =
    let p = err_from_is_err_and c.from_residual-in_err-check_stmts.result c.from_residual-in_err-check_stmts.ensures.1 in
    rw (p.1, p.2) (body_stops c.args.job.now c.in_err-check_stmts.field-0.0 c.in_ok-procs.ensures.exact (rw c.as_slice.ensures at c.in_ok-check_names.ensures)
    (rw (c.as_slice-2.ensures, c.in_ok-indexed.ensures) at c.in_ok-check_callbacks.ensures) (rw (c.as_slice-3.ensures, c.in_ok-indexed.ensures, c.body.ensures) at c.in_err-check_stmts.ensures))

pub returns-in_err-check_events-clause-exact : goal.returns-in_err-check_events-clause-exact
returns-in_err-check_events-clause-exact c =
    let p = err_from_is_err_and c.from_residual-in_err-check_events.result c.from_residual-in_err-check_events.ensures.1 in
    rw (p.1, p.2) (events_stop c.args.job.now c.in_err-check_events.field-0.0 c.in_ok-procs.ensures.exact (rw c.as_slice.ensures at c.in_ok-check_names.ensures)
    (rw (c.as_slice-2.ensures, c.in_ok-indexed.ensures) at c.in_ok-check_callbacks.ensures) (rw (c.as_slice-3.ensures, c.in_ok-indexed.ensures, c.body.ensures) at c.in_ok-check_stmts.ensures)
    (rw (c.as_slice-4.ensures, c.in_ok-procs.ensures.same) at c.in_err-check_events.ensures))

pub returns-clause-exact : goal.returns-clause-exact
returns-clause-exact c =
    all_fine c.args.job.now c.in_ok-procs.ensures.exact (rw c.as_slice.ensures at c.in_ok-check_names.ensures)
    (rw (c.as_slice-2.ensures, c.in_ok-indexed.ensures) at c.in_ok-check_callbacks.ensures) (rw (c.as_slice-3.ensures, c.in_ok-indexed.ensures, c.body.ensures) at c.in_ok-check_stmts.ensures)
    (rw (c.as_slice-4.ensures, c.in_ok-procs.ensures.same) at c.in_ok-check_events.ensures)
