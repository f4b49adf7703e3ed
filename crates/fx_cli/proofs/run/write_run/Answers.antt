use Rattle.std.proofs.Common.{ℕ, Ok, Err, sym, subst}
use Rattle.std.specs.Prelude.{All}
use Rattle.std.proofs.lemmas.Result.{err_from_is_err_and}
use Rattle.fx_script.proofs.HasTexts.{written_if_has_text}
use Rattle.fx_sched.specs.Moments.{IsAmong}
use Rattle.fx_cli.proofs.Groupless.{asks_no_groups, calls_are_carried}
use Rattle.fx_cli.proofs.Runs.{run_writes, unwritten}
use Rattle.fx_cli.proofs.run.write_run.Goals as goal

pub returns-in_err-world : goal.returns-in_err-world
returns-in_err-world g c =
    let p = err_from_is_err_and c.from_residual.result c.from_residual.ensures.1 in
    rw (p.1, p.2) (unwritten c.args.job.now c.args.shown (g.K.Sink.state c.args.sink.now))

pub returns-in_err-moments : goal.returns-in_err-moments
returns-in_err-moments g c =
    let p = err_from_is_err_and c.from_residual-in_err-moments.result c.from_residual-in_err-moments.ensures.1 in
    rw (p.1, p.2) (unwritten c.args.job.now c.args.shown (g.K.Sink.state c.args.sink.now))

pub run_all-requires : goal.run_all-requires
run_all-requires g c =
    subst (λ (procs : ℕ). All (IsAmong procs) c.in_ok-moments.moments) (sym c.in_ok-world.ensures.of_all) c.in_ok-moments.ensures.among

pub returns-in_err-run_all : goal.returns-in_err-run_all
returns-in_err-run_all g c =
    let p = err_from_is_err_and c.from_residual-in_err-run_all.result c.from_residual-in_err-run_all.ensures.1 in
    rw (p.1, p.2) (run_writes c.args.job.now c.args.shown _ _ (g.K.Sink.state c.args.sink.now) (g.K.Sink.state c.run_all.new.sink) c.in_ok-moments.moments c.bound.result
    (Err c.in_err-run_all.field-0.0) (calls_are_carried c.args.job.now (asks_no_groups c.args.job.now (written_if_has_text c.args.job.now c.requires.has_text).writable c.requires.built))
    c.in_ok-world.ensures.begins c.in_ok-moments.ensures.exact c.bound.ensures.same c.in_err-run_all.ensures.goes)

pub returns : goal.returns
returns g c =
    run_writes c.args.job.now c.args.shown _ _ (g.K.Sink.state c.args.sink.now) (g.K.Sink.state c.run_all.new.sink) c.in_ok-moments.moments c.bound.result
    (Ok c.in_ok-run_all.field-0) (calls_are_carried c.args.job.now (asks_no_groups c.args.job.now (written_if_has_text c.args.job.now c.requires.has_text).writable c.requires.built))
    c.in_ok-world.ensures.begins c.in_ok-moments.ensures.exact c.bound.ensures.same c.in_ok-run_all.ensures.goes
