use Rattle.std.proofs.Common.{subst}
use Rattle.fx_io.specs.Writing.{Puts}
use Rattle.fx_script.specs.declared.job.Job.{Job}
use Rattle.fx_script.specs.Canonical.{canonical}
use Rattle.fx_cli.proofs.Written.{settles_done}
use Rattle.fx_cli.proofs.program.answer_accepted.Goals as goal

pub returns-in-Check : goal.returns-in-Check
returns-in-Check g c =
    let put = subst (λ (j : Job). Puts (g.K.Sink.state c.args.sink.now) (g.K.Sink.state c.write_canonical.new.sink) (canonical j) c.write_canonical.result) c.job.ensures.same c.write_canonical.ensures in
    rw (c.settled.ensures, c.in-Check.is) (settles_done (canonical c.args.job.now) (g.K.Sink.state c.args.sink.now) (g.K.Sink.state c.write_canonical.new.sink) c.write_canonical.result put)
