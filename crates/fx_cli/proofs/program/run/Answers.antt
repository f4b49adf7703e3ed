use Rattle.std.proofs.Common.{sym}
use Rattle.fx_cli.specs.Built.{first_unbuilt}
use Rattle.fx_cli.proofs.Written.{settles_world}
use Rattle.fx_cli.proofs.program.run.Goals as goal

pub returns-in-None : goal.returns-in-None
returns-in-None g c =
    let built = rw c.job.ensures.same at c.in-None.ensures in
    rw c.status_of_run.ensures (settles_world c.args.job.now c.args.shown (first_unbuilt c.args.job.now) (g.K.Sink.state c.args.sink.now) (g.K.Sink.state c.write_run.new.sink)
    c.write_run.result (sym built) c.write_run.ensures)
