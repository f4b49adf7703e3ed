use Rattle.fx_check.specs.Acceptance.{refusal_of}
use Rattle.fx_cli.proofs.Written.{settles_broken}
use Rattle.fx_cli.proofs.program.answer_job.Goals as goal

pub returns-in-Err-Refused : goal.returns-in-Err-Refused
returns-in-Err-Refused g c =
    let broken = rw c.in-Err-Refused.field-0-is at c.in-Err-Refused.ensures.exact in
    settles_broken c.args.mode c.args.job (refusal_of c.args.job) _ c.in-Err-Refused.fault _ c.in-Err-Refused.spot
    (g.K.Sink.state c.args.sink.now) (g.K.Sink.state c.refuse.new.sink) c.refuse.result
    c.in-Err-Refused.fault-is c.in-Err-Refused.spot-is broken c.refuse.ensures
