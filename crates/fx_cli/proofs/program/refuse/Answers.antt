use Rattle.std.proofs.Common.{ℕ, List, subst, ◌∙◌}
use Rattle.fx_io.specs.Writing.{Puts}
use Rattle.fx_cli.proofs.Written.{settles_refusal}
use Rattle.fx_cli.proofs.program.refuse.Goals as goal

pub returns-in-Ok : goal.returns-in-Ok
returns-in-Ok g c =
    let put = subst (λ (l : List ℕ). Puts (g.K.Sink.state c.args.sink.now) (g.K.Sink.state c.write_whole.new.sink) l c.write_whole.result)
    (c.as_slice.ensures ∙ c.in-Ok.ensures) c.write_whole.ensures in
    rw c.settled.ensures (settles_refusal c.args.refusal c.args.spot (g.K.Sink.state c.args.sink.now) (g.K.Sink.state c.write_whole.new.sink) c.write_whole.result put)
