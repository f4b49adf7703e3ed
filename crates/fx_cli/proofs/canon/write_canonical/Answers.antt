use Rattle.std.proofs.Common.{ℕ, List, subst, ◌∙◌}
use Rattle.fx_io.specs.Writing.{Puts}
use Rattle.fx_cli.proofs.canon.write_canonical.Goals as goal

pub returns : goal.returns
returns g c =
    subst (λ (text : List ℕ). Puts (g.K.Sink.state c.args.sink.now) (g.K.Sink.state c.put_lines.new.sink) text c.put_lines.result)
    (c.as_slice.ensures ∙ c.in_ok-text.ensures.canonical) c.put_lines.ensures
