use Rattle.std.proofs.Common.{◌≤◌, ℕ, List, length, map, string_bytes, subst, sym}
use Rattle.fx_io.specs.Told.{Loses}
use Rattle.fx_cli.specs.Dues.{longest_job, Whole}
use Rattle.fx_cli.proofs.Ending.{ends_of}
use Rattle.fx_cli.proofs.program.call.Goals as goal

pub returns-in-Ok-clause-ends : goal.returns-in-Ok-clause-ends
returns-in-Ok-clause-ends g c =
    let same = sym c.as_slice.ensures in
    let read = c.in-Ok.ensures.content in
    let short = subst (λ (t : List ℕ). length t ≤ longest_job) same read.0 in
    let gone = subst (λ (t : List ℕ). Loses (g.S.Source.state c.args.source.now).left (g.S.Source.state c.read_whole.new.source).left t) same read.1 in
    ends_of (map string_bytes c.args.words.now) (g.S.Source.state c.args.source.now) (g.S.Source.state c.read_whole.new.source)
    (g.K.Sink.state c.args.sink.now) (g.K.Sink.state c.answer.new.sink) (Whole c.in-Some.mode c.as_slice.result.now) c.answer.result
    (sym c.in-Some.ensures, short, gone, read.2) c.answer.ensures
