use Rattle.std.proofs.Common.{◌≡◌, ℕ, List, ◌++◌, subst}
use Rattle.std.proofs.lemmas.Result.{err_from_is_err_and}
use Rattle.fx_io.proofs.Written.{SoFar, goes_on, is_cut, ends_with}
use Rattle.fx_cli.proofs.lines.put_lines.Goals as goal

pub returns-then-not-line : goal.returns-then-not-line
returns-then-not-line g c = ends_with c.write_whole.result c.loop-line.invariant c.write_whole.ensures

pub returns-in_err-write_whole : goal.returns-in_err-write_whole
returns-in_err-write_whole g c =
    let split : c.loop-line.rest.now ≡ c.split_at.result.0.now ++ c.split_at.result.1.now = cc in
    let so = subst (λ (rest : List ℕ). SoFar (g.K.Sink.state c.args.sink.now) (g.K.Sink.state c.loop-line.sink) c.args.text.now rest) split c.loop-line.invariant in
    let p = err_from_is_err_and c.from_residual.result c.from_residual.ensures.1 in
    rw (p.1, p.2) (is_cut c.split_at.result.1.now c.in_err-write_whole.field-0.0 so c.in_err-write_whole.ensures)

pub loop-line-preserved : goal.loop-line-preserved
loop-line-preserved g c =
    let split : c.loop-line.rest.now ≡ c.split_at.result.0.now ++ c.split_at.result.1.now = cc in
    let so = subst (λ (rest : List ℕ). SoFar (g.K.Sink.state c.args.sink.now) (g.K.Sink.state c.loop-line.sink) c.args.text.now rest) split c.loop-line.invariant in
    goes_on so c.in_ok-write_whole.ensures
