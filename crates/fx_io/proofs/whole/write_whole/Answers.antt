use Rattle.std.proofs.Common.{ℕ, List, ◌++◌, take, sym, ap, ◌∙◌, append_assoc, arith}
use Rattle.std.proofs.lemmas.List.{take-append-drop}
use Rattle.fx_io.proofs.Joined.{gains_more}
use Rattle.fx_io.proofs.whole.write_whole.Goals as goal

pub loop-rest-preserved : goal.loop-rest-preserved
loop-rest-preserved g c =
    let before = c.loop-rest.invariant.added in
    let n = c.in-Took.count in
    let more = take n c.loop-rest.rest.now in
    let split = sym (take-append-drop n c.loop-rest.rest.now) ∙ ap (λ (l : List ℕ). more ++ l) (sym c.split_at.ensures.back) in
    record {
      added = (
        before.0 ++ more,
        before.1 ∙ ap (λ (l : List ℕ). before.0 ++ l) split ∙ sym (append_assoc before.0 more c.split_at.result.1.now),
        gains_more (g.K.Sink.state c.args.sink.now).written (g.K.Sink.state c.loop-rest.sink).written (g.K.Sink.state c.write_some.new.self).written
            before.0 more before.2 c.in-Took.ensures.content.2,
      );
      counts = omega (arith, c.loop-rest.invariant.counts, c.write_some.ensures.count_never_falls);
    }
