use Rattle.std.proofs.Common.{◌≡◌, ◌+◌, ◌++◌, ◌∙◌, length, take, length-append, arith}
use Rattle.std.proofs.lemmas.List.{length-take}
use Rattle.std.proofs.lemmas.Result.{err_from_is_err_and}
use Rattle.fx_io.proofs.Joined.{loses_more}
use Rattle.fx_io.proofs.whole.read_whole.Goals as goal

pub returns-then-count-limit : goal.returns-then-count-limit
returns-then-count-limit g c =
    let more = take c.in-Got.count c.read_some.new.into in
    let come : length (c.loop-count.bytes ++ more) ≡ length c.loop-count.bytes + c.in-Got.count =
    length-append c.loop-count.bytes more ∙ omega (arith, length-take c.in-Got.count c.read_some.new.into, c.in-Got.ensures.content.1) in
    record {
      content = (
        c.loop-count.bytes ++ more,
        (omega (arith, come), omega (arith, come, c.read_some.auto.into, c.in-Got.ensures.content.1)),
        loses_more (g.S.Source.state c.args.source.now).left (g.S.Source.state c.loop-count.source).left (g.S.Source.state c.read_some.new.self).left
            c.loop-count.bytes more c.loop-count.invariant.gone c.in-Got.ensures.content.2,
      );
      count_never_falls = omega (arith, c.loop-count.invariant.counts, c.read_some.ensures.count_never_falls);
      failed_only_if_count_rose = λ e. absurd cc;
    }

pub returns-in_err-append-in-Got : goal.returns-in_err-append-in-Got
returns-in_err-append-in-Got g c =
    let p = err_from_is_err_and c.from_residual.result c.from_residual.ensures.1 in
    let more = take c.in-Got.count c.read_some.new.into in
    let come : length (c.loop-count.bytes ++ more) ≡ length c.loop-count.bytes + c.in-Got.count =
    length-append c.loop-count.bytes more ∙ omega (arith, length-take c.in-Got.count c.read_some.new.into, c.in-Got.ensures.content.1) in
    rw (p.1, p.2) record {
      content = (
        c.loop-count.bytes ++ more,
        omega (arith, come),
        loses_more (g.S.Source.state c.args.source.now).left (g.S.Source.state c.loop-count.source).left (g.S.Source.state c.read_some.new.self).left
            c.loop-count.bytes more c.loop-count.invariant.gone c.in-Got.ensures.content.2,
      );
      count_never_falls = omega (arith, c.loop-count.invariant.counts, c.read_some.ensures.count_never_falls);
      failed_only_if_count_rose = λ e. absurd cc;
    }
