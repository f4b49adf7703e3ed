use Rattle.std.proofs.Common.{◌+◌, List, ℕ, drop, subst}
use Rattle.std.proofs.lemmas.Result.{err_from_is_err_and}
use Rattle.fx_io.proofs.Written.{SoFar, goes_on, is_cut}
use Rattle.fx_world.specs.Texts.{shown_text}
use Rattle.fx_world.proofs.Pieces.{counted_from, shown_from}
use Rattle.fx_world.proofs.teller.Teller.tell_all.Goals as goal

pub returns-in_err-tell-clause-writes : goal.returns-in_err-tell-clause-writes
returns-in_err-tell-clause-writes g c =
    let from = shown_from c.args.shown c.args.items.now c.loop-item.item-index c.item-item.result c.loop-item-test.true c.item-item.is in
    let so = subst (λ (rest : List ℕ). SoFar (g.K.Sink.state c.args.sink.now) (g.K.Sink.state c.loop-item.sink) (shown_text c.args.shown c.args.items.now) rest) from c.loop-item.invariant.written in
    let p = err_from_is_err_and c.from_residual.result c.from_residual.ensures.1 in
    rw (p.1, p.2) (is_cut (shown_text c.args.shown (drop (c.loop-item.item-index + 1) c.args.items.now)) c.in_err-tell.field-0.0 so c.in_err-tell.ensures.writes)

pub loop-item-preserved : goal.loop-item-preserved
loop-item-preserved g c =
    let from = shown_from c.args.shown c.args.items.now c.loop-item.item-index c.item-item.result c.loop-item-test.true c.item-item.is in
    let so = subst (λ (rest : List ℕ). SoFar (g.K.Sink.state c.args.sink.now) (g.K.Sink.state c.loop-item.sink) (shown_text c.args.shown c.args.items.now) rest) from c.loop-item.invariant.written in
    record {
      counts = counted_from c.args.items.now c.loop-item.item-index c.item-item.result c.loop-item.self c.tell.new.self _ c.loop-item-test.true c.item-item.is c.in_ok-tell.ensures.counts c.loop-item.invariant.counts;
      written = goes_on so c.in_ok-tell.ensures.writes;
    }
