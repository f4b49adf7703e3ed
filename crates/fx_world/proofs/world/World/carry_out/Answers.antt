use Rattle.std.proofs.Common.{Ok, Err, map, ap, sym, ◌∙◌}
use Rattle.std.proofs.lemmas.Result.{err_from_is_err_and}
use Rattle.fx_io.proofs.Written.{begins, ends_with, goes_on, is_cut}
use Rattle.fx_world.specs.Counting.{counted}
use Rattle.fx_world.specs.Sends.{sent_item}
use Rattle.fx_world.specs.Standings.{Standings}
use Rattle.fx_world.specs.Texts.{shown_text}
use Rattle.fx_world.proofs.Lists.{counted_append, shown_append}
use Rattle.fx_world.proofs.world.World.carry_out.Goals as goal

pub returns-in_err-tell_all-clause-writes : goal.returns-in_err-tell_all-clause-writes
returns-in_err-tell_all-clause-writes g c =
    let sent = map (sent_item c.args.p) c.args.sends in
    let p = err_from_is_err_and c.from_residual.result c.from_residual.ensures.1 in
    rw (p.1, p.2) (is_cut (shown_text c.args.shown sent) c.in_err-tell_all.field-0.0 (begins (shown_append c.args.shown c.args.items.now sent)) c.in_err-tell_all.ensures.writes)

pub returns-in_err-send_all-clause-writes : goal.returns-in_err-send_all-clause-writes
returns-in_err-send_all-clause-writes g c =
    let sent = map (sent_item c.args.p) c.args.sends in
    let p = err_from_is_err_and c.from_residual-in_err-send_all.result c.from_residual-in_err-send_all.ensures.1 in
    rw (p.1, p.2) (ends_with (Err c.in_err-send_all.field-0.0) (goes_on (begins (shown_append c.args.shown c.args.items.now sent)) c.in_ok-tell_all.ensures.writes) c.in_err-send_all.ensures.writes)

pub returns-clause-writes : goal.returns-clause-writes
returns-clause-writes g c =
    let sent = map (sent_item c.args.p) c.args.sends in
    ends_with (Ok tt) (goes_on (begins (shown_append c.args.shown c.args.items.now sent)) c.in_ok-tell_all.ensures.writes) c.in_ok-send_all.ensures.writes

pub returns-clause-counts : goal.returns-clause-counts
returns-clause-counts g c =
    let sent = map (sent_item c.args.p) c.args.sends in
    c.close_if_ended.ensures.counts ∙ ap (λ (s : Standings). s.counts) c.in_ok-send_all.ensures.sends
    ∙ ap (λ k. counted k sent) (c.in_ok-tell_all.ensures.counts ∙ ap (λ (s : Standings). counted s.counts c.args.items.now) c.self.view_is) ∙ sym (counted_append c.args.self.now.counts c.args.items.now sent)
