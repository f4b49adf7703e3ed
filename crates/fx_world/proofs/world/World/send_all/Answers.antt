use Rattle.std.proofs.Common.{◌++◌, ◌∷◌, [], List, map, refl, sym, ap, ◌∙◌, append_assoc}
use Rattle.std.proofs.lemmas.Result.{err_from_is_err_and}
use Rattle.fx_base.specs.declared.names.Proc.{Proc}
use Rattle.fx_io.proofs.Written.{goes_on, is_cut}
use Rattle.fx_link.specs.declared.message.Message.{Message}
use Rattle.fx_world.specs.Sends.{sent_item}
use Rattle.fx_world.specs.Texts.{shown_text}
use Rattle.fx_world.proofs.Lists.{shown_append}
use Rattle.fx_world.proofs.Sendings.{sent_more, told_more}
use Rattle.fx_world.proofs.world.World.send_all.Goals as goal

pub loop-q-preserved : goal.loop-q-preserved
loop-q-preserved g c =
    let x : Proc × Message = (c.in-Some.q, c.in-Some.message) in
    let rest = c.next.new.self.rest.items in
    let step = (rw c.in-Some.is at c.next.ensures.steps).0 in
    let so = c.loop-q.invariant in
    let text = ap (λ (l : List (Proc × Message)). shown_text c.args.shown (map (sent_item c.args.p) l)) step ∙ shown_append c.args.shown (sent_item c.args.p x ∷ []) (map (sent_item c.args.p) rest) in
    record {
      next = tt;
      finite = tt;
      same = c.in_ok-send.ensures.sends ∙ rw (so.same, sent_more c.args.p.0 c.loop-q.yielded x c.args.self.now.links, told_more c.args.p c.loop-q.yielded x c.args.self.now.counts) refl;
      left = append_assoc c.loop-q.yielded (x ∷ []) rest ∙ ap (λ (l : List (Proc × Message)). c.loop-q.yielded ++ l) (sym step) ∙ so.left;
      written = goes_on (rw text at so.written) c.in_ok-send.ensures.writes;
    }

pub returns-in_err-send-clause-writes : goal.returns-in_err-send-clause-writes
returns-in_err-send-clause-writes g c =
    let x : Proc × Message = (c.in-Some.q, c.in-Some.message) in
    let rest = c.next.new.self.rest.items in
    let step = (rw c.in-Some.is at c.next.ensures.steps).0 in
    let text = ap (λ (l : List (Proc × Message)). shown_text c.args.shown (map (sent_item c.args.p) l)) step ∙ shown_append c.args.shown (sent_item c.args.p x ∷ []) (map (sent_item c.args.p) rest) in
    let p = err_from_is_err_and c.from_residual.result c.from_residual.ensures.1 in
    rw (p.1, p.2) (is_cut (shown_text c.args.shown (map (sent_item c.args.p) rest)) c.in_err-send.field-0.0 (rw text at c.loop-q.invariant.written) c.in_err-send.ensures.writes)
