use Rattle.std.proofs.Common.{◌≡◌, sym, ap, ◌∙◌, subst, None}
use Rattle.std.specs.Prelude.{unwrap_or}
use Rattle.std.specs.FinMap.{get, empty}
use Rattle.std.proofs.lemmas.Result.{IfOk-weaker}
use Rattle.fx_base.specs.Bounds.{HasIndicesBelow256}
use Rattle.fx_store.specs.Store.{put_over}
use Rattle.fx_snap.proofs.Moving.{over_nothing}
use Rattle.fx_snap.proofs.Parts.{over_below}
use Rattle.fx_snap.proofs.overlay.over_pending.Goals as goal

pub returns-in-Some-clause-indices : goal.returns-in-Some-clause-indices
returns-in-Some-clause-indices c =
    let old : HasIndicesBelow256 c.in-Some.old.now = (c.in-Some.ensures.bounded c.args.member c.in-Some.old.now (sym c.in-Some.ensures.held)).1 in
    IfOk-weaker c.overlaid.result (λ made. made ≡ put_over c.args.piece.now c.in-Some.old.now) HasIndicesBelow256
    (λ made is. subst HasIndicesBelow256 (sym is) (over_below c.args.piece.now c.in-Some.old.now c.requires old)) c.overlaid.ensures

pub returns-in-None-clause-made : goal.returns-in-None-clause-made
returns-in-None-clause-made c =
    let none : get c.args.pending.now c.args.member ≡ None = sym c.in-None.ensures.held in
    IfOk-weaker c.copy.result (λ made. made ≡ c.args.piece.now) (λ made. made ≡ put_over c.args.piece.now (unwrap_or (get c.args.pending.now c.args.member) empty))
    (λ made is. is ∙ sym (over_nothing c.args.piece.now) ∙ ap (λ o. put_over c.args.piece.now (unwrap_or o empty)) (sym none)) c.copy.ensures
