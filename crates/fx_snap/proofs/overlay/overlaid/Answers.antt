use Rattle.std.proofs.Common.{◌≡◌, None, slice_get, sym, ap, ◌∙◌, rules, arith}
use Rattle.std.specs.Prelude.{FitsSigned}
use Rattle.std.specs.Int.{w64}
use Rattle.std.specs.FinMap.{entries, insert}
use Rattle.std.proofs.lemmas.Int.{to_z-of_z}
use Rattle.std.proofs.lemmas.Option.{slice_get_within}
use Rattle.fx_snap.proofs.Moving.{overlay_begins, overlay_step, overlay_ends, none_left_at, few_entries}
use Rattle.fx_snap.proofs.overlay.overlaid.Goals as goal

pub loop-index-init : goal.loop-index-init
loop-index-init c = overlay_begins c.args.piece.now c.args.old.now c.new-made.result c.new-made.ensures

pub overflow_add-k : goal.overflow_add-k
overflow_add-k c = omega (arith, slice_get_within (entries c.args.piece.now) c.loop-index.k (c.in-Some.index, c.in-Some.element.now) (sym c.in-Some.ensures), few_entries c.args.piece.now c.requires.piece)

pub loop-index-smaller : goal.loop-index-smaller
loop-index-smaller c = omega (arith, slice_get_within (entries c.args.piece.now) c.loop-index.k (c.in-Some.index, c.in-Some.element.now) (sym c.in-Some.ensures))

pub loop-index-preserved : goal.loop-index-preserved
loop-index-preserved c =
    let fits : FitsSigned w64 c.in-Some.element.now = search rules in
    let same : c.put.new.self ≡ insert c.put_up_to.new.made c.in-Some.index c.in-Some.element.now = c.in_ok-put.ensures.ok ∙ ap (insert c.put_up_to.new.made c.in-Some.index) (to_z-of_z w64 c.in-Some.element.now fits) in
    overlay_step c.args.piece.now c.args.old.now c.loop-index.made c.put_up_to.new.made c.put.new.self c.loop-index.k c.loop-index.at c.in_ok-at.at (c.in-Some.index, c.in-Some.element.now)
    c.loop-index.invariant (sym c.in-Some.ensures) c.in_ok-at.ensures.moved c.in_ok-at.ensures.above same

pub returns : goal.returns
returns c =
    let none : slice_get (entries c.args.piece.now) c.loop-index.k ≡ None = sym (rw c.in_default.is at c.nth.ensures) in
    overlay_ends c.args.piece.now c.args.old.now c.loop-index.made c.put_up_to-2.new.made c.loop-index.k c.loop-index.at c.in_ok-put_up_to.field-0 c.loop-index.invariant none c.in_ok-put_up_to.ensures.moved
    (none_left_at c.args.old.now c.in_ok-put_up_to.field-0 c.requires.old c.in_ok-put_up_to.ensures.above)
