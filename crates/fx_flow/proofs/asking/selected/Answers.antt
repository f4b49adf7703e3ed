use Rattle.std.proofs.Common.{rules, ℕ, w64, ◌≡◌, ◌<◌, length, get_or, arith, sym, ap, ◌∙◌}
use Rattle.std.specs.Prelude.{pos}
use Rattle.std.specs.FinMap.{insert}
use Rattle.std.specs.Ordering.{nat_cmp}
use Rattle.std.proofs.Math.Facts.{to_z-of_z}
use mir.Val.{to_z, of_z, SFits}
use Rattle.fx_flow.specs.Outward.{is_selected}
use Rattle.fx_base.proofs.Maps.{none_is_empty}
use Rattle.fx_flow.proofs.Selected.{puts_next, skips_next}
use Rattle.fx_flow.proofs.asking.selected.Goals as goal
use Rattle.fx_flow.proofs.asking.selected.Goals.{then-is_selected+in_ok-put, else-is_selected}

pub loop-index-init : goal.loop-index-init
loop-index-init c = c.new-made.ensures ∙ sym (none_is_empty nat_cmp)

pub loop-index-preserved : goal.loop-index-preserved
loop-index-preserved c =
    let at = c.loop-index.index in
    let elements = c.args.elements.now in
    let below : at < length elements = omega arith in
    let made = c.loop-index.made in
    let which = c.args.selection.now in
    let test : c.is_selected.result ≡ is_selected which at = c.is_selected.ensures ∙ ap (is_selected which) c.in-Ok.ensures.1 in
    elim c.if-is_selected.branch [
      | then-is_selected+in_ok-put w ↦
          let fits : SFits w64 (get_or elements at (pos 0)) = search rules in
          let put : w.put.new.self ≡ insert made at (get_or elements at (pos 0)) =
          w.in_ok-put.ensures.ok ∙ ap (λ (k : ℕ). insert made k (to_z w64 (of_z w64 (get_or elements at (pos 0))))) c.in-Ok.ensures.1 ∙ ap (insert made at) (to_z-of_z fits) in
          w.made-is ∙ put ∙ puts_next which elements at below made c.loop-index.invariant (sym test ∙ w.if-is_selected.true)
      | else-is_selected w ↦ w.made-is ∙ skips_next which elements at below made c.loop-index.invariant (sym test ∙ w.if-is_selected.false)
    ]
