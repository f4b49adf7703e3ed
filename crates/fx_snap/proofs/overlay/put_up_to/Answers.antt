use Rattle.std.proofs.Common.{◌≡◌, None, slice_get, sym, ap, ◌∙◌, rules, arith}
use Rattle.std.specs.Prelude.{FitsSigned}
use Rattle.std.specs.Int.{w64}
use Rattle.std.specs.FinMap.{entries, insert}
use Rattle.std.proofs.lemmas.Int.{to_z-of_z}
use Rattle.std.proofs.lemmas.Option.{slice_get_within}
use Rattle.fx_snap.proofs.Moving.{keys_of, moves_one, ends_above, ends_past, few_entries}
use Rattle.fx_snap.proofs.overlay.put_up_to.Goals as goal

pub overflow_add-at : goal.overflow_add-at
overflow_add-at c = omega (arith, slice_get_within (entries c.args.old.now) c.loop-index.at (c.in-Some.index, c.in-Some.element.now) (sym c.in-Some.ensures), few_entries c.args.old.now c.requires)

pub loop-index-smaller : goal.loop-index-smaller
loop-index-smaller c = omega (arith, slice_get_within (entries c.args.old.now) c.loop-index.at (c.in-Some.index, c.in-Some.element.now) (sym c.in-Some.ensures))

pub loop-index-preserved : goal.loop-index-preserved
loop-index-preserved c =
    let fits : FitsSigned w64 c.in-Some.element.now = search rules in
    let same : c.put.new.self ≡ insert c.loop-index.made c.in-Some.index c.in-Some.element.now = c.in_ok-put.ensures.ok ∙ ap (insert c.loop-index.made c.in-Some.index) (to_z-of_z w64 c.in-Some.element.now fits) in
    moves_one c.args.made.now c.loop-index.made (entries c.args.old.now) c.args.from c.loop-index.at (c.in-Some.index, c.in-Some.element.now) c.put.new.self (keys_of c.args.old.now) (sym c.in-Some.ensures) same c.loop-index.invariant

pub returns-then-index-last-clause-above : goal.returns-then-index-last-clause-above
returns-then-index-last-clause-above c =
    ends_above (entries c.args.old.now) c.loop-index.at c.args.last (c.in-Some.index, c.in-Some.element.now) (keys_of c.args.old.now) (sym c.in-Some.ensures) c.if-index-last.true

pub returns-in_default-clause-above : goal.returns-in_default-clause-above
returns-in_default-clause-above c =
    let none : slice_get (entries c.args.old.now) c.loop-index.at ≡ None = sym (rw c.in_default.is at c.nth.ensures) in
    ends_past (entries c.args.old.now) c.loop-index.at c.args.last none
