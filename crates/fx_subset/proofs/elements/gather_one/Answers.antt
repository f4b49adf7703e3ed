use Rattle.std.proofs.Common.{◌∙◌, ap, sym, rules}
use Rattle.std.specs.Prelude.{ℤ}
use Rattle.std.specs.Int.{w64}
use Rattle.std.specs.Ordering.{nat_cmp}
use Rattle.std.specs.FinMap as finite
use mir.Facts.{to_z-of_z}
use mir.Val.{SFits}
use Rattle.fx_subset.proofs.Gathered.{put_one}
use Rattle.fx_subset.proofs.elements.gather_one.Goals as goal

pub returns-in_ok-put : goal.returns-in_ok-put
returns-in_ok-put c = λ other.
    let fits : SFits w64 c.in-Some.element.now = search rules in
    ap (λ (held : finite.FinMap nat_cmp ℤ). finite.get held other) c.in_ok-put.ensures.ok
    ∙ ap (λ (n : ℤ). finite.get (finite.insert c.args.elements.now c.args.index n) other) (to_z-of_z {w = w64} {z = c.in-Some.element.now} fits)
    ∙ put_one c.args.elements.now c.args.index c.in-Some.element.now c.args.from.now other (sym c.in-Some.ensures)
