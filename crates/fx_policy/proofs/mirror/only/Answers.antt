use Rattle.std.proofs.Common.{ap, ◌∙◌, ◌≡◌, ◌||◌, Bool, true, false, refl}
use Rattle.std.specs.Cmp.{nat_cmp_total, unsigned_tied}
use Rattle.std.specs.Ordering.{nat_cmp, eq_by_cmp}
use Rattle.std.specs.FinSet.{contains, insert, empty, contains-insert, contains-empty}
use Rattle.fx_policy.proofs.mirror.only.Goals as goal

or_not : (b c : Bool) → c ≡ false → (b || c) ≡ b
or_not true c e = refl
or_not false c e = e

pub returns : goal.returns
returns c j =
    ap (λ places. contains places j) (c.insert.ensures ∙ ap (λ places. insert places c.args.place) c.new-places.ensures)
    ∙ contains-insert nat_cmp_total empty c.args.place j
    ∙ or_not (eq_by_cmp nat_cmp j c.args.place) (contains (empty {R = nat_cmp}) j) (contains-empty nat_cmp j)
    ∙ unsigned_tied j c.args.place
