use Rattle.std.proofs.Common.{sym, ap, ◌∙◌, ◌<◌, arith}
use Rattle.fx_store.specs.Mirror.{buddy}
use Rattle.fx_store.specs.Redundancy.{bytes_at}
use Rattle.fx_store.proofs.Buddies.{are_buddies}
use Rattle.fx_store.proofs.Mirrors.{fold_is, fold_alone}
use Rattle.fx_policy.proofs.mirror.MirrorPolicy.fold.Goals as goal

pub returns-then-n-eq1 : goal.returns-then-n-eq1
returns-then-n-eq1 c = rw c.if-n-eq1.true (c.new.ensures ∙ sym (fold_alone (buddy c.args.self.now.separation) c.args.place (bytes_at c.args.parts.now)))

pub returns-in-Some : goal.returns-in-Some
returns-in-Some c =
    let many : 1 < c.args.n = omega (arith, c.if-n-eq1.false, c.requires.size.0) in
    let share = fold_is (buddy c.args.self.now.separation) (are_buddies c.args.self.now.separation) c.args.n c.args.place c.ward.result (bytes_at c.args.parts.now) many c.ward.ensures.below c.ward.ensures.ward in
    let here = ap (λ shares. bytes_at shares c.ward.result) (sym c.as_slice.ensures.items) in
    rw (share, here, ← c.in-Some.ensures) c.copy.ensures

pub returns-in-None : goal.returns-in-None
returns-in-None c =
    let many : 1 < c.args.n = omega (arith, c.if-n-eq1.false, c.requires.size.0) in
    c.new-in-None.ensures
    ∙ sym
    (fold_is (buddy c.args.self.now.separation) (are_buddies c.args.self.now.separation) c.args.n c.args.place c.ward.result (bytes_at c.args.parts.now) many c.ward.ensures.below c.ward.ensures.ward
    ∙ ap (λ shares. bytes_at shares c.ward.result) (sym c.as_slice.ensures.items)
    ∙ c.in-None.ensures)
