use Rattle.std.proofs.Common.{refl, sym, ap, ◌∙◌, ◌<◌, arith, false}
use Rattle.std.specs.Prelude.{nat_lt}
use Rattle.std.specs.Ordering.{nat_cmp}
use Rattle.std.specs.FinSet.{contains, contains-empty}
use Rattle.std.proofs.lemmas.Bool.{and_right}
use Rattle.fx_store.specs.Mirror.{buddy, is_ward}
use Rattle.fx_store.proofs.Buddies.{are_buddies}
use Rattle.fx_store.proofs.Mirrors.{ward_is}
use Rattle.fx_policy.proofs.mirror.MirrorPolicy.wards.Goals as goal

pub returns-then-n-eq1 : goal.returns-then-n-eq1
returns-then-n-eq1 c j =
    ap (λ places. contains places j) c.new.ensures
    ∙ contains-empty nat_cmp j
    ∙ sym (ap (λ n. is_ward (buddy c.args.self.now.separation) n c.args.place j) c.if-n-eq1.true ∙ and_right (nat_lt j 1) false refl)

pub returns : goal.returns
returns c j =
    let many : 1 < c.args.n = omega (arith, c.if-n-eq1.false, c.requires.size.0) in
    c.only.ensures j
    ∙ sym (ward_is (buddy c.args.self.now.separation) (are_buddies c.args.self.now.separation) c.args.n c.args.place c.ward.result j many c.ward.ensures.below c.ward.ensures.ward)
