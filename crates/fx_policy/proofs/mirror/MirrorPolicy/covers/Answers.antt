use Rattle.std.proofs.Common.{sym, ap, ◌∙◌, not, ◌&&◌, arith, true, false, ◌≡◌, ℕ, Bool}
use Rattle.std.specs.FinSet.{contains}
use Rattle.fx_store.specs.Mirror.{buddy}
use Rattle.fx_store.proofs.Mirrors.{each_from, each_fails}
use Rattle.fx_policy.proofs.mirror.MirrorPolicy.covers.Goals as goal

pub returns-then-has-2 : goal.returns-then-has-2
returns-then-has-2 c =
    let test : ℕ → Bool = λ i. not (contains c.args.lost i && contains c.args.lost (buddy c.args.self.now.separation c.args.n i)) in
    let own : contains c.args.lost c.loop-place.place ≡ true = sym c.has.ensures.member ∙ c.if-has.true in
    let buddys : contains c.args.lost (buddy c.args.self.now.separation c.args.n c.loop-place.place) ≡ true =
    ap (contains c.args.lost) (sym c.buddy.ensures) ∙ sym c.has-then-has.ensures.member ∙ c.if-has-2.true in
    let fails : test c.loop-place.place ≡ false = (λ k. not (own k && buddys k)) in
    sym (each_fails c.args.n test c.loop-place.place c.loop-place-test.true fails)

pub returns : goal.returns
returns c =
    let test : ℕ → Bool = λ i. not (contains c.args.lost i && contains c.args.lost (buddy c.args.self.now.separation c.args.n i)) in
    sym (each_from c.args.n test (λ i below. c.loop-place.invariant i (omega (arith, below, c.loop-place-test.false))))
