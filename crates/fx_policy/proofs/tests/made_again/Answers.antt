use Rattle.std.proofs.Common.{◌≡◌, ◌∙◌, ℕ, Bool, true, List, Some}
use Rattle.std.proofs.lemmas.Result.{IfOk-weaker}
use Rattle.fx_store.specs.Redundancy.{HavePayloads, AreHelps, bytes_at}
use Rattle.fx_policy.proofs.tests.made_again.Goals as goal

pub returns : goal.returns
returns g c =
    let r = g.P.Policy.redundancy c.args.policy in
    IfOk-weaker c.rebuild.result
    (λ made. made ≡ r.rebuild c.args.n c.args.place (bytes_at c.args.helps.now))
    (λ made. (bytes : ℕ → List ℕ) (lost : ℕ → Bool) → HavePayloads c.args.n bytes → r.covers c.args.n lost ≡ true → lost c.args.place ≡ true
    → AreHelps r c.args.n c.args.place bytes lost (bytes_at c.args.helps.now) → made ≡ Some (bytes c.args.place))
    (λ made is bytes lost payloads covered gone are.
    is ∙ g.met.P.Policy.rebuilds_covered c.args.policy c.args.n c.args.place bytes lost (bytes_at c.args.helps.now) c.requires.size c.requires.placed payloads covered gone are)
    c.rebuild.ensures
