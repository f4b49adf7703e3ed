use Rattle.std.proofs.Common.{◌≡◌, subst, sym, ◌∙◌, ap, ℕ}
use Rattle.fx_inbox.specs.Keeping.{Knows}
use Rattle.fx_node.proofs.Agreeing.{comes_on}
use Rattle.fx_node.specs.Standing.{Standing}
use Rattle.fx_node.proofs.node.Node.cast.Goals as goal

pub returns-clause-casts : goal.returns-clause-casts
returns-clause-casts c = λ n epoch calls knows.
    let of : n.epoch ≡ c.self.inside.epoch.0 = epoch ∙ ap (λ (s : Standing). s.epoch) (sym c.self.view_is) in
    rw (← c.self.view_is, ap (λ (s : Standing). s.inbox) c.self-2.view_is) (c.in_ok-tell_places.ensures.says (record n { calls = c.args.next })
    (subst (λ (e : ℕ). Knows n.me e c.args.next n.lost n.texts c.forget.new.self) (sym of)
    (c.forget.ensures.ok n.me n.epoch n.calls n.lost n.texts (comes_on n.epoch c.self.inside.epoch.0 n.calls c.args.next of calls) (rw (← c.self.view_is) at knows))))
