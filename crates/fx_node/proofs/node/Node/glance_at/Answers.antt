use Rattle.std.proofs.Common.{◌||◌, Bool, sym, subst, ap, ◌∙◌}
use Rattle.std.specs.Prelude.{if◌then◌else◌}
use Rattle.fx_machine.specs.Reading.{has_left}
use Rattle.fx_node.proofs.Calling.{proc_there}
use Rattle.fx_node.proofs.Glancing.{without}
use Rattle.fx_node.specs.Glancing.{IsSeenAt}
use Rattle.fx_node.specs.declared.glance.Glance.{Glance}
use Rattle.fx_node.specs.declared.glance.Glance.TheVariants as glance
use Rattle.fx_node.proofs.node.Node.glance_at.Goals as goal

pub returns-then-is_there : goal.returns-then-is_there
returns-then-is_there c = λ job n is carried. sym (c.is_there.ensures job n is carried) ∙ c.if-is_there.true

pub returns : goal.returns
returns c = λ job n is carried.
    let w = rw (← c.self.view_is) at is in
    let who = c.proc_at-who.result.0 in
    let asked = c.args.wanted.now in
    let at = sym (proc_there n c.self.inside.comm c.args.one.0 c.proc_at-who.result w.comm c.proc_at-who.ensures.there) in
    subst (λ (seen : Glance). IsSeenAt seen n asked c.args.one.0)
    (sym (c.glance_without.ensures job n is ∙ ap (λ (b : Bool). if b || has_left n who then glance.Unclear else glance.Waiting) (c.is_lost.ensures n w.knows)))
    (without n asked c.args.one.0 who at (sym (c.is_there.ensures job n is carried) ∙ c.if-is_there.false))
