use Rattle.std.proofs.Common.{subst, sym, ◌≡◌, ◌∙◌, Some}
use Rattle.fx_comm.specs.Seats.{place_in}
use Rattle.fx_node.specs.contracts.node.Node.{the_view}
use Rattle.fx_node.specs.declared.stage.Stage.TheVariants as stage
use Rattle.fx_node.specs.Standing.{IsNodeOf, Standing}
use Rattle.fx_node.proofs.Begun.{begins_from}
use Rattle.fx_node.proofs.node.Node.begin_body.Goals as goal

pub returns-clause-begins : goal.returns-clause-begins
returns-clause-begins c = λ job n sends asks h.
    let now = sym c.self.view_is in
    let walk = c.in_ok-begin_walk.ensures in
    begins_from job (the_view c.self.inside) (the_view c.self-2.inside) n c.args.place.0 c.size.result c.size-2.result c.ident_at.result c.depleted.result c.begin_walk.new.self.flow sends
    c.args.items.now c.begin_walk.new.items c.push.new.self asks
    (subst (λ (s : Standing). IsNodeOf job s n) now h)
    (subst (λ (s : Standing). s.stage ≡ stage.Arrived) now c.requires.arrived)
    (subst (λ (s : Standing). place_in s.comm s.me ≡ Some c.args.place.0) now c.requires.there)
    c.size.ensures.size (sym (c.self-2.view_is ∙ walk.same))
    (record { ident = c.ident_at.ensures; count = c.size-2.ensures.size; warns = c.depleted.ensures })
    (walk.same_job job) (walk.begins job) (walk.keeps job) (walk.writes job) c.in_ok-push.ensures.ok
