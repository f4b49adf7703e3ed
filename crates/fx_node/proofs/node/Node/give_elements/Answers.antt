use Rattle.std.proofs.Common.{◌≡◌, subst, sym}
use Rattle.fx_coll.specs.Machine.{values_in}
use Rattle.fx_node.specs.contracts.node.Node.{the_view}
use Rattle.fx_node.specs.declared.stage.Stage.TheVariants as stage
use Rattle.fx_node.specs.Standing.{IsNodeOf, Standing}
use Rattle.fx_node.proofs.Calling.{gathering_is, gives_elements_so}
use Rattle.fx_node.proofs.node.Node.give_elements.Goals as goal

pub returns-clause-gives : goal.returns-clause-gives
returns-clause-gives c = λ job n sends place w state rest is at fits.
    let now = sym c.self.view_is in
    gives_elements_so job (the_view c.self.inside) n place w state rest (values_in c.args.part.now) c.give_array.new.self sends c.args.items.now c.push.new.self (subst (λ (s : Standing). IsNodeOf job s n) now is)
    (gathering_is (the_view c.self.inside).stage (subst (λ (s : Standing). s.stage ≡ stage.Gathering) now c.requires.gathering)) at fits (rw c.in_ok-elements.ensures at (c.give_array.ensures.same_job job)) (rw c.in_ok-elements.ensures at c.give_array.ensures.goes_on) (rw (c.in_ok-copy.ensures, c.in_ok-elements.ensures) at c.in_ok-push.ensures.ok)
