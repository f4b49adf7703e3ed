use Rattle.std.proofs.Common.{◌≡◌, subst, sym}
use Rattle.fx_node.specs.contracts.node.Node.{the_view}
use Rattle.fx_node.specs.declared.stage.Stage.TheVariants as stage
use Rattle.fx_node.specs.Standing.{IsNodeOf, Standing}
use Rattle.fx_node.proofs.Calling.{gathering_is, passes_so}
use Rattle.fx_node.proofs.node.Node.pass.Goals as goal

pub returns-clause-passes : goal.returns-clause-passes
returns-clause-passes c = λ job n sends place w state rest is at.
    let now = sym c.self.view_is in
    passes_so job (the_view c.self.inside) n place w state rest c.pass.new.self sends c.args.items.now c.push.new.self (subst (λ (s : Standing). IsNodeOf job s n) now is)
    (gathering_is (the_view c.self.inside).stage (subst (λ (s : Standing). s.stage ≡ stage.Gathering) now c.requires.gathering)) at (c.pass.ensures.same_job job) c.pass.ensures.goes_on c.in_ok-push.ensures.ok
