use Rattle.std.proofs.Common.{subst, sym}
use Rattle.fx_node.specs.contracts.node.Node.{the_view}
use Rattle.fx_node.specs.Standing.{IsInCall, IsNodeOf, Standing}
use Rattle.fx_node.proofs.Calling.{revokes_so}
use Rattle.fx_node.proofs.node.Node.revoke.Goals as goal

pub returns-clause-revokes : goal.returns-clause-revokes
returns-clause-revokes c = λ job n sends is.
    let now = sym c.self.view_is in
    revokes_so job (the_view c.self.inside) n c.args.left sends c.args.items.now c.push.new.self (subst (λ (s : Standing). IsNodeOf job s n) now is)
    (subst (λ (s : Standing). IsInCall s.stage) now c.requires) c.in_ok-push.ensures.ok
