use Rattle.std.proofs.Common.{subst, sym}
use Rattle.fx_node.specs.contracts.node.Node.{the_view}
use Rattle.fx_node.specs.Standing.{IsNodeOf, Standing}
use Rattle.fx_node.proofs.Heard.{is_told_of}
use Rattle.fx_node.proofs.node.Node.notice.Goals as goal

pub returns-clause-ok : goal.returns-clause-ok
returns-clause-ok c = λ job n h.
    let before = subst (λ (s : Standing). IsNodeOf job s n) (sym c.self.view_is) h in
    is_told_of job (the_view c.self.inside) n c.args.who.0 c.lose.new.self before (c.lose.ensures.ok n before.knows)
