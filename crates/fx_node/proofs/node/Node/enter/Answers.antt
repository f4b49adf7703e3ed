use Rattle.fx_node.proofs.node.Node.enter.Goals as goal

pub returns-clause-enters : goal.returns-clause-enters
returns-clause-enters c = rw (← c.self.view_is) c.forget.ensures.ok
