use Rattle.std.proofs.lemmas.Result.{IfOk-weaker}
use Rattle.fx_node.proofs.node.Node.walk.Goals as goal

pub returns-in-Plain-clause-steps : goal.returns-in-Plain-clause-steps
returns-in-Plain-clause-steps c = IfOk-weaker c.advance.result _ _ (λ moved h. λ job n is. h job n c.args.sends.now is) c.advance.ensures.advances
