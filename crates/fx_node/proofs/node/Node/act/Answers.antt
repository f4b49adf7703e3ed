use Rattle.std.proofs.lemmas.Result.{IfOk-weaker}
use Rattle.fx_node.proofs.node.Node.act.Goals as goal

pub returns-in-Gathering-clause-steps : goal.returns-in-Gathering-clause-steps
returns-in-Gathering-clause-steps c = IfOk-weaker c.gather.result _ _ (λ moved h. λ job n asks is. h job n c.args.sends.now is) c.gather.ensures.steps
