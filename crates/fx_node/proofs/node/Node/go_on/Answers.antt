use Rattle.std.proofs.Common.{◌≡◌, true, subst}
use Rattle.fx_flow.specs.Flowing.{AsksFor, DoesRest}
use Rattle.fx_node.proofs.Calling.{waits_at}
use Rattle.fx_node.specs.Asking.{gathers_parts}
use Rattle.fx_node.specs.Glancing.{IsSeen}
use Rattle.fx_node.specs.Standing.{Standing}
use Rattle.fx_node.specs.declared.glance.Glance.{Glance}
use Rattle.fx_walk.specs.Walk.{Walk}
use Rattle.fx_node.proofs.node.Node.go_on.Goals as goal

pub returns-in-Waiting-clause-steps : goal.returns-in-Waiting-clause-steps
returns-in-Waiting-clause-steps c = λ job n sends is.
    waits_at job c.args.self.now n c.in_ok-wanted.wanted sends c.args.items.now is c.requires.gathering
    (subst (λ (s : Standing). (walk : Walk) → DoesRest s.view walk s.flow → AsksFor walk c.in_ok-wanted.wanted) c.self.view_is c.in_ok-wanted.ensures.asked)
    (subst (λ (seen : Glance). gathers_parts c.in_ok-wanted.wanted ≡ true → IsSeen seen n c.in_ok-wanted.wanted) c.in-Waiting.is (c.glance.ensures job n is))
