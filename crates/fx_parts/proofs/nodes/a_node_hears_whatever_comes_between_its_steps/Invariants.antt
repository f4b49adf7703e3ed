-- It stays one of as many processes.
use Rattle.std.proofs.Common.{◌≡◌}
use Rattle.fx_node.specs.Standing.{processes}
use Rattle.fx_parts.proofs.nodes.a_node_hears_whatever_comes_between_its_steps.Given as goal

abbrev pub invariant-loop : goal.invariant-loop
invariant-loop g l = processes l.node ≡ processes l.initial.node
