-- It stays one of as many processes.
use Rattle.std.proofs.Common.{◌≡◌}
use Rattle.fx_node.specs.Standing.{processes}
use Rattle.fx_parts.proofs.nodes.hear_all.Given as goal

abbrev pub invariant-loop-message : goal.invariant-loop-message
invariant-loop-message l = record {
  next : (goal.iterator-loop-message).can_next l.message-iterator;
  finite : (goal.iterator-loop-message).is_finite l.message-iterator;
  same : processes l.node ≡ processes l.fn.node;
}

abbrev pub invariant-loop-from : goal.invariant-loop-from
invariant-loop-from l = processes l.node ≡ processes l.fn.node
