-- what is seen so far holds of the places so far
use Rattle.std.proofs.Common.{◌≡◌, ◌≤◌, length, true}
use Rattle.fx_machine.specs.Nodes.{Node}
use Rattle.fx_node.specs.Asking.{gathers_parts}
use Rattle.fx_node.specs.Glancing.{IsSeenBelow}
use Rattle.fx_node.specs.Standing.{IsNodeOf}
use Rattle.fx_script.specs.declared.job.Job.{Job}
use Rattle.fx_node.proofs.node.Node.glance.Given as goal

abbrev pub invariant-loop-one : goal.invariant-loop-one
invariant-loop-one l = record {
  within : l.one ≤ length l.self.comm;
  seen : (job : Job) (n : Node) → IsNodeOf job l.self n → gathers_parts l.wanted ≡ true → IsSeenBelow l.seen n l.wanted l.one;
}
