-- of the places so far all is known that the node reads
use Rattle.std.proofs.Common.{◌≡◌, true, length}
use Rattle.fx_machine.specs.Nodes.{Node}
use Rattle.fx_node.specs.Asking.{HaveKind, gathers_parts}
use Rattle.fx_node.specs.Standing.{IsNodeOf}
use Rattle.fx_node.proofs.Learning.{Knowing}
use Rattle.fx_script.specs.declared.job.Job.{Job}
use Rattle.fx_node.proofs.node.Node.known_of.Given as goal

abbrev pub invariant-loop-one : goal.invariant-loop-one
invariant-loop-one l = record {
  many : length l.known ≡ length l.self.comm;
  knowing : (job : Job) (n : Node) → IsNodeOf job l.self n → gathers_parts l.wanted ≡ true → Knowing n l.wanted l.one l.known;
  kind : HaveKind l.wanted l.known;
}
