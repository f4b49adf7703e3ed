-- the parts of the places gone over, the last ones, are there
use Rattle.std.proofs.Common.{◌≡◌, ◌≤◌, ◌<◌, ℕ, length, true}
use Rattle.fx_machine.specs.Nodes.{Node}
use Rattle.fx_node.specs.Asking.{gathers_parts}
use Rattle.fx_node.specs.Glancing.{is_there}
use Rattle.fx_node.specs.Standing.{IsNodeOf}
use Rattle.fx_script.specs.declared.job.Job.{Job}
use Rattle.fx_node.proofs.node.Node.glance_in_calm.Given as goal

abbrev pub invariant-loop-one : goal.invariant-loop-one
invariant-loop-one l = (job : Job) (n : Node) → IsNodeOf job l.self n → gathers_parts l.wanted ≡ true → (x : ℕ) → l.one ≤ x → x < length l.self.comm → is_there n l.wanted x ≡ true
