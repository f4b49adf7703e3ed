-- the numbers of the places so far are made to one, and there is at least one
use Rattle.std.proofs.Common.{◌≡◌, ◌≤◌, ℤ, length}
use Rattle.std.specs.Prelude.{get_or, pos}
use Rattle.fx_machine.specs.Gathering.{numbers_of}
use Rattle.fx_machine.specs.Nodes.{Node}
use Rattle.fx_machine.specs.Numbers.{of_each_below}
use Rattle.fx_node.specs.Standing.{IsNodeOf}
use Rattle.fx_script.specs.declared.job.Job.{Job}
use Rattle.fx_walk.specs.Values.{reduced}
use Rattle.fx_walk.specs.declared.wanted.Wanted.TheVariants as wanted
use Rattle.fx_node.proofs.node.Node.total.Given as goal

abbrev pub invariant-loop-one : goal.invariant-loop-one
invariant-loop-one l = record {
  some : 1 ≤ l.one;
  within : l.one ≤ length l.self.comm;
  made : (job : Job) (n : Node) (number : ℤ) → IsNodeOf job l.self n → l.wanted ≡ wanted.Reduce l.op number → l.total ≡ reduced l.op (of_each_below l.one (λ x. get_or (numbers_of n l.wanted x) 0 (pos 0)));
}
