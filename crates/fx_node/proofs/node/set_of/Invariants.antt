-- those put in, joined with those that are left, are all
use Rattle.std.proofs.Common.{◌≡◌, ℕ, ◌||◌, drop}
use Rattle.std.specs.FinSet as set
use Rattle.fx_ballot.specs.Names.{has}
use Rattle.fx_node.proofs.node.set_of.Given as goal

abbrev pub invariant-loop-process : goal.invariant-loop-process
invariant-loop-process l = (q : ℕ) → (set.contains l.set q || has (drop l.process-index l.processes) q) ≡ has l.processes q
