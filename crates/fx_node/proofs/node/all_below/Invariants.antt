-- the processes so far
use Rattle.std.proofs.Common.{◌≡◌, ◌<◌, true, All, length}
use Rattle.fx_base.specs.Sets.{those_below}
use Rattle.fx_node.proofs.node.all_below.Given as goal

abbrev pub invariant-loop-process : goal.invariant-loop-process
invariant-loop-process l = record {
  all : l.all ≡ those_below (λ q. true) l.process;
  below : All (λ q. q < l.process) l.all;
  count : length l.all ≡ l.process;
}
