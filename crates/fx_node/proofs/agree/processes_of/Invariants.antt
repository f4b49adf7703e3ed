-- those of the places so far stand in front
use Rattle.std.proofs.Common.{◌≡◌, ◌≤◌, length, take}
use Rattle.fx_machine.specs.Nodes.{procs_of}
use Rattle.fx_node.proofs.agree.processes_of.Given as goal

abbrev pub invariant-loop-place : goal.invariant-loop-place
invariant-loop-place l = record {
  long : length l.processes ≡ 32;
  within : l.place ≤ length l.comm;
  listed : take l.place l.processes ≡ procs_of (take l.place l.comm);
}
