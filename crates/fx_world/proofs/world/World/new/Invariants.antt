-- the processes so far stand as their nodes do
use Rattle.std.proofs.Common.{◌≡◌, ◌<◌, ℕ, None, false, length, All, slice_index_or}
use Rattle.fx_fleet.specs.Runs.{job_setup}
use Rattle.fx_machine.specs.Nodes.{first_node}
use Rattle.fx_world.specs.Standings.{IsOneOf, IsPost}
use Rattle.fx_world.proofs.world.World.new.Given as goal

abbrev pub invariant-loop-process : goal.invariant-loop-process
invariant-loop-process l = record {
  count : length l.posts.items ≡ l.process;
  each : All (IsOneOf l.procs) l.posts.items;
  stand : (q : ℕ) → q < l.process → IsPost l.job (slice_index_or l.posts.items q None) false (first_node (job_setup l.job) q);
}
