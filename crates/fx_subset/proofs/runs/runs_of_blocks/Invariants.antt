-- the runs so far are the blocks so far
use Rattle.std.proofs.Common.{◌≡◌}
use Rattle.fx_subset.specs.Indices.{blocks_of}
use Rattle.fx_subset.proofs.runs.runs_of_blocks.Given as goal

abbrev pub invariant-loop-block : goal.invariant-loop-block
invariant-loop-block l = l.runs.items ≡ blocks_of l.block l.start l.end l.stride
