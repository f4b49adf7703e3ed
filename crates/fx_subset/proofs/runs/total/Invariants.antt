-- what is counted, joined with what is left, is the total
use Rattle.std.proofs.Common.{◌≡◌, ◌+◌, drop}
use Rattle.fx_subset.specs.Runs.{total_of}
use Rattle.fx_subset.proofs.runs.total.Given as goal

abbrev pub invariant-loop-run : goal.invariant-loop-run
invariant-loop-run l = l.count + total_of (drop l.run-index l.runs) ≡ total_of l.runs
