-- The bytes so far are gone from the source, and no more than the limit; each turn brings one at least.
use Rattle.std.proofs.Common.{◌≡◌, ◌-◌, ◌≤◌, length}
use Rattle.fx_io.specs.Told.{Loses}
use Rattle.fx_io.proofs.whole.read_whole.Given as goal

abbrev pub invariant-loop-count : goal.invariant-loop-count
invariant-loop-count g l = record {
  gone : Loses (g.S.Source.state l.fn.source).left (g.S.Source.state l.source).left l.bytes;
  within : length l.bytes ≤ l.limit;
  room : length l.piece ≡ 4096;
  counts : (g.S.Source.state l.fn.source).faults ≤ (g.S.Source.state l.source).faults;
}

abbrev pub decreases-loop-count : goal.decreases-loop-count
decreases-loop-count g l = l.limit - length l.bytes
