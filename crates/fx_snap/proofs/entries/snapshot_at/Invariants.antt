use Rattle.std.proofs.Common.{◌≡◌, drop}
use Rattle.std.specs.FinMap.{find}
use Rattle.fx_base.specs.Keys.{by_time}
use Rattle.fx_snap.proofs.entries.snapshot_at.Given as goal

abbrev pub invariant-loop-entry : goal.invariant-loop-entry
invariant-loop-entry l = find by_time l.stamp (drop l.entry-index l.entries) ≡ find by_time l.stamp l.entries
