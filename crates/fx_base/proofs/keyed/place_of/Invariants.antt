-- the key is above what lies before `low`, and below what lies from `high` on
use Rattle.std.proofs.Common.{◌-◌, ◌≤◌, length}
use Rattle.fx_base.proofs.Entries.{IsAboveBefore, IsBelowAt}
use Rattle.fx_base.proofs.keyed.place_of.Given as goal

abbrev pub invariant-loop-low : goal.invariant-loop-low
invariant-loop-low g l = record {
  ordered : l.low ≤ l.high;
  within : l.high ≤ length l.entries;
  above : IsAboveBefore g.K.Key.order l.key l.entries l.low;
  below : IsBelowAt g.K.Key.order l.key l.entries l.high;
}

abbrev pub decreases-loop-low : goal.decreases-loop-low
decreases-loop-low g l = l.high - l.low
