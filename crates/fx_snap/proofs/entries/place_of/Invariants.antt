use Rattle.std.proofs.Common.{◌≡◌, ◌≢◌, ◌<◌, ℕ, Some, slice_get}
use Rattle.fx_store.specs.Store.{Stamped}
use Rattle.fx_snap.proofs.entries.place_of.Given as goal

abbrev pub invariant-loop-at : goal.invariant-loop-at
invariant-loop-at l = (k : ℕ) (e : Stamped) → k < l.at → slice_get l.entries k ≡ Some e → e.0 ≢ l.stamp
