use Rattle.std.proofs.Common.{◌≡◌, length}
use Rattle.fx_store.specs.Store.{newest}
use Rattle.fx_snap.proofs.entries.keep_newest.Given as goal

abbrev pub invariant-loop-entries : goal.invariant-loop-entries
invariant-loop-entries l = newest l.count l.entries.items ≡ newest l.count l.fn.entries.items

abbrev pub decreases-loop-entries : goal.decreases-loop-entries
decreases-loop-entries l = length l.entries.items
