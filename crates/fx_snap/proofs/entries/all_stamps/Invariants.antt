use Rattle.std.proofs.Common.{◌≡◌, take}
use Rattle.fx_store.specs.Store.{stamps_of}
use Rattle.fx_snap.proofs.entries.all_stamps.Given as goal

abbrev pub invariant-loop-entry : goal.invariant-loop-entry
invariant-loop-entry l = l.stamps ≡ stamps_of (take l.entry-index l.entries)
