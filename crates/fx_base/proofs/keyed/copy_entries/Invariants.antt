-- the copy so far equals the entries that were gone over
use Rattle.std.proofs.Common.{◌≡◌, take}
use Rattle.fx_base.proofs.keyed.copy_entries.Given as goal

abbrev pub invariant-loop-entry : goal.invariant-loop-entry
invariant-loop-entry g l = l.copy.items ≡ take l.entry-index l.entries
