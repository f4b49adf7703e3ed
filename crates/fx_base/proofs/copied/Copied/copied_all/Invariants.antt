-- the copies so far equal the items that were gone over
use Rattle.std.proofs.Common.{◌≡◌, take}
use Rattle.fx_base.proofs.copied.Copied.copied_all.Given as goal

abbrev pub invariant-loop-item : goal.invariant-loop-item
invariant-loop-item g l = l.copies.items ≡ take l.item-index l.items
