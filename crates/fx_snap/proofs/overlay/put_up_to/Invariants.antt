use Rattle.std.proofs.Common.{◌-◌, length, drop}
use Rattle.std.specs.FinMap.{entries}
use Rattle.fx_snap.specs.Overlays.{Moves}
use Rattle.fx_snap.proofs.overlay.put_up_to.Given as goal

abbrev pub invariant-loop-index : goal.invariant-loop-index
invariant-loop-index l = Moves l.fn.made l.made (drop l.fn.from (entries l.old)) (drop l.at (entries l.old))

abbrev pub decreases-loop-index : goal.decreases-loop-index
decreases-loop-index l = length (entries l.old) - l.at
