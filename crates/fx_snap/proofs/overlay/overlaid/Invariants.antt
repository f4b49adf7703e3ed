use Rattle.std.proofs.Common.{◌-◌, length}
use Rattle.std.specs.FinMap.{entries}
use Rattle.fx_snap.proofs.Moving.{Overlaid}
use Rattle.fx_snap.proofs.overlay.overlaid.Given as goal

abbrev pub invariant-loop-index : goal.invariant-loop-index
invariant-loop-index l = Overlaid l.piece l.old l.made l.k l.at

abbrev pub decreases-loop-index : goal.decreases-loop-index
decreases-loop-index l = length (entries l.piece) - l.k
