use Rattle.std.proofs.Common.{◌≡◌, ◌<◌, ℕ, true, not, ◌&&◌}
use Rattle.std.specs.FinSet.{contains}
use Rattle.fx_store.specs.Mirror.{buddy}
use Rattle.fx_policy.proofs.mirror.MirrorPolicy.covers.Given as goal

abbrev pub invariant-loop-place : goal.invariant-loop-place
invariant-loop-place l = (i : ℕ) → i < l.place → not (contains l.lost i && contains l.lost (buddy l.self.separation l.n i)) ≡ true
