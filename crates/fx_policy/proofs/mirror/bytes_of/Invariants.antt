use Rattle.std.proofs.Common.{◌≡◌, drop}
use Rattle.fx_store.specs.Redundancy.{bytes_at}
use Rattle.fx_policy.proofs.mirror.bytes_of.Given as goal

abbrev pub invariant-loop-share : goal.invariant-loop-share
invariant-loop-share l = bytes_at (drop l.share-index l.shares) l.place ≡ bytes_at l.shares l.place
