use Rattle.std.proofs.Common.{◌≡◌, replicate}
use Rattle.fx_coll.specs.Keeping.{unknown}
use Rattle.fx_coll.proofs.gather.nothing_known.Given as goal

abbrev pub invariant-loop-place : goal.invariant-loop-place
invariant-loop-place l = l.known.items ≡ replicate l._place unknown
