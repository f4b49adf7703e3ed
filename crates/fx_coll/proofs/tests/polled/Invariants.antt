use Rattle.std.proofs.Common.{◌≡◌, length}
use Rattle.fx_coll.proofs.tests.polled.Given as goal

abbrev pub invariant-loop-event : goal.invariant-loop-event
invariant-loop-event l = length l.gather ≡ 3
