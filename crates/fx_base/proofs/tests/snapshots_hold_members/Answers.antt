use Rattle.std.proofs.Common.{arith}
use Rattle.fx_base.proofs.Bounded.{none_below, put_below}
use Rattle.fx_base.proofs.tests.snapshots_hold_members.Goals as goal

pub put-requires-2-clause-indices : goal.put-requires-2-clause-indices
put-requires-2-clause-indices g c = rw (c.in_ok-put.ensures.ok, c.new-elements.ensures) (put_below _ _ _ none_below (omega arith))

pub put-requires-3-clause-indices : goal.put-requires-3-clause-indices
put-requires-3-clause-indices g c = rw c.new.ensures none_below
