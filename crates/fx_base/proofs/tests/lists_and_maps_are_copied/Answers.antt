use Rattle.std.proofs.Common.{arith}
use Rattle.fx_base.proofs.Bounded.{none_below, put_below}
use Rattle.fx_base.proofs.tests.lists_and_maps_are_copied.Goals as goal

pub put-requires-2-clause-indices : goal.put-requires-2-clause-indices
put-requires-2-clause-indices g c = rw (c.in_ok-put.ensures.ok, c.new-elements.ensures) (put_below _ _ _ none_below (omega arith))
