use Rattle.std.proofs.Common.{refl}
use Rattle.fx_base.specs.Keys.{by_number}
use Rattle.fx_base.proofs.Maps.{none_is_empty}
use Rattle.fx_base.proofs.Bounded.{none_bounded}
use Rattle.fx_base.proofs.snapshot.Snapshot.new.Goals as goal

pub invariant_of-result : goal.invariant_of-result
invariant_of-result c = rw c.new.ensures.items (refl, rw (none_is_empty by_number) none_bounded)

pub returns : goal.returns
returns c = rw c.new.ensures.items (none_is_empty by_number)
