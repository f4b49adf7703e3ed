use Rattle.fx_base.specs.Keys.{by_time}
use Rattle.fx_base.proofs.Maps.{none_is_empty}
use Rattle.fx_base.proofs.shares.StampShares.new.Goals as goal

pub returns : goal.returns
returns c = rw c.new.ensures.items (none_is_empty by_time)
