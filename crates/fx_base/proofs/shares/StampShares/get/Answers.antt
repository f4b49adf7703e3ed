use Rattle.fx_base.specs.Keys.{by_time}
use Rattle.std.proofs.Common.{rules}
use Rattle.fx_base.proofs.Maps.{get_of}
use Rattle.fx_base.proofs.shares.StampShares.get.Goals as goal

pub returns : goal.returns
returns c = rw (← c.self.view_is, get_of by_time _ _ c.self.invariant) (search rules)
