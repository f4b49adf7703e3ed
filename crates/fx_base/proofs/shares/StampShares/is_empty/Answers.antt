use Rattle.fx_base.specs.Keys.{by_time}
use Rattle.std.proofs.Common.{rules}
use Rattle.fx_base.proofs.Maps.{len_of}
use Rattle.fx_base.proofs.shares.StampShares.is_empty.Goals as goal

pub returns : goal.returns
returns c = rw (← c.self.view_is, len_of by_time _ c.self.invariant) (search rules)
