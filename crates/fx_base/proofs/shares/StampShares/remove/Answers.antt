use Rattle.fx_base.specs.Keys.{by_time, by_time_total, by_time_same}
use Rattle.fx_base.proofs.Maps.{take_keeps, take_is_remove}
use Rattle.fx_base.proofs.shares.StampShares.remove.Goals as goal

pub invariant_of-self : goal.invariant_of-self
invariant_of-self c = rw c.take_entry.ensures (take_keeps by_time _ c.self.inside.entries.items c.self.invariant)

pub returns : goal.returns
returns c = rw (c.take_entry.ensures, ← c.self.view_is) (take_is_remove by_time by_time_total by_time_same c.self.inside.entries.items c.args.key c.self.invariant)
