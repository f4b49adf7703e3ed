use Rattle.fx_base.specs.Keys.{by_number}
use Rattle.std.proofs.Common.{rules}
use Rattle.fx_base.proofs.Maps.{len_of}
use Rattle.fx_base.proofs.snapshot.Snapshot.is_empty.Goals as goal

pub returns : goal.returns
returns c = rw (← c.self.view_is, len_of by_number _ c.self.invariant.0) (search rules)
