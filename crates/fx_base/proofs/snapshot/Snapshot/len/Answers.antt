use Rattle.fx_base.specs.Keys.{by_number}
use Rattle.std.proofs.Common.{rules}
use Rattle.fx_base.proofs.Maps.{len_of}
use Rattle.fx_base.proofs.snapshot.Snapshot.len.Goals as goal

pub returns-clause-len : goal.returns-clause-len
returns-clause-len c = rw (← c.self.view_is, len_of by_number _ c.self.invariant.0) (search rules)

pub returns-clause-bounded : goal.returns-clause-bounded
returns-clause-bounded c = rw (← c.self.view_is) c.self.invariant.1
