use Rattle.fx_base.specs.Keys.{by_number}
use Rattle.std.proofs.Common.{rules}
use Rattle.fx_base.proofs.Maps.{entries_of}
use Rattle.fx_base.proofs.snapshot.Snapshot.nth.Goals as goal

pub returns-clause-pair : goal.returns-clause-pair
returns-clause-pair c = rw (← c.self.view_is, entries_of by_number _ c.self.invariant.0) (search rules)

pub returns-clause-bounded : goal.returns-clause-bounded
returns-clause-bounded c = rw (← c.self.view_is) c.self.invariant.1
