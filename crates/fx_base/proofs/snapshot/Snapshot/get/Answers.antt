use Rattle.fx_base.specs.Keys.{by_number}
use Rattle.std.proofs.Common.{rules}
use Rattle.fx_base.proofs.Maps.{get_of}
use Rattle.fx_base.proofs.snapshot.Snapshot.get.Goals as goal

pub returns-clause-held : goal.returns-clause-held
returns-clause-held c = rw (← c.self.view_is, get_of by_number _ _ c.self.invariant.0) (search rules)

pub returns-clause-bounded : goal.returns-clause-bounded
returns-clause-bounded c = rw (← c.self.view_is) c.self.invariant.1
