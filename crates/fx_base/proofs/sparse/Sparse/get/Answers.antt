use Rattle.std.specs.Ordering.{nat_cmp}
use Rattle.std.proofs.Common.{rules}
use Rattle.fx_base.proofs.Maps.{get_of}
use Rattle.fx_base.proofs.sparse.Sparse.get.Goals as goal

pub returns : goal.returns
returns c = rw (← c.self.view_is, get_of nat_cmp _ _ c.self.invariant) (search rules)
