use Rattle.std.specs.Ordering.{nat_cmp}
use Rattle.std.proofs.Common.{rules}
use Rattle.fx_base.proofs.Maps.{len_of}
use Rattle.fx_base.proofs.sparse.Sparse.is_empty.Goals as goal

pub returns : goal.returns
returns c = rw (← c.self.view_is, len_of nat_cmp _ c.self.invariant) (search rules)
