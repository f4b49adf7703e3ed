use Rattle.std.specs.Ordering.{nat_cmp}
use Rattle.fx_base.proofs.Maps.{none_is_empty}
use Rattle.fx_base.proofs.sparse.Sparse.new.Goals as goal

pub returns : goal.returns
returns c = rw c.new.ensures.items (none_is_empty nat_cmp)
