use Rattle.std.proofs.Common.{rules}
use Rattle.fx_subset.proofs.Count.{len-union_of}
use Rattle.fx_subset.proofs.subset.Subset.count.Goals as goal

pub returns : goal.returns
returns c = rw (← c.self.view_is, len-union_of c.self.inside.runs.items c.self.invariant) (search rules)
