use Rattle.std.proofs.Common.{rules}
use Rattle.fx_subset.proofs.Cover.{contains-union_of}
use Rattle.fx_subset.proofs.subset.Subset.contains.Goals as goal

pub returns : goal.returns
returns c = rw (← c.self.view_is, contains-union_of c.self.inside.runs.items c.args.index) (search rules)
