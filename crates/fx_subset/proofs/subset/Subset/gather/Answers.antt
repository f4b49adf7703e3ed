use Rattle.std.proofs.Common.{ap, ◌∙◌}
use Rattle.fx_subset.specs.Indices.{union_of}
use Rattle.fx_subset.proofs.Gathered.{gathered_if}
use Rattle.fx_subset.proofs.subset.Subset.gather.Goals as goal

pub returns : goal.returns
returns c = gathered_if c.as_slice.result.now c.args.self.now c.args.from.now c.gather_runs.result (ap union_of c.as_slice.ensures.value ∙ c.self.view_is) c.gather_runs.ensures
