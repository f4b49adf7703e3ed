use Rattle.std.proofs.Common.{ap, ◌∙◌}
use Rattle.fx_subset.specs.Indices.{union_of}
use Rattle.fx_subset.proofs.Cover.{union_of-none}
use Rattle.fx_subset.proofs.make.empty.Goals as goal

pub returns : goal.returns
returns c = c.of_runs.ensures ∙ ap union_of c.new.ensures.items ∙ union_of-none
