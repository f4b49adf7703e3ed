use Rattle.std.proofs.Common.{◌<◌, arith, ap, ◌∙◌}
use Rattle.fx_subset.specs.Indices.{union_of}
use Rattle.fx_subset.proofs.Cover.{union_of-whole}
use Rattle.fx_subset.proofs.make.full.Goals as goal

pub returns-clause-made : goal.returns-clause-made
returns-clause-made c =
    let some : 0 < c.args.len = omega arith in
    c.of_runs.ensures ∙ ap union_of c.in_ok-runs.ensures ∙ union_of-whole c.args.len some
