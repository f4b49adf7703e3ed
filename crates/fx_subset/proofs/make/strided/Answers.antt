use Rattle.std.proofs.Common.{◌≡◌, None, Some, sym, ap, ◌∙◌, rules}
use Rattle.fx_subset.specs.Indices.{blocks_of}
use Rattle.fx_subset.specs.Fault.{fault_of_blocks}
use Rattle.fx_subset.specs.declared.fault.SubsetFault.TheVariants.{Outside}
use Rattle.fx_subset.proofs.Bounds.{blocks_reach, index_of_blocks}
use Rattle.fx_subset.proofs.Cover.{same_union}
use Rattle.fx_subset.proofs.make.strided.Goals as goal

pub returns-clause-made : goal.returns-clause-made
returns-clause-made c =
    c.of_runs.ensures ∙ same_union c.in_ok-runs.runs.items (blocks_of c.args.blocks c.args.start c.args.end c.args.stride) c.in_ok-runs.ensures.same

pub returns-in-Some-clause-outside : goal.returns-in-Some-clause-outside
returns-in-Some-clause-outside c = λ refused.
    let is : c.in-Some.fault ≡ Outside = cc in
    blocks_reach c.args.len c.args.blocks c.args.start c.args.end c.args.stride (sym c.in-Some.ensures ∙ ap Some is)

pub returns-clause-inside : goal.returns-clause-inside
returns-clause-inside c =
    let none : fault_of_blocks c.args.len c.args.blocks c.args.start c.args.end c.args.stride ≡ None = search rules in
    index_of_blocks c.args.len c.args.blocks c.args.start c.args.end c.args.stride c.of_runs.result none
    (c.of_runs.ensures ∙ same_union c.in_ok-runs.runs.items (blocks_of c.args.blocks c.args.start c.args.end c.args.stride) c.in_ok-runs.ensures.same)
