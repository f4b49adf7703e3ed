use Rattle.std.proofs.Common.{◌≡◌, None, Some, sym, ap, ◌∙◌, rules}
use Rattle.fx_subset.specs.Indices.{union_of}
use Rattle.fx_subset.specs.Fault.{fault_of_pairs}
use Rattle.fx_subset.specs.declared.fault.SubsetFault.TheVariants.{Outside}
use Rattle.fx_subset.proofs.Bounds.{pairs_reach, index_of_pairs}
use Rattle.fx_subset.proofs.Cover.{same_union}
use Rattle.fx_subset.proofs.make.ranges.Goals as goal

pub returns-clause-made : goal.returns-clause-made
returns-clause-made c =
    c.of_runs.ensures ∙ same_union c.in_ok-runs.runs.items c.as_slice-2.result.now c.in_ok-runs.ensures.same ∙ ap union_of c.as_slice-2.ensures

pub returns-in-Some-clause-outside : goal.returns-in-Some-clause-outside
returns-in-Some-clause-outside c = λ refused.
    let is : c.in-Some.fault ≡ Outside = cc in
    pairs_reach c.args.len c.args.pairs.now (ap (λ pairs. fault_of_pairs c.args.len pairs) (sym c.as_slice.ensures) ∙ sym c.in-Some.ensures ∙ ap Some is)

pub returns-clause-inside : goal.returns-clause-inside
returns-clause-inside c =
    let none : fault_of_pairs c.args.len c.args.pairs.now ≡ None = search rules in
    index_of_pairs c.args.len c.args.pairs.now c.of_runs.result none
    (c.of_runs.ensures ∙ same_union c.in_ok-runs.runs.items c.as_slice-2.result.now c.in_ok-runs.ensures.same ∙ ap union_of c.as_slice-2.ensures)
