use Rattle.std.proofs.Common.{◌≡◌, ◌++◌, ap, ◌∙◌}
use Rattle.std.proofs.lemmas.List.Elements.{All-append}
use Rattle.fx_subset.specs.Indices.{union_of}
use Rattle.fx_subset.specs.Runs.{IsWhole}
use Rattle.fx_subset.proofs.Apart.{whole_runs}
use Rattle.fx_subset.proofs.Cover.{same_union, union_of-append}
use Rattle.fx_subset.proofs.subset.Subset.union.Goals as goal

pub joined-requires : goal.joined-requires
joined-requires c =
    rw (c.in_ok-extend_from_slice.ensures.items, c.in_ok-intervals.ensures.items, c.as_slice.ensures.value, c.as_slice-2.ensures.value)
    (All-append IsWhole c.self.inside.runs.items c.other.inside.runs.items (whole_runs 0 c.self.inside.runs.items c.self.invariant) (whole_runs 0 c.other.inside.runs.items c.other.invariant))

pub returns : goal.returns
returns c =
    let all : c.extend_from_slice.new.self.items ≡ c.self.inside.runs.items ++ c.other.inside.runs.items =
    rw (c.in_ok-extend_from_slice.ensures.items, c.in_ok-intervals.ensures.items, c.as_slice.ensures.value, c.as_slice-2.ensures.value) in
    rw (← c.self.view_is, ← c.other.view_is)
    (c.of_runs.ensures ∙ same_union c.in_ok-runs.runs.items c.extend_from_slice.new.self.items c.in_ok-runs.ensures.same ∙ ap union_of all ∙ union_of-append c.self.inside.runs.items c.other.inside.runs.items)
