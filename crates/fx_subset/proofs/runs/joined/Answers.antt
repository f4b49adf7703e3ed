use Rattle.std.proofs.Common.{rules, sym, ap, ◌∙◌}
use Rattle.std.proofs.lemmas.Result.{IfOk-weaker}
use Rattle.std.proofs.lemmas.List.Sorted.{All-permutation, list_any-IsPermutation, IsNonDecreasingBy-from_sort_by_key}
use Rattle.fx_subset.specs.Indices.{is_between, is_covered}
use Rattle.fx_subset.specs.Runs.{IsWhole}
use Rattle.fx_subset.proofs.Apart.{in_order}
use Rattle.fx_subset.proofs.runs.joined.Goals as goal

pub joined_in_order-requires : goal.joined_in_order-requires
joined_in_order-requires c =
    rw c.as_slice.ensures.value
    (in_order c.sort_unstable_by_key.new.self.items (All-permutation IsWhole c.args.intervals.items c.sort_unstable_by_key.new.self.items c.sort_unstable_by_key.ensures.permutation c.requires)
    (IsNonDecreasingBy-from_sort_by_key (λ interval. interval.0) _ c.sort_unstable_by_key.ensures.sorted (λ a r q k. search rules)))

pub returns-clause-same : goal.returns-clause-same
returns-clause-same c =
    IfOk-weaker c.joined_in_order.result _ _
    (λ runs same index.
    same index
    ∙ ap (λ xs. is_covered xs index) c.as_slice.ensures.value
    ∙ sym (list_any-IsPermutation (λ interval. is_between interval index) c.args.intervals.items c.sort_unstable_by_key.new.self.items c.sort_unstable_by_key.ensures.permutation))
    c.joined_in_order.ensures.same
