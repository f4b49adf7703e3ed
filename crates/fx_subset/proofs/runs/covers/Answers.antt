use Rattle.std.proofs.Common.{◌<◌, ◌≤◌, length, nat_lt, nat_le, ap, ◌∙◌, ltb-true, ltb-false, sym, rules, arith}
use Rattle.std.proofs.lemmas.List.Sorted.{IsPartitionPoint-from_clause, IsPartitionedBy-ltb}
use Rattle.fx_subset.proofs.Found.{covered_past, covered_at, ends_rise}
use Rattle.fx_subset.proofs.runs.covers.Goals as goal

pub returns-in-Some : goal.returns-in-Some
returns-in-Some c =
    let parted = IsPartitionedBy-ltb (λ run. run.1) c.args.runs.now c.args.index (ends_rise 0 c.args.runs.now c.requires) in
    let point = IsPartitionPoint-from_clause (λ run. nat_lt run.1 c.args.index) c.args.runs.now c.partition_point-at.result c.partition_point-at.ensures.partitioned parted (λ a r q k. search rules) in
    let inside : c.partition_point-at.result < length c.args.runs.now = ltb-true _ _ (sym c.in-Some.ensures.lookup.0) in
    let found =
    covered_at 0 c.args.runs.now c.partition_point-at.result c.args.index c.in-Some.run'.now c.requires inside (λ k d h. ltb-true _ _ (point.0 k d (omega arith) h))
    (ltb-false _ _ (point.1 c.partition_point-at.result c.in-Some.run'.now (omega arith) inside)) in
    ap (λ run. nat_le run.0 c.args.index) c.in-Some.ensures.lookup.1 ∙ sym found

pub returns-in-None : goal.returns-in-None
returns-in-None c =
    let parted = IsPartitionedBy-ltb (λ run. run.1) c.args.runs.now c.args.index (ends_rise 0 c.args.runs.now c.requires) in
    let point = IsPartitionPoint-from_clause (λ run. nat_lt run.1 c.args.index) c.args.runs.now c.partition_point-at.result c.partition_point-at.ensures.partitioned parted (λ a r q k. search rules) in
    let past : length c.args.runs.now ≤ c.partition_point-at.result = ltb-false _ _ (sym c.in-None.ensures.lookup.0) in
    sym (covered_past c.args.runs.now c.args.index (λ k d h. ltb-true _ _ (point.0 k d (omega arith) (omega arith))))
