use Rattle.std.proofs.Common.{◌<◌, length, [], slice_set, arith}
use Rattle.std.proofs.lemmas.List.Edits.{map_over_more}
use Rattle.fx_link.proofs.links.clear_column.Goals as goal

pub loop-from-preserved : goal.loop-from-preserved
loop-from-preserved c =
    let within : c.loop-from.from < length c.args.rows.now.items = omega (arith, c.len-from-end.ensures) in
    rw c.clear.ensures (map_over_more (λ row. slice_set row c.args.to []) c.args.rows.now.items c.loop-from.rows.items c.loop-from.from c.index_mut.result.now within c.loop-from.invariant c.index_mut.ensures.value)
