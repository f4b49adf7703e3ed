use Rattle.fx_flow.proofs.Asks.{blocks_made, ranges_made}
use Rattle.fx_flow.proofs.selection.selection_in.Goals as goal

pub returns-in-Strided : goal.returns-in-Strided
returns-in-Strided c =
    rw (c.in-Strided.is)
    (blocks_made c.blocks_within.result c.args.len c.in-Strided.blocks c.in-Strided.start c.in-Strided.end c.in-Strided.stride
    c.low_32.result c.low_32-in-Strided.result c.low_32-in-Strided-2.result c.low_32-in-Strided-3.result
    c.low_32.ensures c.low_32-in-Strided.ensures c.low_32-in-Strided-2.ensures c.low_32-in-Strided-3.ensures c.blocks_within.ensures)

pub returns-in_ok-pairs-in-Ranges : goal.returns-in_ok-pairs-in-Ranges
returns-in_ok-pairs-in-Ranges c =
    let are = rw (c.as_slice.ensures) at c.in_ok-pairs-in-Ranges.ensures in
    rw (c.in-Ranges.is) (ranges_made c.pairs_within.result c.args.len c.in-Ranges.pairs c.in_ok-pairs-in-Ranges.pairs are c.pairs_within.ensures)
