use Rattle.fx_check.specs.Facts.{facts_of}
use Rattle.fx_flow.proofs.Asks.{store_asks}
use Rattle.fx_flow.proofs.operands.storing.Goals as goal

pub returns : goal.returns
returns c = λ spot.
    rw (c.member_slot.ensures)
    (store_asks (facts_of c.args.job.now) spot c.args.group.now c.args.member.now c.args.subset.now c.group_id.result c.member_id.result c.in_ok-selection.selection
    c.group_id.ensures c.member_id.ensures c.in_ok-selection.ensures)
