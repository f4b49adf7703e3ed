use Rattle.fx_check.specs.Facts.{facts_of}
use Rattle.fx_flow.proofs.Asks.{restore_asks}
use Rattle.fx_flow.proofs.operands.restoring.Goals as goal

pub returns : goal.returns
returns c = λ spot.
    rw (c.member_slot.ensures, c.in_ok-stamp.ensures, c.names.ensures)
    (restore_asks (facts_of c.args.job.now) spot c.args.group.now c.args.member.now c.args.stamp.now c.group_id.result c.member_id.result c.group_id.ensures c.member_id.ensures)
