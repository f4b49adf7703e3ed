use Rattle.fx_flow.proofs.Asks.{drop_asks}
use Rattle.fx_flow.proofs.operands.deletion.Goals as goal

pub returns : goal.returns
returns c = λ f spot is. rw (c.in_ok-stamp.ensures, ← is) (drop_asks f spot c.args.group.now c.args.stamp.now c.group_id.result c.group_id.ensures)
