use Rattle.fx_node.proofs.Testing.{no_slot}
use Rattle.fx_node.proofs.node.is_final_at.Goals as goal

pub returns-in-None : goal.returns-in-None
returns-in-None c = no_slot c.args.slots.now c.from.result c.args.seat c.in-None.ensures c.from.ensures
