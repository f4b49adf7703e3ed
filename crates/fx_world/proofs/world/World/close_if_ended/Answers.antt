use Rattle.fx_world.specs.contracts.world.World.{the_view}
use Rattle.fx_world.proofs.Singles.{closed_table}
use Rattle.fx_world.proofs.world.World.close_if_ended.Goals as goal

pub invariant_of-self : goal.invariant_of-self
invariant_of-self c = rw c.close_to.ensures (closed_table (the_view c.self.inside) c.self.invariant c.args.p.0)
