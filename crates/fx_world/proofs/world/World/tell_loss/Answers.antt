use Rattle.std.proofs.Common.{sym, ◌∙◌}
use Rattle.fx_world.proofs.world.World.tell_loss.Goals as goal

pub learn-requires-clause-may : goal.learn-requires-clause-may
learn-requires-clause-may g c = λ job w is. sym (c.may_learn.ensures job w is) ∙ c.if-may_learn.true
