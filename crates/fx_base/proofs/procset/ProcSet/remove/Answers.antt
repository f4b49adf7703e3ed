use Rattle.fx_base.proofs.Bits.{and_is_remove}
use Rattle.fx_base.proofs.procset.ProcSet.remove.Goals as goal

pub returns : goal.returns
returns c = rw (← c.self.view_is) (and_is_remove c.self.inside.bits c.args.n c.requires)
