use Rattle.fx_base.proofs.Bits.{or_is_insert}
use Rattle.fx_base.proofs.procset.ProcSet.insert.Goals as goal

pub returns : goal.returns
returns c = rw (← c.self.view_is) (or_is_insert c.self.inside.bits c.args.n c.requires)
