use Rattle.fx_base.proofs.Bits.{ones_is_len, members_below}
use Rattle.fx_base.proofs.procset.ProcSet.count.Goals as goal

pub returns-clause-members : goal.returns-clause-members
returns-clause-members c = rw (← c.self.view_is) (ones_is_len c.self.inside.bits c.self.invariant)

pub returns-clause-below : goal.returns-clause-below
returns-clause-below c = rw (← c.self.view_is) (members_below c.self.inside.bits)
