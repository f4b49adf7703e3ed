use Rattle.fx_base.proofs.Bits.{and_not_is_difference, members_below}
use Rattle.fx_base.proofs.procset.ProcSet.difference.Goals as goal

pub returns-clause-difference : goal.returns-clause-difference
returns-clause-difference c =
    rw (← c.self.view_is, ← c.other.view_is) (and_not_is_difference c.self.inside.bits c.other.inside.bits c.other.invariant)

pub returns-clause-below : goal.returns-clause-below
returns-clause-below c = rw (← c.self.view_is) (members_below c.self.inside.bits)
