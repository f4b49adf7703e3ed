use Rattle.std.proofs.Common.{bit_or}
use Rattle.fx_base.proofs.Bits.{or_is_union, members_below}
use Rattle.fx_base.proofs.procset.ProcSet.union.Goals as goal

pub returns-clause-union : goal.returns-clause-union
returns-clause-union c = rw (← c.self.view_is, ← c.other.view_is) (or_is_union c.self.inside.bits c.other.inside.bits)

pub returns-clause-below : goal.returns-clause-below
returns-clause-below c = members_below (bit_or c.self.inside.bits c.other.inside.bits)
