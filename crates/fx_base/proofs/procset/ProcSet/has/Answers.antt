use Rattle.std.proofs.Common.{sym}
use Rattle.std.proofs.lemmas.Nat.Bits.{shr_and_one}
use Rattle.fx_base.specs.Sets.{has_bit}
use Rattle.fx_base.specs.SetFields.{in_set}
use Rattle.fx_base.proofs.Bits.{members_below}
use Rattle.fx_base.proofs.procset.ProcSet.has.Goals as goal

pub returns-clause-member : goal.returns-clause-member
returns-clause-member c = rw (← c.self.view_is, shr_and_one c.self.inside.bits c.args.n) (sym (in_set (has_bit c.self.inside.bits) 32 c.args.n c.requires))

pub returns-clause-below : goal.returns-clause-below
returns-clause-below c = rw (← c.self.view_is) (members_below c.self.inside.bits)
