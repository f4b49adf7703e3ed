use Rattle.fx_base.proofs.Bits.{zero_is_empty}
use Rattle.fx_base.proofs.procset.ProcSet.new.Goals as goal

pub returns : goal.returns
returns c = zero_is_empty
