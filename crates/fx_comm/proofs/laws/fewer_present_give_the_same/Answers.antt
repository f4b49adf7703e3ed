use Rattle.fx_comm.proofs.Fewer.{repaired_fewer}
use Rattle.fx_comm.proofs.laws.fewer_present_give_the_same.Goals as goal

pub returns : goal.returns
returns c = λ old is_present is_among less all. repaired_fewer is_among is_present less old all
