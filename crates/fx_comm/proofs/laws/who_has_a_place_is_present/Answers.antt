use Rattle.fx_comm.proofs.Repairs.{repaired_present}
use Rattle.fx_comm.proofs.laws.who_has_a_place_is_present.Goals as goal

pub returns : goal.returns
returns c = λ old is_present. repaired_present is_present old
