use Rattle.fx_comm.specs.Seats.{spares_of}
use Rattle.fx_comm.proofs.Repairs.{keeps}
use Rattle.fx_comm.proofs.laws.a_present_member_keeps_its_identity.Goals as goal

pub returns : goal.returns
returns c = λ old is_present member is_seated here. keeps is_present old (spares_of old is_present) member is_seated here
