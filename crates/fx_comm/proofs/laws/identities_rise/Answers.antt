use Rattle.fx_comm.specs.Seats.{spares_of}
use Rattle.fx_comm.proofs.Repairs.{filled_rise}
use Rattle.fx_comm.proofs.laws.identities_rise.Goals as goal

pub returns : goal.returns
returns c = λ old is_present comm. filled_rise is_present old (spares_of old is_present) comm.rise
