use Rattle.fx_comm.proofs.Repairs.{repaired_apart}
use Rattle.fx_comm.proofs.laws.no_process_has_two_places.Goals as goal

pub returns : goal.returns
returns c = λ old is_present comm. repaired_apart is_present old comm.apart
