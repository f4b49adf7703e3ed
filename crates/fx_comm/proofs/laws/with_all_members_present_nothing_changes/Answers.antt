use Rattle.fx_comm.specs.Seats.{spares_of}
use Rattle.fx_comm.proofs.Repairs.{all_stay}
use Rattle.fx_comm.proofs.laws.with_all_members_present_nothing_changes.Goals as goal

pub returns : goal.returns
returns c = λ old is_present all. all_stay is_present old (spares_of old is_present) all
