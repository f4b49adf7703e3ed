use Rattle.fx_comm.proofs.Repairs.{repaired_among, repaired_idents}
use Rattle.fx_comm.proofs.laws.no_identity_is_new.Goals as goal

pub returns-clause-among : goal.returns-clause-among
returns-clause-among c = λ old is_present. repaired_among is_present old

pub returns-clause-same_where_none_is_lost : goal.returns-clause-same_where_none_is_lost
returns-clause-same_where_none_is_lost c = λ old is_present. repaired_idents is_present old
