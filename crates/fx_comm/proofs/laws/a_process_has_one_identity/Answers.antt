use Rattle.fx_comm.proofs.Chains.{one_identity}
use Rattle.fx_comm.proofs.laws.a_process_has_one_identity.Goals as goal

pub returns : goal.returns
returns c = λ first present a b one other comm nobody. one_identity first present nobody a b one other comm.apart
