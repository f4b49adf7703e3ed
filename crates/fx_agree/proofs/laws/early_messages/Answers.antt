use Rattle.fx_ballot.proofs.Alike as laws
use Rattle.fx_agree.proofs.laws.early_messages.Goals as goal

pub returns : goal.returns
returns c = λ me p. laws.early_messages me p
