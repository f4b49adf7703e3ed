use Rattle.fx_ballot.proofs.Wordless as laws
use Rattle.fx_agree.proofs.laws.strangers_only_leave.Goals as goal

pub returns : goal.returns
returns c = λ n name moves apart. laws.strangers_only_leave n name moves apart
