use Rattle.fx_ballot.proofs.Alike as laws
use Rattle.fx_agree.proofs.laws.quiet_turns.Goals as goal

pub returns : goal.returns
returns c = laws.quiet_turns
