use Rattle.fx_ballot.proofs.Runs.{past_has_sent}
use Rattle.fx_agree.proofs.laws.past_own_round_has_sent.Goals as goal

pub returns : goal.returns
returns c = λ n name moves apart. past_has_sent n name moves apart
