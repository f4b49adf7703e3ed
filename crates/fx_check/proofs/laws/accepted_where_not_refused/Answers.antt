use Rattle.fx_check.proofs.Accepting.{accepted_if_none, none_if_accepted}
use Rattle.fx_check.proofs.laws.accepted_where_not_refused.Goals as goal

pub returns : goal.returns
returns c = λ job. (none_if_accepted job, accepted_if_none job)
