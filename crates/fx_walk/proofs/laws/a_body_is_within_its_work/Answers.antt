use Rattle.fx_walk.proofs.Lengths.{is_within_its_work}
use Rattle.fx_walk.proofs.laws.a_body_is_within_its_work.Goals as goal

pub returns : goal.returns
returns c = is_within_its_work
