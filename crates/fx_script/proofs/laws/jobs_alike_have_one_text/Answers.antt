use Rattle.fx_script.proofs.Respotted.{canonical_without_spots}
use Rattle.fx_script.proofs.laws.jobs_alike_have_one_text.Goals as goal

pub returns : goal.returns
returns c = canonical_without_spots
