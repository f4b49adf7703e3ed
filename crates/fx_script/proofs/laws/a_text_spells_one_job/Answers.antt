use Rattle.fx_script.proofs.Spelled.{one_job}
use Rattle.fx_script.proofs.laws.a_text_spells_one_job.Goals as goal

pub returns : goal.returns
returns c = one_job
