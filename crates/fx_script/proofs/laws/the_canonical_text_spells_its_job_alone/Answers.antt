use Rattle.fx_script.proofs.CanonAlone.{canonical_alone}
use Rattle.fx_script.proofs.laws.the_canonical_text_spells_its_job_alone.Goals as goal

pub returns : goal.returns
returns c = canonical_alone
