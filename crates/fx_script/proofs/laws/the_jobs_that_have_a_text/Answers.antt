use Rattle.fx_script.proofs.HasTexts.{written_if_has_text, has_text_if_written}
use Rattle.fx_script.proofs.laws.the_jobs_that_have_a_text.Goals as goal

pub returns : goal.returns
returns c = λ job. (written_if_has_text job, has_text_if_written job)
