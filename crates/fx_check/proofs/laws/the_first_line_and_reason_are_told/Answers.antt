use Rattle.fx_check.proofs.PartLemmas.{is_refusal, is_told}
use Rattle.fx_check.proofs.laws.the_first_line_and_reason_are_told.Goals as goal

pub returns : goal.returns
returns c = λ job refused. (is_refusal job refused, is_told job refused)
