use Rattle.fx_script.proofs.Completing.{words_go_on}
use Rattle.fx_script.proofs.laws.a_text_goes_on_up_to_a_refused_word.Goals as goal

pub returns : goal.returns
returns c = words_go_on
