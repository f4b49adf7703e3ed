use Rattle.fx_script.proofs.Refusals.{refused_too}
use Rattle.fx_script.proofs.laws.no_text_goes_on_behind_a_refused_word.Goals as goal

pub returns : goal.returns
returns c = refused_too
