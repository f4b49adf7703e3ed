use Rattle.fx_text.proofs.NumberLemmas.{number_again}
use Rattle.fx_text.proofs.laws.written_numbers_are_read.Goals as goal

pub returns : goal.returns
returns c = number_again
