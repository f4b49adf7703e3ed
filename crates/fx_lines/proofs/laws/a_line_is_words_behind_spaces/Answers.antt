use Rattle.fx_lines.proofs.Printing.{line_by_words}
use Rattle.fx_lines.proofs.laws.a_line_is_words_behind_spaces.Goals as goal

pub returns : goal.returns
returns c = line_by_words
