use Rattle.fx_script.proofs.Sound.{text_is_lines, are_text_lines}
use Rattle.fx_script.proofs.laws.a_text_is_its_lines.Goals as goal

pub returns-clause-whole : goal.returns-clause-whole
returns-clause-whole c = text_is_lines

pub returns-clause-cut : goal.returns-clause-cut
returns-clause-cut c = are_text_lines
