use Rattle.fx_script.proofs.Closing.{lines_go_on}
use Rattle.fx_script.proofs.laws.the_lines_in_front_of_a_refused_one_go_on.Goals as goal

pub returns : goal.returns
returns c = lines_go_on
