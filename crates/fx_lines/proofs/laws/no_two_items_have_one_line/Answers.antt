use Rattle.fx_lines.proofs.Items.{one_line_each}
use Rattle.fx_lines.proofs.laws.no_two_items_have_one_line.Goals as goal

pub returns : goal.returns
returns c = one_line_each
