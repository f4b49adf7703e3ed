use Rattle.fx_lines.proofs.Items.{read_again}
use Rattle.fx_lines.proofs.laws.what_is_printed_is_read_back.Goals as goal

pub returns : goal.returns
returns c = read_again
