use Rattle.fx_lines.proofs.Printing.{forms_by_kind}
use Rattle.fx_lines.proofs.laws.which_items_are_writable.Goals as goal

pub returns : goal.returns
returns c = forms_by_kind
