use Rattle.fx_lines.proofs.Refusals.{no_item, one_to_seven, refused_so, refused_where}
use Rattle.fx_lines.proofs.laws.a_line_is_refused_for_its_first_fault.Goals as goal

pub returns-clause-no_item : goal.returns-clause-no_item
returns-clause-no_item c = no_item

pub returns-clause-first : goal.returns-clause-first
returns-clause-first c = λ line fault. (refused_so line fault, refused_where line fault)

pub returns-clause-field : goal.returns-clause-field
returns-clause-field c = one_to_seven
