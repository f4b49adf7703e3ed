use Rattle.fx_check.proofs.Standings.{lines_are, created_are, attached_are}
use Rattle.fx_check.proofs.laws.a_body_is_its_statements.Goals as goal

pub returns-clause-lines : goal.returns-clause-lines
returns-clause-lines c = lines_are

pub returns-clause-created : goal.returns-clause-created
returns-clause-created c = created_are

pub returns-clause-attached : goal.returns-clause-attached
returns-clause-attached c = attached_are
