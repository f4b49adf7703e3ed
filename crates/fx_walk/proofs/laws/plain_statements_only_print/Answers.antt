use Rattle.fx_walk.proofs.Plain.{only_prints}
use Rattle.fx_walk.proofs.laws.plain_statements_only_print.Goals as goal

pub returns : goal.returns
returns c = only_prints
