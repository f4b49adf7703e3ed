use Rattle.fx_walk.proofs.Along.{outputs_append, rest_append, stop_append}
use Rattle.fx_walk.proofs.laws.more_replies_go_on.Goals as goal

pub returns-clause-shows : goal.returns-clause-shows
returns-clause-shows c = outputs_append

pub returns-clause-stops : goal.returns-clause-stops
returns-clause-stops c = stop_append

pub returns-clause-leaves : goal.returns-clause-leaves
returns-clause-leaves c = rest_append
