use Rattle.fx_text.proofs.NumberLemmas.{if_spelled}
use Rattle.fx_text.proofs.number.read_number.Goals as goal

pub returns-clause-spelled : goal.returns-clause-spelled
returns-clause-spelled c = if_spelled c.args.word.now c.read.result c.read.ensures
