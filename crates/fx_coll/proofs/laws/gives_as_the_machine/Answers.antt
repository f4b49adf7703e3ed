use Rattle.fx_coll.proofs.Machine as laws
use Rattle.fx_coll.proofs.laws.gives_as_the_machine.Goals as goal

pub returns : goal.returns
returns c = laws.gives
