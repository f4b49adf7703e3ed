use Rattle.fx_losses.proofs.Over as law
use Rattle.fx_losses.proofs.laws.still_worlds_are_over.Goals as goal

pub returns : goal.returns
returns c = law.is_over
