use Rattle.fx_deeds.proofs.Facts as law
use Rattle.fx_deeds.proofs.laws.losses_are_true.Goals as goal

pub returns : goal.returns
returns c = record { own = law.know_themselves; killed = law.told_of_killed }
