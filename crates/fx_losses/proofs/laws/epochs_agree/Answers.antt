use Rattle.fx_losses.proofs.Worlds as world
use Rattle.fx_losses.proofs.laws.epochs_agree.Goals as goal

pub returns : goal.returns
returns c = world.epochs_agree
