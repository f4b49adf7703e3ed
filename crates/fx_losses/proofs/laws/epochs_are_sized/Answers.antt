use Rattle.fx_losses.proofs.Sizes as sizes
use Rattle.fx_losses.proofs.laws.epochs_are_sized.Goals as goal

pub returns : goal.returns
returns c = sizes.are_sized
