use Rattle.fx_losses.proofs.Accepted.{kills_processes}
use Rattle.fx_losses.proofs.Legality as law
use Rattle.fx_losses.proofs.laws.each_epoch_has_its_loss.Goals as goal

pub returns : goal.returns
returns c = λ job is asks. law.has_losses job asks (kills_processes job is)
