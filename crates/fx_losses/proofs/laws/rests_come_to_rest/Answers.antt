use Rattle.fx_losses.proofs.Rests as law
use Rattle.fx_losses.proofs.laws.rests_come_to_rest.Goals as goal

pub returns : goal.returns
returns c = record { quiet = law.rests_are_quiet; more = law.more_changes_nothing }
