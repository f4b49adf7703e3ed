use Rattle.fx_calm.proofs.Legality as law
use Rattle.fx_calm.proofs.laws.calm_journals_show_all_ends.Goals as goal

pub returns : goal.returns
returns c = record { once_over = law.shows_all_ends; only_then = law.shows_true_ends }
