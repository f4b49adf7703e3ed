use Rattle.fx_calm.proofs.Legality as law
use Rattle.fx_calm.proofs.laws.calm_runs_keep_all.Goals as goal

pub returns : goal.returns
returns c = λ job asks calm fuel bound. law.is_peaceful job _ _ (law.calmly job asks calm fuel bound).tied
