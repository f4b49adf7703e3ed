use Rattle.fx_calm.proofs.Legality as law
use Rattle.fx_calm.proofs.laws.calm_ballots_hear_all.Goals as goal

pub returns : goal.returns
returns c = λ job asks calm fuel bound. law.holds_all_votes job _ _ (law.calmly job asks calm fuel bound).tied
