use Rattle.fx_calm.proofs.Legality as law
use Rattle.fx_calm.proofs.laws.calm_journals_are_legal.Goals as goal

pub returns : goal.returns
returns c = law.is_legal
