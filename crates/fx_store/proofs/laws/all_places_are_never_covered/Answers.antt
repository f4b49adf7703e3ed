use Rattle.fx_store.proofs.Uncovered as law
use Rattle.fx_store.proofs.laws.all_places_are_never_covered.Goals as goal

pub returns : goal.returns
returns c = law.leaves_all_uncovered
