use Rattle.fx_store.proofs.Spellings as law
use Rattle.fx_store.proofs.laws.no_spelling_begins_another.Goals as goal

pub returns : goal.returns
returns c = law.no_front
