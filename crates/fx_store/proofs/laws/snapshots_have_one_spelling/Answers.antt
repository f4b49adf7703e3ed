use Rattle.fx_store.proofs.Spellings as law
use Rattle.fx_store.proofs.laws.snapshots_have_one_spelling.Goals as goal

pub returns : goal.returns
returns c = record { spelled = law.spelled; only = law.only_spelled; one = law.one_spelling; it = law.spelling_is }
