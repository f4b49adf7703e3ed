use Rattle.fx_store.proofs.Spellings as law
use Rattle.fx_store.proofs.laws.reading_is_spelling.Goals as goal

pub returns : goal.returns
returns c = record { again = law.read_again; found = law.read_is; none = law.none_is; nothing_else = law.is_none }
