use Rattle.fx_store.proofs.Sounds as law
use Rattle.fx_store.proofs.laws.stamps_rise.Goals as goal

pub returns : goal.returns
returns c = law.all_rise
