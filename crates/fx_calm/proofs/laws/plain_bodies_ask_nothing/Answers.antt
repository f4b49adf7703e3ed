use Rattle.fx_calm.proofs.Legality as law
use Rattle.fx_calm.proofs.laws.plain_bodies_ask_nothing.Goals as goal

pub returns : goal.returns
returns c = law.plain_asks_nothing
