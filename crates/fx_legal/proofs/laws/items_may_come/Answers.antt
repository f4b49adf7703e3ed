use Rattle.fx_legal.proofs.Fronts.{item_may_come}
use Rattle.fx_legal.specs.Ledger.{first_ledger}
use Rattle.fx_legal.proofs.laws.items_may_come.Goals as goal

pub returns : goal.returns
returns c = λ job front more it goes. item_may_come job (first_ledger job) front more it goes
