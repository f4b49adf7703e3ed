use Rattle.fx_legal.proofs.Fronts.{front_goes_on}
use Rattle.fx_legal.specs.Ledger.{first_ledger}
use Rattle.fx_legal.proofs.laws.fronts_are_legal.Goals as goal

pub returns : goal.returns
returns c = λ job front more goes. front_goes_on job (first_ledger job) front more goes
