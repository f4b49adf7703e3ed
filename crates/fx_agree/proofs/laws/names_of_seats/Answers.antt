use Rattle.fx_ballot.proofs.Names.{names_seats}
use Rattle.fx_agree.proofs.laws.names_of_seats.Goals as goal

pub returns : goal.returns
returns c = λ who h. names_seats who h
