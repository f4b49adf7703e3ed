use Rattle.fx_ballot.proofs.Alike as laws
use Rattle.fx_agree.proofs.laws.alike_on_seats.Goals as goal

pub returns : goal.returns
returns c = λ n name. laws.alike_on_seats n name
