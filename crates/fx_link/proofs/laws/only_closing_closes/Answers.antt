use Rattle.fx_link.proofs.LinkFacts.{none_closed, closed_itself, closed_other, sent_closed}
use Rattle.std.proofs.Common.{refl}
use Rattle.fx_link.proofs.laws.only_closing_closes.Goals as goal

pub returns-clause-new : goal.returns-clause-new
returns-clause-new c = none_closed

pub returns-clause-closed : goal.returns-clause-closed
returns-clause-closed c = closed_itself

pub returns-clause-others : goal.returns-clause-others
returns-clause-others c = closed_other

pub returns-clause-sent : goal.returns-clause-sent
returns-clause-sent c = sent_closed

pub returns-clause-taken : goal.returns-clause-taken
returns-clause-taken c = λ links from to who. refl

pub returns-clause-emptied : goal.returns-clause-emptied
returns-clause-emptied c = λ links from to who. refl
