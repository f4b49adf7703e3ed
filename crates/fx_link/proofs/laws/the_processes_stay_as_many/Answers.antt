use Rattle.std.proofs.Common.{refl, true, false}
use Rattle.std.proofs.lemmas.List.{length-set, length-replicate}
use Rattle.fx_link.proofs.LinkFacts.{sent_processes}
use Rattle.fx_link.proofs.laws.the_processes_stay_as_many.Goals as goal

pub returns-clause-new : goal.returns-clause-new
returns-clause-new c = λ procs. length-replicate procs false

pub returns-clause-closed : goal.returns-clause-closed
returns-clause-closed c = λ links to. length-set links.closed to true

pub returns-clause-sent : goal.returns-clause-sent
returns-clause-sent c = sent_processes

pub returns-clause-taken : goal.returns-clause-taken
returns-clause-taken c = λ links from to. refl

pub returns-clause-emptied : goal.returns-clause-emptied
returns-clause-emptied c = λ links from to. refl
