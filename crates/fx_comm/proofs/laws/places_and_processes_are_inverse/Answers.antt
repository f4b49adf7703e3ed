use Rattle.fx_comm.proofs.Places.{at_its_place, its_place}
use Rattle.fx_comm.proofs.laws.places_and_processes_are_inverse.Goals as goal

pub returns-clause-at_its_place : goal.returns-clause-at_its_place
returns-clause-at_its_place c = at_its_place

pub returns-clause-its_place : goal.returns-clause-its_place
returns-clause-its_place c = λ seats place member comm. its_place seats place member comm.apart
