use Rattle.fx_comm.proofs.Places.{has_place_in, place_below}
use Rattle.fx_comm.proofs.laws.places_are_below_the_size.Goals as goal

pub returns-clause-has : goal.returns-clause-has
returns-clause-has c = has_place_in

pub returns-clause-below : goal.returns-clause-below
returns-clause-below c = place_below
