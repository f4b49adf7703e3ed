-- Two ranks come to a barrier, and end.
use Rattle.std.specs.Prelude.{◌≡◌, refl, List, [], ◌∷◌}
use Rattle.fx_base.specs.Sets.{those_below}
use Rattle.fx_base.specs.declared.names.Role.TheVariants as role
use Rattle.fx_check.specs.Facts.{Facts}
use Rattle.fx_check.specs.Work.{bound_with}
use Rattle.fx_comm.specs.Seats.{Seat, seat, seats_from}
use Rattle.fx_item.specs.declared.item.Item.{Item}
use Rattle.fx_link.specs.declared.slot.Slot.TheVariants as slot
use Rattle.fx_fleet.specs.Rounds.{Moment}
use Rattle.fx_walk.specs.Walk.{Meaning}
use Rattle.fx_machine.specs.Setup.{Setup}
use Rattle.fx_fleet.specs.Rounds.{journal}
use Rattle.fx_fleet.specs.Runs.{rest_bound}
use Rattle.fx_fleet.proofs.Bodies.{facts, barriers, row_setup}
use Rattle.fx_fleet.proofs.Words.{full, join, repaired, init, barrier, passed, ended}

abbrev first_comm : List Seat
first_comm = seat 0 0 ∷ seat 1 1 ∷ []

abbrev pub known : Facts
known = facts [] []

abbrev pub body : List Meaning
body =
    barriers known ∷ []

abbrev pub setup : Setup
setup = row_setup 2 0 known body

abbrev pub events : List Moment
events = []

abbrev pub items : List Item
items =
    join 0 1 slot.Start
    ∷ join 1 1 slot.Start
    ∷ repaired 1 1 2 full first_comm
    ∷ init 1 1 role.Initial 1 1 2 full
    ∷ barrier 1 1 1
    ∷ repaired 0 1 2 full first_comm
    ∷ init 0 1 role.Initial 0 0 2 full
    ∷ barrier 0 1 1
    ∷ passed 0 1 1
    ∷ join 0 2 slot.Final
    ∷ passed 1 1 1
    ∷ join 1 2 slot.Final
    ∷ ended 1
    ∷ ended 0
    ∷ []

pub row : journal setup (rest_bound 2 1) (bound_with 2 1) events ≡ items
unfolding those_below seats_from
row = refl
