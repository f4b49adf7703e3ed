-- An agreement of two ranks fails, since one of them is lost; the other agrees with itself.
use Rattle.std.specs.Prelude.{◌≡◌, refl, pos, List, [], ◌∷◌, codes}
use Rattle.fx_base.specs.Sets.{those_below}
use Rattle.fx_base.specs.declared.names.Role.TheVariants as role
use Rattle.fx_check.specs.Facts.{Facts}
use Rattle.fx_check.specs.Work.{bound_with}
use Rattle.fx_comm.specs.Seats.{Seat, seat, seats_from}
use Rattle.fx_item.specs.declared.item.Item.{Item}
use Rattle.fx_link.specs.declared.slot.Slot.TheVariants as slot
use Rattle.fx_fleet.specs.Rounds.{Moment, Rest, Deliver, Kill}
use Rattle.fx_walk.specs.Walk.{Meaning}
use Rattle.fx_machine.specs.Setup.{Setup}
use Rattle.fx_fleet.specs.Rounds.{journal}
use Rattle.fx_fleet.specs.Runs.{rest_bound}
use Rattle.fx_fleet.proofs.Bodies.{array, counter, facts, prints, agrees, row_setup}
use Rattle.fx_fleet.proofs.Words.{full, depleted, kill, join, repaired, init, print, agree, value, failed, ended}

abbrev first_comm : List Seat
first_comm = seat 0 0 ∷ seat 1 1 ∷ []

abbrev second_comm : List Seat
second_comm = seat 1 1 ∷ []

abbrev pub known : Facts
known = facts (array (codes "a") (pos 1) ∷ counter (codes "c") ∷ []) []

abbrev pub body : List Meaning
body =
    agrees known (codes "c") (codes "a") (pos 0) ∷ prints known (codes "c") ∷ []

abbrev pub setup : Setup
setup = row_setup 2 0 known body

abbrev pub events : List Moment
events = (Rest 0 ∷ Rest 1 ∷ Deliver 0 1 ∷ Deliver 1 0 ∷ Rest 0 ∷ Rest 1 ∷ Kill 0 ∷ [])

abbrev pub items : List Item
items =
    join 0 1 slot.Start
    ∷ join 1 1 slot.Start
    ∷ kill 0
    ∷ repaired 1 1 2 full first_comm
    ∷ init 1 1 role.Initial 1 1 2 full
    ∷ agree 1 1 1 (pos 0)
    ∷ failed 1 1 1 0
    ∷ join 1 2 slot.Error
    ∷ repaired 1 2 1 depleted second_comm
    ∷ init 1 2 role.Survivor 1 0 1 depleted
    ∷ agree 1 2 1 (pos 0)
    ∷ value 1 2 1 (pos 0)
    ∷ print 1 2 (codes "c") ((pos 0) ∷ [])
    ∷ join 1 3 slot.Final
    ∷ ended 1
    ∷ []

pub row : journal setup (rest_bound 2 2) (bound_with 2 2) events ≡ items
unfolding those_below seats_from
row = refl
