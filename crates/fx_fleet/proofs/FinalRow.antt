-- One of two ranks is lost before its repair, and the other is at the end of its body: it goes back with its array as it left it, the spare
-- takes the lost one's identity with zeros, and the job ends once both are at the end.
use Rattle.std.specs.Prelude.{◌≡◌, refl, pos, ◌+◌, List, [], ◌∷◌, codes}
use Rattle.fx_base.specs.Sets.{those_below}
use Rattle.fx_base.specs.declared.names.Role.TheVariants as role
use Rattle.fx_check.specs.Facts.{Facts}
use Rattle.fx_check.specs.Work.{bound_with}
use Rattle.fx_comm.specs.Seats.{Seat, seat, seats_from}
use Rattle.fx_item.specs.declared.item.Item.{Item}
use Rattle.fx_link.specs.declared.slot.Slot.TheVariants as slot
use Rattle.fx_fleet.specs.Rounds.{Moment, Kill, Run}
use Rattle.fx_walk.specs.Walk.{Meaning}
use Rattle.fx_machine.specs.Setup.{Setup}
use Rattle.fx_fleet.specs.Rounds.{journal}
use Rattle.fx_fleet.specs.Runs.{rest_bound}
use Rattle.fx_fleet.proofs.Bodies.{array, facts, lets, prints, registers, row_setup, with_callback}
use Rattle.fx_fleet.proofs.Words.{full, kill, join, repaired, callback, init, print, ended}

abbrev first_comm : List Seat
first_comm = seat 0 0 ∷ seat 1 1 ∷ []

abbrev second_comm : List Seat
second_comm = seat 0 2 ∷ seat 1 1 ∷ []

abbrev pub known : Facts
known = facts (array (codes "a") (pos 1) ∷ []) []

-- each element becomes the rank and one
abbrev pub body : List Meaning
body =
    registers known (codes "n") ∷ prints known (codes "a") ∷ lets known (codes "a") (λ x. pos (x.view.rank + 1)) ∷ []

abbrev pub setup : Setup
setup = with_callback known (codes "n") [] (row_setup 2 1 known body)

abbrev pub events : List Moment
events = (Run 1 ∷ Kill 0 ∷ [])

abbrev pub items : List Item
items =
    join 0 1 slot.Start
    ∷ join 1 1 slot.Start
    ∷ join 2 1 slot.Start
    ∷ kill 0
    ∷ repaired 2 1 2 full first_comm
    ∷ join 2 2 slot.Spare
    ∷ repaired 1 1 2 full first_comm
    ∷ init 1 1 role.Initial 1 1 2 full
    ∷ print 1 1 (codes "a") ((pos 0) ∷ [])
    ∷ join 1 2 slot.Final
    ∷ repaired 2 2 2 full second_comm
    ∷ init 2 2 role.Recovered 0 0 2 full
    ∷ print 2 2 (codes "a") ((pos 0) ∷ [])
    ∷ join 2 3 slot.Final
    ∷ repaired 1 2 2 full second_comm
    ∷ callback 1 2 (codes "n")
    ∷ init 1 2 role.Survivor 1 1 2 full
    ∷ print 1 2 (codes "a") ((pos 2) ∷ [])
    ∷ join 1 3 slot.Final
    ∷ ended 2
    ∷ ended 1
    ∷ []

pub row : journal setup (rest_bound 3 3) (bound_with 3 3) events ≡ items
unfolding those_below seats_from
row = refl
