-- One of three ranks is lost in a barrier: one fails and leaves. The other waits for the part of the lost one, although the first left, and
-- passes; its next barrier is revoked.
use Rattle.std.specs.Prelude.{◌≡◌, refl, List, [], ◌∷◌}
use Rattle.fx_base.specs.Sets.{those_below}
use Rattle.fx_base.specs.declared.names.Role.TheVariants as role
use Rattle.fx_check.specs.Facts.{Facts}
use Rattle.fx_check.specs.Work.{bound_with}
use Rattle.fx_comm.specs.Seats.{Seat, seat, seats_from}
use Rattle.fx_item.specs.declared.item.Item.{Item}
use Rattle.fx_link.specs.declared.slot.Slot.TheVariants as slot
use Rattle.fx_fleet.specs.Rounds.{Moment, Step, Rest, Deliver, Kill, Notice, Run}
use Rattle.fx_walk.specs.Walk.{Meaning}
use Rattle.fx_machine.specs.Setup.{Setup}
use Rattle.fx_fleet.specs.Rounds.{journal}
use Rattle.fx_fleet.specs.Runs.{rest_bound}
use Rattle.fx_fleet.proofs.Bodies.{facts, barriers, row_setup}
use Rattle.fx_fleet.proofs.Words.{full, depleted, kill, join, repaired, init, barrier, passed, failed, revoked, ended}

abbrev first_comm : List Seat
first_comm = seat 0 0 ∷ seat 1 1 ∷ seat 2 2 ∷ []

abbrev second_comm : List Seat
second_comm = seat 0 0 ∷ seat 2 2 ∷ []

abbrev pub known : Facts
known = facts [] []

abbrev pub body : List Meaning
body =
    barriers known ∷ barriers known ∷ []

abbrev pub setup : Setup
setup = row_setup 3 0 known body

abbrev pub events : List Moment
events = (Step 0 ∷ Step 1 ∷ Step 2 ∷ Run 1 ∷ Deliver 2 1 ∷ Rest 1 ∷ Kill 1 ∷ Notice 1 0 ∷ Deliver 2 0 ∷ Rest 0 ∷ Deliver 0 2 ∷ Deliver 0 2 ∷ Rest 2 ∷ Deliver 1 2 ∷ Rest 2 ∷ [])

abbrev pub items : List Item
items =
    join 0 1 slot.Start
    ∷ join 1 1 slot.Start
    ∷ join 2 1 slot.Start
    ∷ repaired 2 1 3 full first_comm
    ∷ init 2 1 role.Initial 2 2 3 full
    ∷ barrier 2 1 1
    ∷ repaired 1 1 3 full first_comm
    ∷ init 1 1 role.Initial 1 1 3 full
    ∷ barrier 1 1 1
    ∷ kill 1
    ∷ repaired 0 1 3 full first_comm
    ∷ init 0 1 role.Initial 0 0 3 full
    ∷ barrier 0 1 1
    ∷ failed 0 1 1 1
    ∷ join 0 2 slot.Error
    ∷ passed 2 1 1
    ∷ barrier 2 1 2
    ∷ revoked 2 1 2 0
    ∷ join 2 2 slot.Error
    ∷ repaired 2 2 2 depleted second_comm
    ∷ init 2 2 role.Survivor 2 1 2 depleted
    ∷ barrier 2 2 1
    ∷ repaired 0 2 2 depleted second_comm
    ∷ init 0 2 role.Survivor 0 0 2 depleted
    ∷ barrier 0 2 1
    ∷ passed 0 2 1
    ∷ barrier 0 2 2
    ∷ passed 2 2 1
    ∷ barrier 2 2 2
    ∷ passed 2 2 2
    ∷ join 2 3 slot.Final
    ∷ passed 0 2 2
    ∷ join 0 3 slot.Final
    ∷ ended 2
    ∷ ended 0
    ∷ []

pub row : journal setup (rest_bound 3 2) (bound_with 3 2) events ≡ items
unfolding those_below seats_from
row = refl
