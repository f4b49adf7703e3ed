-- A rank is lost behind a commit barrier, and the spare makes its snapshots again by the help of its keeper.
use Rattle.std.specs.Prelude.{◌≡◌, refl, pos, List, [], ◌∷◌, codes}
use Rattle.fx_base.specs.Sets.{those_below}
use Rattle.fx_base.specs.declared.names.How.TheVariants as how
use Rattle.fx_base.specs.declared.names.Role.TheVariants as role
use Rattle.fx_check.specs.Facts.{Facts}
use Rattle.fx_check.specs.Work.{bound_with}
use Rattle.fx_comm.specs.Seats.{Seat, seat, seats_from}
use Rattle.fx_item.specs.declared.answer.Answer.TheVariants as answer
use Rattle.fx_item.specs.declared.answer.Refusable.TheVariants as refusable
use Rattle.fx_item.specs.declared.item.Item.{Item}
use Rattle.fx_link.specs.declared.slot.Slot.TheVariants as slot
use Rattle.fx_fleet.specs.Rounds.{Moment, Kill, Run}
use Rattle.fx_store.specs.Packed.{elements_in, run_in, runs_in, section_in, sections_in, text_in}
use Rattle.fx_walk.specs.Walk.{Meaning}
use Rattle.fx_machine.specs.Setup.{Setup}
use Rattle.fx_fleet.specs.Rounds.{journal}
use Rattle.fx_fleet.specs.Runs.{rest_bound}
use Rattle.fx_fleet.proofs.Bodies.{array, attached, facts, barriers, groups, members, commit_barriers, restores, row_setup}
use Rattle.fx_fleet.proofs.Words.{full, kill, join, repaired, init, attach, refused, barrier, group, close, passed, created, closed, failed, ended}

abbrev first_comm : List Seat
first_comm = seat 0 0 ∷ seat 1 1 ∷ []

abbrev second_comm : List Seat
second_comm = seat 0 2 ∷ seat 1 1 ∷ []

abbrev pub known : Facts
known = facts (array (codes "a") (pos 1) ∷ []) (attached (pos 0) (pos 0) (codes "a") ∷ [])

abbrev pub body : List Meaning
body =
    groups known (pos 0) (pos 5) (pos 1) ∷ commit_barriers known (pos 0) ∷ members known (pos 0) (pos 0) (codes "a")
    ∷ restores known (pos 0) (pos 0) (pos 5) ∷ barriers known ∷ []

abbrev pub setup : Setup
setup = row_setup 2 1 known body

abbrev pub events : List Moment
events = (Run 5 ∷ Kill 0 ∷ [])

abbrev pub items : List Item
items =
    join 0 1 slot.Start
    ∷ join 1 1 slot.Start
    ∷ join 2 1 slot.Start
    ∷ repaired 2 1 2 full first_comm
    ∷ repaired 0 1 2 full first_comm
    ∷ init 0 1 role.Initial 0 0 2 full
    ∷ group 0 1 1 0
    ∷ repaired 1 1 2 full first_comm
    ∷ init 1 1 role.Initial 1 1 2 full
    ∷ group 1 1 1 0
    ∷ created 1 1 1 0 how.Fresh []
    ∷ close 1 1 2 0
    ∷ created 0 1 1 0 how.Fresh []
    ∷ close 0 1 2 0
    ∷ kill 0
    ∷ closed 1 1 2 0 (pos 5)
    ∷ attach 1 1 0 0
    ∷ refused 1 1 refusable.Restore 0 0 (pos 5) answer.NotStored
    ∷ barrier 1 1 3
    ∷ failed 1 1 3 0
    ∷ join 1 2 slot.Error
    ∷ join 2 2 slot.Spare
    ∷ repaired 2 2 2 full second_comm
    ∷ init 2 2 role.Recovered 0 0 2 full
    ∷ group 2 2 1 0
    ∷ repaired 1 2 2 full second_comm
    ∷ init 1 2 role.Survivor 1 1 2 full
    ∷ group 1 2 1 0
    ∷ created 1 2 1 0 how.Kept ((pos 5) ∷ [])
    ∷ close 1 2 2 0
    ∷ created 2 2 1 0 how.Kept ((pos 5) ∷ [])
    ∷ close 2 2 2 0
    ∷ closed 1 2 2 0 (pos 6)
    ∷ attach 1 2 0 0
    ∷ refused 1 2 refusable.Restore 0 0 (pos 5) answer.NotStored
    ∷ barrier 1 2 3
    ∷ closed 2 2 2 0 (pos 6)
    ∷ attach 2 2 0 0
    ∷ refused 2 2 refusable.Restore 0 0 (pos 5) answer.NotStored
    ∷ barrier 2 2 3
    ∷ passed 2 2 3
    ∷ join 2 3 slot.Final
    ∷ passed 1 2 3
    ∷ join 1 3 slot.Final
    ∷ ended 2
    ∷ ended 1
    ∷ []

pub row : journal setup (rest_bound 3 5) (bound_with 3 5) events ≡ items
unfolding those_below seats_from text_in sections_in section_in runs_in run_in elements_in
row = refl
