-- A commit barrier of three ranks is struck by a loss; no spare is left, and the two others close it in the next epoch.
use Rattle.std.specs.Prelude.{◌≡◌, refl, pos, List, [], ◌∷◌, codes}
use Rattle.fx_base.specs.Sets.{those_below}
use Rattle.fx_base.specs.declared.names.How.TheVariants as how
use Rattle.fx_base.specs.declared.names.Role.TheVariants as role
use Rattle.fx_check.specs.Facts.{Facts}
use Rattle.fx_check.specs.Work.{bound_with}
use Rattle.fx_comm.specs.Seats.{Seat, seat, seats_from}
use Rattle.fx_item.specs.declared.answer.Answer.TheVariants as answer
use Rattle.fx_item.specs.declared.answer.Refusable.TheVariants as refusable
use Rattle.fx_item.specs.declared.item.Item.{Item}
use Rattle.fx_link.specs.declared.slot.Slot.TheVariants as slot
use Rattle.fx_fleet.specs.Rounds.{Moment, Kill, Run}
use Rattle.fx_walk.specs.Walk.{Meaning}
use Rattle.fx_machine.specs.Setup.{Setup}
use Rattle.fx_fleet.specs.Rounds.{journal}
use Rattle.fx_fleet.specs.Runs.{rest_bound}
use Rattle.fx_fleet.proofs.Bodies.{array, attached, facts, groups, members, commit_barriers, restores, row_setup}
use Rattle.fx_fleet.proofs.Words.{full, depleted, kill, join, repaired, init, attach, refused, group, close, created, closed, failed, ended}

abbrev first_comm : List Seat
first_comm = seat 0 0 ∷ seat 1 1 ∷ seat 2 2 ∷ []

abbrev second_comm : List Seat
second_comm = seat 0 0 ∷ seat 2 2 ∷ []

abbrev pub known : Facts
known = facts (array (codes "a") (pos 1) ∷ []) (attached (pos 0) (pos 0) (codes "a") ∷ [])

abbrev pub body : List Meaning
body =
    groups known (pos 0) (pos 5) (pos 0) ∷ members known (pos 0) (pos 0) (codes "a") ∷ restores known (pos 0) (pos 0) (pos 5) ∷ commit_barriers known (pos 0) ∷ []

abbrev pub setup : Setup
setup = row_setup 3 0 known body

abbrev pub events : List Moment
events = (Run 3 ∷ Kill 1 ∷ [])

abbrev pub items : List Item
items =
    join 0 1 slot.Start
    ∷ join 1 1 slot.Start
    ∷ join 2 1 slot.Start
    ∷ repaired 2 1 3 full first_comm
    ∷ init 2 1 role.Initial 2 2 3 full
    ∷ group 2 1 1 0
    ∷ repaired 0 1 3 full first_comm
    ∷ init 0 1 role.Initial 0 0 3 full
    ∷ group 0 1 1 0
    ∷ repaired 1 1 3 full first_comm
    ∷ init 1 1 role.Initial 1 1 3 full
    ∷ group 1 1 1 0
    ∷ kill 1
    ∷ created 2 1 1 0 how.Fresh []
    ∷ attach 2 1 0 0
    ∷ refused 2 1 refusable.Restore 0 0 (pos 5) answer.NoStamp
    ∷ close 2 1 2 0
    ∷ created 0 1 1 0 how.Fresh []
    ∷ attach 0 1 0 0
    ∷ refused 0 1 refusable.Restore 0 0 (pos 5) answer.NoStamp
    ∷ close 0 1 2 0
    ∷ failed 2 1 2 1
    ∷ join 2 2 slot.Error
    ∷ failed 0 1 2 1
    ∷ join 0 2 slot.Error
    ∷ repaired 2 2 2 depleted second_comm
    ∷ init 2 2 role.Survivor 2 1 2 depleted
    ∷ group 2 2 1 0
    ∷ repaired 0 2 2 depleted second_comm
    ∷ init 0 2 role.Survivor 0 0 2 depleted
    ∷ group 0 2 1 0
    ∷ created 2 2 1 0 how.Kept []
    ∷ attach 2 2 0 0
    ∷ refused 2 2 refusable.Restore 0 0 (pos 5) answer.NoStamp
    ∷ close 2 2 2 0
    ∷ created 0 2 1 0 how.Kept []
    ∷ attach 0 2 0 0
    ∷ refused 0 2 refusable.Restore 0 0 (pos 5) answer.NoStamp
    ∷ close 0 2 2 0
    ∷ closed 2 2 2 0 (pos 5)
    ∷ join 2 3 slot.Final
    ∷ closed 0 2 2 0 (pos 5)
    ∷ join 0 3 slot.Final
    ∷ ended 2
    ∷ ended 0
    ∷ []

pub row : journal setup (rest_bound 3 4) (bound_with 3 4) events ≡ items
unfolding those_below seats_from
row = refl
