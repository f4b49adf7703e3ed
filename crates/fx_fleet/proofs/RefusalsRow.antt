-- One rank alone: each statement on a group that is refused, and why.
use Rattle.std.specs.Prelude.{◌≡◌, refl, pos, List, [], ◌∷◌, codes}
use Rattle.fx_base.specs.Sets.{those_below}
use Rattle.fx_base.specs.declared.names.How.TheVariants as how
use Rattle.fx_base.specs.declared.names.Role.TheVariants as role
use Rattle.fx_check.specs.Facts.{Facts}
use Rattle.fx_check.specs.Work.{bound_with}
use Rattle.fx_comm.specs.Seats.{Seat, seat, seats_from}
use Rattle.fx_item.specs.declared.answer.Answer.TheVariants as answer
use Rattle.fx_item.specs.declared.answer.Refusable.TheVariants as refusable
use Rattle.fx_item.specs.declared.item.Item.{Item}
use Rattle.fx_link.specs.declared.slot.Slot.TheVariants as slot
use Rattle.fx_fleet.specs.Rounds.{Moment}
use Rattle.fx_script.specs.declared.job.Picked.TheVariants as picked
use Rattle.fx_walk.specs.Walk.{Meaning}
use Rattle.fx_machine.specs.Setup.{Setup}
use Rattle.fx_fleet.specs.Rounds.{journal}
use Rattle.fx_fleet.specs.Runs.{rest_bound}
use Rattle.fx_fleet.proofs.Bodies.{array, attached, facts, groups, members, stores, commits, commit_barriers, restores, drops, row_setup}
use Rattle.fx_fleet.proofs.Words.{full, join, repaired, init, attach, commit, refused, group, close, created, closed, ended}

abbrev first_comm : List Seat
first_comm = seat 0 0 ∷ []

abbrev pub known : Facts
known = facts (array (codes "a") (pos 1) ∷ []) (attached (pos 0) (pos 0) (codes "a") ∷ [])

abbrev pub body : List Meaning
body =
    members known (pos 0) (pos 0) (codes "a") ∷ stores known (pos 0) (pos 0) picked.Full ∷ commits known (pos 0) ∷ restores known (pos 0) (pos 0) (pos 3)
    ∷ commit_barriers known (pos 0) ∷ drops (pos 0) (pos 3) ∷ groups known (pos 0) (pos 3) (pos 0) ∷ groups known (pos 0) (pos 3) (pos 0)
    ∷ stores known (pos 0) (pos 0) picked.Full ∷ restores known (pos 0) (pos 0) (pos 3) ∷ members known (pos 0) (pos 0) (codes "a") ∷ restores known (pos 0) (pos 0) (pos 3)
    ∷ commits known (pos 0) ∷ restores known (pos 0) (pos 0) (pos 3) ∷ commit_barriers known (pos 0) ∷ restores known (pos 0) (pos 0) (pos 3) ∷ drops (pos 0) (pos 5) ∷ drops (pos 0) (pos 3) ∷ restores known (pos 0) (pos 0) (pos 3) ∷ []

abbrev pub setup : Setup
setup = row_setup 1 0 known body

abbrev pub events : List Moment
events = []

abbrev pub items : List Item
items =
    join 0 1 slot.Start
    ∷ repaired 0 1 1 full first_comm
    ∷ init 0 1 role.Initial 0 0 1 full
    ∷ refused 0 1 refusable.Member 0 0 (pos 0) answer.NotCreated
    ∷ refused 0 1 refusable.Store 0 0 (pos 0) answer.NotCreated
    ∷ refused 0 1 refusable.Commit 0 0 (pos 0) answer.NotCreated
    ∷ refused 0 1 refusable.Restore 0 0 (pos 3) answer.NotCreated
    ∷ refused 0 1 refusable.CommitBarrier 0 0 (pos 0) answer.NotCreated
    ∷ refused 0 1 refusable.Drop 0 0 (pos 3) answer.NotCreated
    ∷ group 0 1 1 0
    ∷ created 0 1 1 0 how.Fresh []
    ∷ refused 0 1 refusable.Group 0 0 (pos 0) answer.AlreadyCreated
    ∷ refused 0 1 refusable.Store 0 0 (pos 0) answer.NotAttached
    ∷ refused 0 1 refusable.Restore 0 0 (pos 3) answer.NotAttached
    ∷ attach 0 1 0 0
    ∷ refused 0 1 refusable.Restore 0 0 (pos 3) answer.NoStamp
    ∷ commit 0 1 0 (pos 3)
    ∷ refused 0 1 refusable.Restore 0 0 (pos 3) answer.NoStamp
    ∷ close 0 1 2 0
    ∷ closed 0 1 2 0 (pos 4)
    ∷ refused 0 1 refusable.Restore 0 0 (pos 3) answer.NoStamp
    ∷ refused 0 1 refusable.Drop 0 0 (pos 5) answer.NoStamp
    ∷ refused 0 1 refusable.Drop 0 0 (pos 3) answer.NoStamp
    ∷ refused 0 1 refusable.Restore 0 0 (pos 3) answer.NoStamp
    ∷ join 0 2 slot.Final
    ∷ ended 0
    ∷ []

pub row : journal setup (rest_bound 1 19) (bound_with 1 19) events ≡ items
unfolding those_below seats_from
row = refl
