-- Three ranks add their numbers, and shift them by one place.
use Rattle.std.specs.Prelude.{◌≡◌, refl, pos, List, [], ◌∷◌, codes}
use Rattle.std.specs.Int.{w64, int_wrapping_add}
use Rattle.fx_base.specs.Sets.{those_below}
use Rattle.fx_base.specs.declared.names.Op.TheVariants as op
use Rattle.fx_base.specs.declared.names.Role.TheVariants as role
use Rattle.fx_check.specs.Facts.{Facts}
use Rattle.fx_check.specs.Work.{bound_with}
use Rattle.fx_comm.specs.Seats.{Seat, seat, seats_from}
use Rattle.fx_item.specs.declared.item.Item.{Item}
use Rattle.fx_link.specs.declared.slot.Slot.TheVariants as slot
use Rattle.fx_fleet.specs.Rounds.{Moment}
use Rattle.fx_walk.specs.Walk.{Meaning}
use Rattle.fx_machine.specs.Setup.{Setup}
use Rattle.fx_fleet.specs.Rounds.{journal}
use Rattle.fx_fleet.specs.Runs.{rest_bound}
use Rattle.fx_fleet.proofs.Bodies.{array, counter, facts, prints, reduces, shifts, lets, row_setup}
use Rattle.fx_fleet.proofs.Words.{full, join, repaired, init, print, reduce, shift, value, shifted, ended}

abbrev first_comm : List Seat
first_comm = seat 0 0 ∷ seat 1 1 ∷ seat 2 2 ∷ []

abbrev pub known : Facts
known = facts (array (codes "a") (pos 1) ∷ array (codes "b") (pos 1) ∷ counter (codes "c") ∷ []) []

abbrev pub body : List Meaning
body =
    lets known (codes "a") (λ x. int_wrapping_add w64 (pos x.view.rank) (pos 1)) ∷ reduces known op.Sum (codes "c") (codes "a") ∷ prints known (codes "c")
    ∷ shifts known (codes "a") (codes "b") (pos 1) ∷ prints known (codes "b") ∷ []

abbrev pub setup : Setup
setup = row_setup 3 0 known body

abbrev pub events : List Moment
events = []

abbrev pub items : List Item
items =
    join 0 1 slot.Start
    ∷ join 1 1 slot.Start
    ∷ join 2 1 slot.Start
    ∷ repaired 2 1 3 full first_comm
    ∷ init 2 1 role.Initial 2 2 3 full
    ∷ reduce 2 1 1 op.Sum (pos 3)
    ∷ repaired 0 1 3 full first_comm
    ∷ init 0 1 role.Initial 0 0 3 full
    ∷ reduce 0 1 1 op.Sum (pos 1)
    ∷ repaired 1 1 3 full first_comm
    ∷ init 1 1 role.Initial 1 1 3 full
    ∷ reduce 1 1 1 op.Sum (pos 2)
    ∷ value 1 1 1 (pos 6)
    ∷ print 1 1 (codes "c") ((pos 6) ∷ [])
    ∷ shift 1 1 2 1 ((pos 2) ∷ [])
    ∷ value 2 1 1 (pos 6)
    ∷ print 2 1 (codes "c") ((pos 6) ∷ [])
    ∷ shift 2 1 2 1 ((pos 3) ∷ [])
    ∷ value 0 1 1 (pos 6)
    ∷ print 0 1 (codes "c") ((pos 6) ∷ [])
    ∷ shift 0 1 2 1 ((pos 1) ∷ [])
    ∷ shifted 0 1 2 ((pos 3) ∷ [])
    ∷ print 0 1 (codes "b") ((pos 3) ∷ [])
    ∷ join 0 2 slot.Final
    ∷ shifted 1 1 2 ((pos 1) ∷ [])
    ∷ print 1 1 (codes "b") ((pos 1) ∷ [])
    ∷ join 1 2 slot.Final
    ∷ shifted 2 1 2 ((pos 2) ∷ [])
    ∷ print 2 1 (codes "b") ((pos 2) ∷ [])
    ∷ join 2 2 slot.Final
    ∷ ended 2
    ∷ ended 0
    ∷ ended 1
    ∷ []

pub row : journal setup (rest_bound 3 5) (bound_with 3 5) events ≡ items
unfolding those_below seats_from
row = refl
