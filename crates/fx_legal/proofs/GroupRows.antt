-- Rows of groups: what a creation may find.
use Rattle.std.proofs.Common.{ℕ, Bool, true, false, not, ◌||◌, ◌&&◌, ◌==◌, List, [], ◌∷◌, Some, refl, sym, arith}
use Rattle.std.specs.Prelude.{◌-◌, pos, if◌then◌else◌, nat_lt}
use Rattle.fx_base.specs.declared.names.GroupId.{GroupId}
use Rattle.fx_base.specs.declared.names.How.{How}
use Rattle.fx_base.specs.declared.names.How.TheVariants as how
use Rattle.fx_base.specs.declared.names.Stamp.{Stamp}
use Rattle.fx_comm.specs.Seats.{Seat, seat}
use Rattle.fx_item.specs.declared.item.Item.{Item}
use Rattle.fx_item.specs.declared.item.Item.TheVariants as item
use Rattle.fx_script.specs.declared.job.Job.{Job}
use Rattle.fx_walk.specs.declared.wanted.Wanted.{Wanted}
use Rattle.fx_walk.specs.declared.wanted.Wanted.TheVariants as wanted
use Rattle.fx_walk.specs.Walk.{stamp_at}
use Rattle.fx_legal.specs.Effects.{first_stay}
use Rattle.fx_legal.specs.Groups.{Group, unborn, at_key}
use Rattle.fx_legal.specs.Ledger.{Ledger, procs_of}
use Rattle.fx_legal.specs.Stands.{Stand, Spare, Walking, Killed, is_killed}
use Rattle.fx_legal.proofs.Words.{Accepts, Refuses, not_both, apart, pair, alone_pair, proc, epoch, call, group_0, group_1, walking, standing, asks, group}

-- ---- creations

abbrev creates : Wanted
creates = wanted.Group group_0 (stamp_at (pos 0)) 0

abbrev is_empty : List Stamp → Bool
is_empty [] = true
is_empty (stamp ∷ stamps) = false

-- of a new group

abbrev new_group : Ledger
new_group = walking alone_pair (λ p. asks creates)

abbrev both_create : List Item
both_create = group 0 1 1 ∷ group 1 1 1 ∷ []

abbrev found : (p e : ℕ) → How → List Stamp → Item
found p e how_it_is stamps = item.Created (proc p) (epoch e) (call 1) group_0 how_it_is stamps

fresh : Accepts alone_pair new_group both_create (found 0 1 how.Fresh [])
fresh = (omega arith, ((((refl, refl, refl), refl), (refl, (refl, tt)), tt), (refl, refl)))

-- there was nothing to keep or lose
not_kept : Refuses alone_pair new_group both_create (found 0 1 how.Kept [])
not_kept may = not_both (sym may.1.1.0)

not_lost : Refuses alone_pair new_group both_create (found 0 1 how.Lost [])
not_lost may = not_both (sym may.1.1.0)

-- the other rank hears the same
fresh_too : Accepts alone_pair new_group (group 0 1 1 ∷ group 1 1 1 ∷ found 0 1 how.Fresh [] ∷ []) (found 1 1 how.Fresh [])
fresh_too = (omega arith, ((((refl, refl, refl), refl), (refl, (refl, tt)), (refl, refl, refl)), tt))

not_fresh_with_stamps : Refuses alone_pair new_group both_create (found 0 1 how.Fresh (stamp_at (pos 5) ∷ []))
not_fresh_with_stamps may = apart is_empty [] (stamp_at (pos 5) ∷ []) refl refl (sym may.1.1.1)

-- nor is another group created than was asked
not_group_1 : Refuses alone_pair new_group both_create (item.Created (proc 0) (epoch 1) (call 1) group_1 how.Fresh [])
not_group_1 may = apart (λ (g : GroupId). g.0 == 1) group_1 group_0 refl refl may.1.0.0.0.2

not_another : Refuses alone_pair new_group (group 0 1 1 ∷ group 1 1 1 ∷ found 0 1 how.Fresh [] ∷ []) (found 1 1 how.Kept [])
not_another may = apart is_kept how.Kept how.Fresh refl refl may.1.0.2.1
  where
    is_kept : How → Bool
    is_kept how.Kept = true
    is_kept other = false

-- of a group that all ranks created in epoch 1, with stamps 5 and 6; since then some were killed, and spares have their identities

abbrev later_pair : Job
later_pair = pair (pos 2) []

abbrev five_and_six : List Stamp
five_and_six = stamp_at (pos 5) ∷ stamp_at (pos 6) ∷ []

abbrev old_group : Group
old_group = record unborn { born = Some 1; next = stamp_at (pos 7); stamps = five_and_six }

-- in epoch 2 the processes have these places, and stand so
abbrev later : Job → List Seat → (ℕ → Stand) → Ledger
later job seats stands = record (standing job stands) {
  chapters = at_key 2 (Some (record { comm = seats; present = λ p. nat_lt p (procs_of job) && not (is_killed (stands p)) })) (standing job stands).chapters;
  groups = λ g. old_group;
}

-- in epoch 2 under this identity, and asking for the group
abbrev creating : ℕ → Stand
creating ident = Walking (first_stay 2 (record { 0 = ident })) (asks creates)

-- where place 0 alone was lost the group is covered, and so it is kept, with its stamps

abbrev one_lost : Ledger
one_lost = later later_pair (seat 0 2 ∷ seat 1 1 ∷ []) stands
  where
    stands : ℕ → Stand
    stands p = if p == 0 then Killed else (if p == 1 then creating 1 else (if p == 2 then creating 0 else Spare 2))

abbrev spare_and_rank_create : List Item
spare_and_rank_create = group 2 2 1 ∷ group 1 2 1 ∷ []

kept : Accepts later_pair one_lost spare_and_rank_create (found 2 2 how.Kept five_and_six)
kept = (omega arith, ((((refl, refl, refl), refl), (refl, (refl, tt)), tt), (refl, refl)))

not_lost_if_covered : Refuses later_pair one_lost spare_and_rank_create (found 2 2 how.Lost [])
not_lost_if_covered may = not_both may.1.1.1

not_fresh_if_covered : Refuses later_pair one_lost spare_and_rank_create (found 2 2 how.Fresh [])
not_fresh_if_covered may = not_both may.1.1.0

not_without_stamps : Refuses later_pair one_lost spare_and_rank_create (found 2 2 how.Kept [])
not_without_stamps may = apart is_empty [] five_and_six refl refl may.1.1.1

-- where a place and its buddy were lost it isn't covered, and may be found anyhow

abbrev both_lost : Ledger
both_lost = later later_pair (seat 0 2 ∷ seat 1 3 ∷ []) (λ p. if nat_lt p 2 then Killed else creating (p - 2))

abbrev both_create_again : List Item
both_create_again = group 2 2 1 ∷ group 3 2 1 ∷ []

lost : Accepts later_pair both_lost both_create_again (found 2 2 how.Lost [])
lost = (omega arith, ((((refl, refl, refl), refl), (refl, (refl, tt)), tt), (refl, refl, refl)))

fresh_again : Accepts later_pair both_lost both_create_again (found 2 2 how.Fresh [])
fresh_again = (omega arith, ((((refl, refl, refl), refl), (refl, (refl, tt)), tt), (refl, refl)))

kept_all_the_same : Accepts later_pair both_lost both_create_again (found 2 2 how.Kept five_and_six)
kept_all_the_same = (omega arith, ((((refl, refl, refl), refl), (refl, (refl, tt)), tt), (refl, refl)))

not_lost_with_stamps : Refuses later_pair both_lost both_create_again (found 2 2 how.Lost five_and_six)
not_lost_with_stamps may = apart is_empty [] five_and_six refl refl (sym may.1.1.2)

not_fresh_again_with_stamps : Refuses later_pair both_lost both_create_again (found 2 2 how.Fresh five_and_six)
not_fresh_again_with_stamps may = apart is_empty [] five_and_six refl refl (sym may.1.1.1)

-- of four places two were lost: places 0 and 2 are no buddies, and so the group is covered; places 0 and 1 are, and it isn't

abbrev later_four : Job
later_four = record (pair (pos 2) []) { ranks = pos 4 }

-- in epoch 1 each rank had its place
abbrev of_four : List Seat → (ℕ → Stand) → Ledger
of_four seats stands = record (later later_four seats stands) {
  chapters = at_key 1 (Some (record { comm = first_four; present = λ p. nat_lt p 6 })) (later later_four seats stands).chapters;
}
  where
    first_four : List Seat
    first_four = seat 0 0 ∷ seat 1 1 ∷ seat 2 2 ∷ seat 3 3 ∷ []

abbrev lost_apart : Ledger
lost_apart = of_four (seat 0 4 ∷ seat 1 1 ∷ seat 2 5 ∷ seat 3 3 ∷ []) stands
  where
    stands : ℕ → Stand
    stands p = if (p == 0) || (p == 2) then Killed else creating (if p == 4 then 0 else (if p == 5 then 2 else p))

abbrev all_create_apart : List Item
all_create_apart = group 4 2 1 ∷ group 1 2 1 ∷ group 5 2 1 ∷ group 3 2 1 ∷ []

kept_by_buddies : Accepts later_four lost_apart all_create_apart (found 4 2 how.Kept five_and_six)
kept_by_buddies = (omega arith, ((((refl, refl, refl), refl), (refl, (refl, (refl, (refl, tt)))), tt), (refl, refl)))

not_lost_by_buddies : Refuses later_four lost_apart all_create_apart (found 4 2 how.Lost [])
not_lost_by_buddies may = not_both may.1.1.1

abbrev lost_together : Ledger
lost_together = of_four (seat 0 4 ∷ seat 1 5 ∷ seat 2 2 ∷ seat 3 3 ∷ []) (λ p. if nat_lt p 2 then Killed else creating (if nat_lt p 4 then p else p - 4))

lost_with_its_buddy : Accepts later_four lost_together (group 4 2 1 ∷ group 5 2 1 ∷ group 2 2 1 ∷ group 3 2 1 ∷ []) (found 4 2 how.Lost [])
lost_with_its_buddy = (omega arith, ((((refl, refl, refl), refl), (refl, (refl, (refl, (refl, tt)))), tt), (refl, refl, refl)))
