-- Single moments: to whom a join goes, that a node waits in a ballot, and that what comes early is kept.
use Rattle.std.specs.Prelude.{◌≡◌, refl, true, [], ◌∷◌, is_none}
use Rattle.fx_base.specs.Sets.{those_below}
use Rattle.fx_check.specs.Facts.{Facts}
use Rattle.fx_comm.specs.Seats.{seats_from}
use Rattle.fx_link.specs.declared.slot.Slot.TheVariants as slot
use Rattle.fx_machine.specs.Setup.{Setup}
use Rattle.fx_machine.specs.Steps.{next}
use Rattle.fx_machine.specs.Texts.{Join, Jest}
use Rattle.fx_fleet.specs.Rounds.{Step, Deliver, all_happen, wire}
use Rattle.fx_fleet.specs.World.{first_world}
use Rattle.fx_fleet.proofs.Bodies.{facts, row_setup}
use Rattle.fx_fleet.proofs.Words.{join, send, deliver}

abbrev known : Facts
known = facts [] []

abbrev one_and_a_spare : Setup
one_and_a_spare = row_setup 1 1 known []

abbrev two : Setup
two = row_setup 2 0 known []

-- a rank's join goes to the spare too, which has no place
spare_is_told : wire one_and_a_spare 2 0 (Step 0 ∷ []) ≡ join 0 1 slot.Start ∷ send 0 1 (Join 1 slot.Start) ∷ []
unfolding those_below seats_from
spare_is_told = refl

-- a rank that has joined does nothing before it hears of the other
waits : is_none (next two ((all_happen two 2 (Step 0 ∷ []) (first_world two)).node 0)) ≡ true
unfolding those_below seats_from
waits = refl

-- a join that came before its receiver joined counts once it has: with its own it makes the estimate
early_join_counts : wire two 2 0 (Step 1 ∷ Deliver 1 0 ∷ Step 0 ∷ Step 0 ∷ Step 0 ∷ [])
    ≡ join 1 1 slot.Start
    ∷ send 1 0 (Join 1 slot.Start)
    ∷ deliver 1 0 (Join 1 slot.Start)
    ∷ join 0 1 slot.Start
    ∷ send 0 1 (Join 1 slot.Start)
    ∷ send 0 1 (Jest 1 0 (slot.Start ∷ slot.Start ∷ []))
    ∷ []
unfolding those_below seats_from
early_join_counts = refl
