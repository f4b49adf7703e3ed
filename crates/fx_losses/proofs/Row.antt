-- A run with a loss, to its end: one rank, one spare and an empty body. The rank is killed once it has joined, and the spare takes its place.
use Rattle.std.proofs.Common.{◌≡◌, ◌<◌, false, arith, List, [], ◌∷◌, refl, subst}
use Rattle.std.specs.Prelude.{ℕ, pos}
use Rattle.fx_base.specs.Sets.{those_below}
use Rattle.fx_base.specs.declared.names.Role.TheVariants as role
use Rattle.fx_base.specs.declared.spot.Spot.{Spot}
use Rattle.fx_comm.specs.Seats.{seat, seats_from}
use Rattle.fx_fleet.specs.Runs.{AsksNothing, journal_of}
use Rattle.fx_item.specs.declared.item.Item.{Item}
use Rattle.fx_item.specs.declared.item.Item.TheVariants as item
use Rattle.fx_link.specs.declared.slot.Slot.{Slot}
use Rattle.fx_link.specs.declared.slot.Slot.TheVariants as slot
use Rattle.fx_machine.specs.Numbers.{proc, epoch_no}
use Rattle.fx_script.specs.declared.job.EventKind.TheVariants as event
use Rattle.fx_script.specs.declared.job.Job.{Job}
use Rattle.fx_legal.specs.Legal.{IsLegalWhole}
use Rattle.fx_losses.specs.Losses.{EachEpochHasItsLoss}
use Rattle.fx_losses.proofs.Legality.{KillsProcesses, is_legal, has_losses}

abbrev here : Spot
here = record { line = 1; column = 1 }

abbrev job : Job
job = record {
  ranks = pos 1;
  spares = pos 1;
  separation = pos 1;
  ranks_spot = here;
  spares_spot = here;
  separation_spot = here;
  begin_spot = here;
  names = [];
  callbacks = [];
  body = [];
  events = record { spot = here; kind = event.Rest (pos 0) } ∷ record { spot = here; kind = event.Kill (pos 0) } ∷ record { spot = here; kind = event.Run (pos 1) } ∷ [];
}

abbrev join : (p e : ℕ) → Slot → Item
join p e kind = item.Join (proc p) (epoch_no e) kind

-- its identity goes over to the spare in epoch 2, which nobody survives
abbrev items : List Item
items =
    join 0 1 slot.Start ∷ item.Kill (proc 0) ∷ join 1 1 slot.Start
    ∷ item.Repaired (proc 1) (epoch_no 1) 1 false (seat 0 0 ∷ [])
    ∷ join 1 2 slot.Spare
    ∷ item.Repaired (proc 1) (epoch_no 2) 1 false (seat 0 1 ∷ [])
    ∷ item.Init (proc 1) (epoch_no 2) role.Recovered (record { 0 = 0 }) 0 1 false
    ∷ join 1 3 slot.Final ∷ item.Ended (proc 1) ∷ []

asks_nothing : AsksNothing job
asks_nothing = λ view state. tt

below : KillsProcesses job
below = (one, tt)
  where
    one : 0 < 2
    one = omega arith

row : journal_of job ≡ items
unfolding those_below seats_from
row = refl

-- so the laws say of these nine items that they are legal, and that epoch 2 has its loss
legal_row : IsLegalWhole job items
legal_row = subst (IsLegalWhole job) row (is_legal job asks_nothing below)

lossy_row : EachEpochHasItsLoss job items
lossy_row = subst (EachEpochHasItsLoss job) row (has_losses job asks_nothing below)
