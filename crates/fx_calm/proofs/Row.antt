-- A calm run to its end: one rank, one spare, and an empty body.
use Rattle.std.proofs.Common.{◌≡◌, true, false, List, [], ◌∷◌, refl, subst}
use Rattle.std.specs.Prelude.{ℕ, pos}
use Rattle.std.specs.List.{list_all}
use Rattle.fx_base.specs.Sets.{those_below}
use Rattle.fx_base.specs.declared.names.Role.TheVariants as role
use Rattle.fx_base.specs.declared.spot.Spot.{Spot}
use Rattle.fx_comm.specs.Seats.{Seat, seat, seats_from}
use Rattle.fx_fleet.specs.Runs.{AsksNothing, moments_of, journal_of}
use Rattle.fx_item.specs.declared.item.Item.{Item}
use Rattle.fx_item.specs.declared.item.Item.TheVariants as item
use Rattle.fx_link.specs.declared.slot.Slot.{Slot}
use Rattle.fx_link.specs.declared.slot.Slot.TheVariants as slot
use Rattle.fx_machine.specs.Numbers.{proc, epoch_no}
use Rattle.fx_script.specs.declared.job.EventKind.TheVariants as event
use Rattle.fx_script.specs.declared.job.Job.{Job}
use Rattle.fx_legal.specs.Legal.{IsLegalWhole}
use Rattle.fx_calm.specs.Calm.{is_calm}
use Rattle.fx_calm.proofs.Legality.{is_legal}

abbrev here : Spot
here = record { line = 1; column = 1 }

-- the spare begins, then the rank
abbrev job : Job
job = record {
  ranks = pos 1;
  spares = pos 1;
  separation = pos 1;
  ranks_spot = here;
  spares_spot = here;
  separation_spot = here;
  begin_spot = here;
  names = [];
  callbacks = [];
  body = [];
  events = record { spot = here; kind = event.Step (pos 1) } ∷ record { spot = here; kind = event.Rest (pos 0) } ∷ record { spot = here; kind = event.Run (pos 1) } ∷ [];
}

abbrev seats : List Seat
seats = seat 0 0 ∷ []

abbrev join : (p e : ℕ) → Slot → Item
join p e kind = item.Join (proc p) (epoch_no e) kind

abbrev repaired : ℕ → Item
repaired p = item.Repaired (proc p) (epoch_no 1) 1 false seats

abbrev items : List Item
items =
    join 1 1 slot.Start ∷ join 0 1 slot.Start ∷ repaired 1 ∷ repaired 0
    ∷ item.Init (proc 0) (epoch_no 1) role.Initial (record { 0 = 0 }) 0 1 false
    ∷ join 0 2 slot.Final ∷ join 1 2 slot.Spare ∷ item.Ended (proc 1) ∷ item.Ended (proc 0) ∷ []

asks_nothing : AsksNothing job
asks_nothing = λ view state. tt

is_calm_run : list_all is_calm (moments_of job) ≡ true
is_calm_run = refl

row : journal_of job ≡ items
unfolding those_below seats_from
row = refl

-- so the law says of these nine items that they are legal
legal_row : IsLegalWhole job items
legal_row = subst (IsLegalWhole job) row (is_legal job asks_nothing is_calm_run)
