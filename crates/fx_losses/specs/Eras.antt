-- What an epoch begins with, as the decisions of the ballots before it give it.
use Rattle.std.specs.Prelude.{◌≡◌, ℕ, zero, suc, Bool, true, ◌&&◌, if◌then◌else◌, nat_lt, List, [], ◌∷◌, get_or, Option, Some, None, refl}
use Rattle.std.specs.List.{list_all}
use Rattle.fx_base.specs.Sets.{those_below}
use Rattle.fx_ballot.specs.Names.{seat_of, has}
use Rattle.fx_comm.specs.Seats.{Seat, seat, first_seats, repaired}
use Rattle.fx_link.specs.declared.slot.Slot.{Slot}
use Rattle.fx_link.specs.declared.slot.Slot.TheVariants as slot
use Rattle.fx_machine.specs.Ballots.{voters, is_final}
use Rattle.fx_machine.specs.Nodes.{Node, procs_of}
use Rattle.fx_machine.specs.Reading.{is_join}
use Rattle.fx_machine.specs.Setup.{Setup}

-- the present processes, who are the members of the ballot that ends the epoch; and the communicator
pub record Era : Type 0 where
  pub who : List ℕ
  pub comm : List Seat

-- epoch 0
abbrev pub first_era : Setup → Era
first_era s = record { who = those_below (λ q. true) s.procs; comm = first_seats s.ranks }

-- what a node has of its epoch
abbrev pub era_of : Node → Era
era_of n = record { who = n.present; comm = n.comm }

-- the process of each place has the slot `final`, from epoch 1 on
abbrev pub is_last : ℕ → Era → List Slot → Bool
is_last d x slots = nat_lt 0 d && list_all (λ q. is_final (get_or slots (seat_of x.who q) slot.Lost)) (procs_of x.comm)

-- the epoch behind epoch d, once these slots are decided
abbrev pub next_of : ℕ → Era → List Slot → Era
next_of d x slots = record { who = voters (is_join (suc d)) x.who slots; comm = repaired x.comm (has (voters (is_join (suc d)) x.who slots)) }

-- no epoch comes before its ballot is decided, nor behind the last
abbrev pub next_era : ℕ → Option Era → Option (List Slot) → Option Era
next_era d None decided = None
next_era d (Some x) None = None
next_era d (Some x) (Some slots) = if is_last d x slots then None else Some (next_of d x slots)

-- the epochs, from the first and from what the ballot at the end of each decided
abbrev pub era : Era → (ℕ → Option (List Slot)) → ℕ → Option Era
era first fate zero = Some first
era first fate (suc d) = next_era d (era first fate d) (fate d)

-- two ranks, of which the second is lost as it starts; there is no spare
one_is_lost : next_of 0 (record { who = 0 ∷ 1 ∷ []; comm = seat 0 0 ∷ seat 1 1 ∷ [] }) (slot.Start ∷ slot.Lost ∷ []) ≡ record { who = 0 ∷ []; comm = seat 0 0 ∷ [] }
unfolding those_below
one_is_lost = refl
