-- What a creation finds of a group.
use Rattle.std.specs.Prelude.{◌≡◌, ℕ, zero, suc, Bool, true, false, List, [], ◌∷◌, length, Option, Some, None, is_some}
use Rattle.fx_base.specs.declared.names.CallNo.{CallNo}
use Rattle.fx_base.specs.declared.names.Epoch.{Epoch}
use Rattle.fx_base.specs.declared.names.GroupId.{GroupId}
use Rattle.fx_base.specs.declared.names.How.{How}
use Rattle.fx_base.specs.declared.names.How.TheVariants as how
use Rattle.fx_base.specs.declared.names.Stamp.{Stamp}
use Rattle.fx_check.specs.Rules.{count_of}
use Rattle.fx_comm.specs.Seats.{Seat}
use Rattle.fx_item.specs.declared.item.Item.{Item}
use Rattle.fx_script.specs.declared.job.Job.{Job}
use Rattle.fx_store.specs.Mirror.{mirror}
use Rattle.fx_store.specs.Redundancy.{Redundancy}
use Rattle.fx_legal.specs.Groups.{Group}
use Rattle.fx_legal.specs.Ledger.{Ledger, comm_in, first_success}
use Rattle.fx_legal.specs.Stands.{Stand, is_killed}

-- the redundancy of a job is the mirror at its separation
abbrev pub redundancy_of : Job → Redundancy
redundancy_of job = mirror (count_of job.separation)

-- whether the process at a place was killed
abbrev pub is_lost_at : (ℕ → Stand) → List Seat → ℕ → Bool
is_lost_at stands [] place = false
is_lost_at stands (s ∷ seats) zero = is_killed (stands s.1.0)
is_lost_at stands (s ∷ seats) (suc place) = is_lost_at stands seats place

abbrev pub covers_losses : Redundancy → (ℕ → Stand) → List Seat → Bool
covers_losses redundancy stands seats = redundancy.covers (length seats) (is_lost_at stands seats)

abbrev pub covers_since : Redundancy → Ledger → Option ℕ → Bool
covers_since redundancy l None = false
covers_since redundancy l (Some epoch) = covers_losses redundancy l.stands (comm_in l epoch)

-- The group was created, and the lost places of the communicator of that epoch are covered: all data can be made again. A place of it counts
-- as lost once its process was killed, whenever that was.
abbrev pub is_covered : Job → Ledger → GroupId → Bool
is_covered job l g = covers_since (redundancy_of job) l (l.groups g.0).born

-- What may be found of a group, and the stamps that are told. Data that is covered is kept. A group that was never created is fresh;
-- one that was, and isn't covered, may be found anyhow.
abbrev pub IsFound : (covered : Bool) → Group → How → List Stamp → Type 0
IsFound covered g how.Fresh list = (covered ≡ false) × (list ≡ [])
IsFound covered g how.Lost list = (is_some g.born ≡ true) × (covered ≡ false) × (list ≡ [])
IsFound covered g how.Kept list = (is_some g.born ≡ true) × (list ≡ g.stamps)

-- the first return from a creation tells what is found then
abbrev pub IsFoundFirst : Job → Ledger → GroupId → How → List Stamp → Option Item → Type 0
IsFoundFirst job l g how list None = IsFound (is_covered job l g) (l.groups g.0) how list
IsFoundFirst job l g how list (Some first) = Unit {0}

abbrev pub MayFind : Job → Ledger → Epoch → CallNo → GroupId → How → List Stamp → Type 0
MayFind job l e k g how list = IsFoundFirst job l g how list (first_success l e.0 k.0)
