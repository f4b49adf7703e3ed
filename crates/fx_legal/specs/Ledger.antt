-- What a journal says so far: of the processes, of the epochs, of the calls and of the data groups.
use Rattle.std.specs.Prelude.{ℕ, zero, suc, ◌+◌, nat_lt, ℤ, negsuc, Bool, true, false, ◌==◌, if◌then◌else◌, List, [], ◌∷◌, ◌++◌, map, Option, Some, None}
use Rattle.std.specs.List.{find}
use Rattle.fx_base.specs.declared.names.Role.{Role}
use Rattle.fx_base.specs.declared.names.Role.TheVariants as role
use Rattle.fx_base.specs.declared.names.Stamp.{Stamp}
use Rattle.fx_check.specs.Rules.{count_of}
use Rattle.fx_comm.specs.Seats.{Seat, first_seats, has_place}
use Rattle.fx_link.specs.declared.slot.Slot.{Slot}
use Rattle.fx_item.specs.declared.item.Item.{Item}
use Rattle.fx_item.specs.declared.item.Item.TheVariants as item
use Rattle.fx_script.specs.declared.job.Event.{Event}
use Rattle.fx_script.specs.declared.job.EventKind.{EventKind}
use Rattle.fx_script.specs.declared.job.EventKind.TheVariants as event
use Rattle.fx_script.specs.declared.job.Job.{Job}
use Rattle.fx_walk.specs.declared.wanted.Wanted.{Wanted}
use Rattle.fx_legal.specs.Groups.{Group, unborn}
use Rattle.fx_legal.specs.Stands.{Stay, Stand, New}

-- an epoch that has begun: its communicator, and who is present
pub record Chapter : Type 0 where
  pub comm : List Seat
  pub present : (process : ℕ) → Bool

pub record Ledger : Type 0 where
  -- where each process stands
  pub stands : (process : ℕ) → Stand
  -- who has joined which epoch, and as what
  pub joined : (epoch process : ℕ) → Option Slot
  -- the epochs that have begun; epoch 0 has from the start
  pub chapters : (epoch : ℕ) → Option Chapter
  -- what each process asked when it entered a call
  pub entered : (epoch call process : ℕ) → Option Wanted
  -- the returns from each call, in order
  pub returns : (epoch call : ℕ) → List Item
  pub groups : (group : ℕ) → Group
  -- the processes that the schedule kills, in its order, without those that an item was matched with or that were passed over
  pub kills : List ℕ

-- ---- what a job says of it

abbrev pub ranks_of : Job → ℕ
ranks_of job = count_of job.ranks

abbrev pub procs_of : Job → ℕ
procs_of job = count_of job.ranks + count_of job.spares

-- the processes that events kill, in order
abbrev pub kills_in : List Event → List ℕ
kills_in [] = []
kills_in (e ∷ events) = killed_by e.kind ++ kills_in events
  where
    killed_by : EventKind → List ℕ
    killed_by (event.Kill process) = count_of process ∷ []
    killed_by (event.Step process) = []
    killed_by (event.Rest process) = []
    killed_by (event.Deliver from to) = []
    killed_by (event.Notice lost to) = []
    killed_by (event.Run rounds) = []

-- epoch 0: each identity is at the process of its number, and all processes are present
abbrev pub first_chapter : Job → Chapter
first_chapter job = record { comm = first_seats (ranks_of job); present = λ process. nat_lt process (procs_of job) }

-- before the first item
abbrev pub first_ledger : Job → Ledger
first_ledger job = record {
  stands = λ process. New;
  joined = λ epoch process. None;
  chapters = λ epoch. if epoch == 0 then Some (first_chapter job) else None;
  entered = λ epoch call process. None;
  returns = λ epoch call. [];
  groups = λ group. unborn;
  kills = kills_in job.events;
}

-- ---- what it says of an epoch

abbrev pub comm_of : Option Chapter → List Seat
comm_of None = []
comm_of (Some chapter) = chapter.comm

-- who has which identity in an epoch, in the order of places; nobody before it has begun
abbrev pub comm_in : Ledger → ℕ → List Seat
comm_in l epoch = comm_of (l.chapters epoch)

abbrev pub is_in : Option Chapter → ℕ → Bool
is_in None process = false
is_in (Some chapter) process = chapter.present process

-- who is present in an epoch
abbrev pub is_present : Ledger → ℕ → ℕ → Bool
is_present l epoch process = is_in (l.chapters epoch) process

-- the role of a process that has a place in an epoch from 1 on
abbrev pub role_in : Ledger → ℕ → ℕ → Role
role_in l zero process = role.Initial
role_in l (suc zero) process = role.Initial
role_in l (suc (suc epoch)) process = if has_place (comm_in l (suc epoch)) process then role.Survivor else role.Recovered

-- ---- what it says of a call

-- a return without an error
abbrev pub is_success : Item → Bool
is_success (item.Passed p e k) = true
is_success (item.Value p e k n) = true
is_success (item.Shifted p e k list) = true
is_success (item.Created p e k g how list) = true
is_success (item.Closed p e k g t) = true
is_success other = false

-- the first return without an error, if there is one
abbrev pub first_success : Ledger → (epoch call : ℕ) → Option Item
first_success l epoch call = find is_success (l.returns epoch call)

-- ---- stamps

abbrev pub newest_or_none : List Stamp → ℤ
newest_or_none [] = negsuc 0
newest_or_none (s ∷ []) = s.0
newest_or_none (s ∷ t ∷ stamps) = newest_or_none (t ∷ stamps)

-- the newest retained stamp of a group where the process created it in this epoch, and -1 where it didn't or none is retained
abbrev pub latest_of : (ℕ → Group) → Stay → ℕ → ℤ
latest_of groups stay group = if stay.has_created group then newest_or_none (groups group).stamps else negsuc 0

-- those of the eight groups
abbrev pub all_latest : (ℕ → Group) → Stay → List ℤ
all_latest groups stay = map (latest_of groups stay) (0 ∷ 1 ∷ 2 ∷ 3 ∷ 4 ∷ 5 ∷ 6 ∷ 7 ∷ [])
