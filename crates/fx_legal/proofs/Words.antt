-- Items, jobs and ledgers from plain numbers, for rows.
use Rattle.std.proofs.Common.{◌≡◌, ℕ, Bool, true, false, ◌==◌, List, [], ◌∷◌, map, Some, None, ap, sym, ◌∙◌}
use Rattle.std.specs.Prelude.{ℤ, pos, if◌then◌else◌, nat_lt}
use Rattle.fx_base.specs.declared.names.CallNo.{CallNo}
use Rattle.fx_base.specs.declared.names.Epoch.{Epoch}
use Rattle.fx_base.specs.declared.names.GroupId.{GroupId}
use Rattle.fx_base.specs.declared.names.MemberId.{MemberId}
use Rattle.fx_base.specs.declared.names.Op.{Op}
use Rattle.fx_base.specs.declared.names.Proc.{Proc}
use Rattle.fx_base.specs.declared.spot.Spot.{Spot}
use Rattle.fx_comm.specs.Seats.{Seat, seat}
use Rattle.fx_item.specs.declared.item.Item.{Item}
use Rattle.fx_item.specs.declared.item.Item.TheVariants as item
use Rattle.fx_link.specs.declared.slot.Slot.{Slot}
use Rattle.fx_link.specs.declared.slot.Slot.TheVariants as slot
use Rattle.fx_script.specs.declared.job.Event.{Event}
use Rattle.fx_script.specs.declared.job.EventKind.TheVariants as event
use Rattle.fx_script.specs.declared.job.Job.{Job}
use Rattle.fx_walk.specs.declared.wanted.Wanted.{Wanted}
use Rattle.fx_walk.specs.State.{State}
use Rattle.fx_walk.specs.Walk.{Walk, Ends, Asks, stamp_at}
use Rattle.fx_legal.specs.Effects.{first_stay}
use Rattle.fx_legal.specs.Groups.{at_key}
use Rattle.fx_legal.specs.Ledger.{Chapter, Ledger, procs_of, first_ledger}
use Rattle.fx_legal.specs.Legal.{written_all}
use Rattle.fx_legal.specs.Rules.{MayWrite}
use Rattle.fx_legal.specs.Stands.{Stand, Stay, Walking}

-- behind these items, from this ledger on, the item may come; or it may not
abbrev pub Accepts : Job → Ledger → List Item → Item → Type 0
Accepts job l items it = MayWrite job (written_all job l items) it

abbrev pub Refuses : Job → Ledger → List Item → Item → Type 0
Refuses job l items it = MayWrite job (written_all job l items) it → ⊥

-- ---- what can't be

pub not_both : true ≡ false → ⊥
not_both e = absurd cc

-- two things that a test tells apart aren't the same
pub apart : {A : Type 0} (test : A → Bool) (a b : A) → test a ≡ true → test b ≡ false → a ≡ b → ⊥
apart test a b holds fails same = not_both (sym holds ∙ (ap test same ∙ fails))

-- ---- numbers

abbrev pub proc : ℕ → Proc
proc p = record { 0 = p }

abbrev pub epoch : ℕ → Epoch
epoch e = record { 0 = e }

abbrev pub call : ℕ → CallNo
call k = record { 0 = k }

abbrev pub group_0 : GroupId
group_0 = record { 0 = 0 }

abbrev pub group_1 : GroupId
group_1 = record { 0 = 1 }

abbrev pub member_0 : MemberId
member_0 = record { 0 = 0 }

abbrev pub full : Bool
full = false

-- ---- jobs

abbrev pub here : Spot
here = record { line = 9; column = 1 }

abbrev pub kill_event : ℕ → Event
kill_event p = record { spot = here; kind = event.Kill (pos p) }

-- Two ranks and so many spares at separation 1, whose schedule kills these processes. The body has no statement; rows of bodies begin
-- behind `init`, with walks of their own.
abbrev pub pair : ℤ → List ℕ → Job
pair spares kills = record {
  ranks = pos 2;
  spares = spares;
  separation = pos 1;
  ranks_spot = here;
  spares_spot = here;
  separation_spot = here;
  begin_spot = here;
  names = [];
  callbacks = [];
  body = [];
  events = map kill_event kills;
}

abbrev pub alone_pair : Job
alone_pair = pair (pos 0) []

-- the communicator of the two ranks
abbrev pub two : List Seat
two = seat 0 0 ∷ seat 1 1 ∷ []

-- ---- ledgers

-- the two ranks have the places, and the spares are present too
abbrev pub two_and_spares : Job → Chapter
two_and_spares job = record { comm = two; present = λ p. nat_lt p (procs_of job) }

-- epoch 1, which all have joined, where the processes stand so
abbrev pub standing : Job → (ℕ → Stand) → Ledger
standing job stands = record (first_ledger job) {
  stands = stands;
  joined = λ e p. if e == 1 then (if nat_lt p (procs_of job) then Some slot.Start else None) else None;
  chapters = at_key 1 (Some (two_and_spares job)) (first_ledger job).chapters;
}

abbrev pub stay_of : ℕ → Stay
stay_of p = first_stay 1 (record { 0 = p })

-- where group 0 is created and its member 0 is attached
abbrev pub stay_with : ℕ → Stay
stay_with p = record (stay_of p) { has_created = λ g. g == 0; has_attached = λ g m. (if g == 0 then m == 0 else false) }

-- `Init` has returned to both ranks, and these are their walks
abbrev pub walking : Job → (ℕ → Walk) → Ledger
walking job walks = standing job (λ p. Walking (stay_of p) (walks p))

-- and they have created group 0
abbrev pub walking_with : Job → (ℕ → Walk) → Ledger
walking_with job walks = standing job (λ p. Walking (stay_with p) (walks p))

-- ---- walks

abbrev pub nothing : State
nothing = record { counters = []; arrays = []; callbacks = [] }

abbrev pub done : Walk
done = Ends nothing

-- a body that asks one thing
abbrev pub asks : Wanted → Walk
asks wanted = Asks (record { spot = here; in_when = false }) wanted nothing (λ reply. done)

-- ---- items: p is a process, e an epoch, k a call, x the process of an error

abbrev pub kill : ℕ → Item
kill p = item.Kill (proc p)

abbrev pub join : (p e : ℕ) → Slot → Item
join p e kind = item.Join (proc p) (epoch e) kind

abbrev pub repaired : (p e size : ℕ) → Bool → List Seat → Item
repaired p e size warn seats = item.Repaired (proc p) (epoch e) size warn seats

abbrev pub barrier : (p k : ℕ) → Item
barrier p k = item.Barrier (proc p) (epoch 1) (call k)

abbrev pub reduce : (p k : ℕ) → Op → ℤ → Item
reduce p k op n = item.Reduce (proc p) (epoch 1) (call k) op n

abbrev pub agree : (p k : ℕ) → ℤ → Item
agree p k n = item.Agree (proc p) (epoch 1) (call k) n

abbrev pub shift : (p k by : ℕ) → List ℤ → Item
shift p k by values = item.Shift (proc p) (epoch 1) (call k) by values

abbrev pub group : (p e k : ℕ) → Item
group p e k = item.Group (proc p) (epoch e) (call k) group_0

abbrev pub close : (p k : ℕ) → Item
close p k = item.Close (proc p) (epoch 1) (call k) group_0

abbrev pub drop : (p k : ℕ) → ℤ → Item
drop p k t = item.Drop (proc p) (epoch 1) (call k) group_0 (stamp_at t)

abbrev pub passed : (p k : ℕ) → Item
passed p k = item.Passed (proc p) (epoch 1) (call k)

abbrev pub value : (p k : ℕ) → ℤ → Item
value p k n = item.Value (proc p) (epoch 1) (call k) n

abbrev pub shifted : (p k : ℕ) → List ℤ → Item
shifted p k values = item.Shifted (proc p) (epoch 1) (call k) values

abbrev pub closed : (p k : ℕ) → ℤ → Item
closed p k t = item.Closed (proc p) (epoch 1) (call k) group_0 (stamp_at t)

abbrev pub failed : (p k x : ℕ) → Item
failed p k x = item.Failed (proc p) (epoch 1) (call k) (proc x)

abbrev pub revoked : (p k x : ℕ) → Item
revoked p k x = item.Revoked (proc p) (epoch 1) (call k) (proc x)

abbrev pub ended : ℕ → Item
ended p = item.Ended (proc p)
