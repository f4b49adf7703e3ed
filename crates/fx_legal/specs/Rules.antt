-- Which item may come next.
use Rattle.std.specs.Prelude.{◌≡◌, ℕ, zero, suc, ◌-◌, ◌<◌, ◌≤◌, nat_le, nat_lt, pos, Bool, true, false, not, cond, ◌⊎◌, List, [], ◌∷◌, length, Option, Some, None, is_some}
use Rattle.std.specs.FinMap.{find}
use Rattle.std.specs.FinMap as finite
use Rattle.fx_base.specs.Keys.{by_time}
use Rattle.fx_base.specs.declared.names.CallNo.{CallNo}
use Rattle.fx_base.specs.declared.names.Epoch.{Epoch}
use Rattle.fx_base.specs.declared.names.GroupId.{GroupId}
use Rattle.fx_base.specs.declared.names.Ident.{Ident}
use Rattle.fx_base.specs.declared.names.MemberId.{MemberId}
use Rattle.fx_base.specs.declared.names.Proc.{Proc}
use Rattle.fx_base.specs.declared.names.Role.{Role}
use Rattle.fx_base.specs.declared.names.Stamp.{Stamp}
use Rattle.fx_base.specs.declared.snapshot.Snapshot.{Snapshot}
use Rattle.fx_base.specs.declared.sparse.Sparse.{Sparse}
use Rattle.fx_comm.specs.Seats.{Seat, has_place, idents_of, repaired}
use Rattle.fx_item.specs.declared.answer.Answer.{Answer}
use Rattle.fx_item.specs.declared.answer.Answer.TheVariants as answer
use Rattle.fx_item.specs.declared.answer.Refusable.{Refusable}
use Rattle.fx_item.specs.declared.answer.Refusable.TheVariants as refusable
use Rattle.fx_item.specs.declared.item.Item.{Item}
use Rattle.fx_item.specs.declared.item.Item.TheVariants as item
use Rattle.fx_link.specs.declared.slot.Slot.{Slot}
use Rattle.fx_link.specs.declared.slot.Slot.TheVariants as slot
use Rattle.fx_script.specs.declared.job.Job.{Job}
use Rattle.fx_walk.specs.declared.printed.Printed.{Printed}
use Rattle.fx_walk.specs.declared.wanted.Wanted.{Wanted}
use Rattle.fx_walk.specs.declared.wanted.Wanted.TheVariants as wanted
use Rattle.fx_walk.specs.Walk.{Walk, Ends, Passes, Prints, Asks}
use Rattle.fx_legal.specs.Calls.{EntersAlike, AllHaveEntered, HasValue, HasShifted, ReturnsAlike}
use Rattle.fx_legal.specs.Creations.{MayFind}
use Rattle.fx_legal.specs.Groups.{Group, has_stamp, commit_stamp, last_waiting}
use Rattle.fx_legal.specs.Ledger.{Chapter, Ledger, ranks_of, procs_of, comm_in, is_present, role_in, first_success}
use Rattle.fx_legal.specs.Effects.{belongs, due_kills, ident_of}
use Rattle.fx_legal.specs.Stands.{Note, Callback, Print, Stay, Stand, New, Joined, Spare, Opening, Walking, Calling, Failed, Ended, is_killed}

-- ---- losses

-- the schedule's next kill, of a process that isn't gone
abbrev pub IsFirst : ℕ → List ℕ → Type 0
IsFirst p [] = ⊥
IsFirst p (q ∷ more) = q ≡ p

abbrev pub MayBeKilled : Ledger → Proc → Type 0
MayBeKilled l p = IsFirst p.0 (due_kills l.stands l.kills)

-- ---- joins

-- somebody who is present has joined the next epoch, or somebody who has a place was killed
abbrev pub IsStirred : Ledger → ℕ → ℕ → Type 0
IsStirred l epoch q =
    ((is_present l epoch q ≡ true) × (is_some (l.joined (suc epoch) q) ≡ true)) ⊎ ((has_place (comm_in l epoch) q ≡ true) × (is_killed (l.stands q) ≡ true))

-- a body that came to its end joins as final
abbrev pub IsFinal : ℕ → Slot → Stay → Walk → Type 0
IsFinal epoch kind stay (Ends state) = (kind ≡ slot.Final) × (epoch ≡ suc stay.epoch)
IsFinal epoch kind stay (Passes rest) = ⊥
IsFinal epoch kind stay (Prints printed rest) = ⊥
IsFinal epoch kind stay (Asks place asked state rest) = ⊥

-- a new process joins epoch 1; others the epoch behind theirs: a spare that was stirred, one whose call failed, one whose body is done
abbrev pub MayJoin : Ledger → ℕ → Slot → Stand → Type 0
MayJoin l epoch kind New = (kind ≡ slot.Start) × (epoch ≡ 1)
MayJoin l epoch kind (Spare own) = (kind ≡ slot.Spare) × (epoch ≡ suc own) × ((q : ℕ) × IsStirred l own q)
MayJoin l epoch kind (Failed own state) = (kind ≡ slot.Error) × (epoch ≡ suc own)
MayJoin l epoch kind (Walking stay walk) = IsFinal epoch kind stay walk
MayJoin l epoch kind other = ⊥

-- ---- epochs

-- an epoch begins with this communicator
pub record Begins (job : Job) (l : Ledger) (epoch : ℕ) (comm : List Seat) : Type 0 where
  -- nobody has ended
  pub none_ended : (q : ℕ) → q < procs_of job → l.stands q ≡ Ended → ⊥
  -- all who were present have joined, or were killed
  pub all_joined : (q : ℕ) → is_present l (epoch - 1) q ≡ true → is_killed (l.stands q) ≡ false → is_some (l.joined epoch q) ≡ true
  -- who has a place was present, and has joined
  pub seated : (q : ℕ) → has_place comm q ≡ true → (is_present l (epoch - 1) q ≡ true) × (is_some (l.joined epoch q) ≡ true)
  -- lost identities have gone to spares
  pub mended : comm ≡ repaired (comm_in l (epoch - 1)) (belongs l epoch comm)

-- the first to have it begins the epoch with it, and all others have the same
abbrev pub IsTheOne : Job → Ledger → ℕ → List Seat → Option Chapter → Type 0
IsTheOne job l epoch comm None = Begins job l epoch comm
IsTheOne job l epoch comm (Some chapter) = comm ≡ chapter.comm

-- a process waits for this epoch
abbrev pub IsWaiting : ℕ → Stand → Type 0
IsWaiting epoch (Joined own state) = own ≡ epoch
IsWaiting epoch other = ⊥

-- how many places there are, with the warning exactly where there are fewer than the job asks for
abbrev pub IsSize : Job → List Seat → ℕ → Bool → Type 0
IsSize job comm size warn = (size ≡ length comm) × (warn ≡ nat_lt size (ranks_of job))

-- the next epoch hasn't begun
abbrev pub IsCurrent : Ledger → ℕ → Type 0
IsCurrent l epoch = l.chapters (suc epoch) ≡ None

pub record MayBeRepaired (job : Job) (l : Ledger) (p : Proc) (epoch size : ℕ) (warn : Bool) (comm : List Seat) : Type 0 where
  pub waits : IsWaiting epoch (l.stands p.0)
  pub one : IsTheOne job l epoch comm (l.chapters epoch)
  pub sized : IsSize job comm size warn
  pub current : IsCurrent l epoch

-- ---- Init

-- the first of the notes
abbrev pub IsNote : ℕ → Note → Stand → Type 0
IsNote epoch note (Opening own (next ∷ notes) state) = (own ≡ epoch) × (next ≡ note)
IsNote epoch note other = ⊥

-- all notes are written
abbrev pub HasOpened : ℕ → Stand → Type 0
HasOpened epoch (Opening own [] state) = own ≡ epoch
HasOpened epoch other = ⊥

-- the seat at a place
abbrev pub HasSeat : List Seat → ℕ → Seat → Type 0
HasSeat [] place seat = ⊥
HasSeat (s ∷ seats) zero seat = s ≡ seat
HasSeat (s ∷ seats) (suc place) seat = HasSeat seats place seat

pub record MayReturnFromInit (job : Job) (l : Ledger) (p : Proc) (epoch : ℕ) (role : Role) (ident : Ident) (rank size : ℕ) (warn : Bool) : Type 0 where
  pub opened : HasOpened epoch (l.stands p.0)
  pub named : role ≡ role_in l epoch p.0
  pub seated : HasSeat (comm_in l epoch) rank (ident, p)
  pub sized : IsSize job (comm_in l epoch) size warn
  pub current : IsCurrent l epoch

-- ---- what the body shows

-- a callback prints, or the body does
abbrev pub IsPrint : ℕ → Printed → Stand → Type 0
IsPrint epoch what (Walking stay (Prints printed rest)) = (stay.epoch ≡ epoch) × (printed ≡ what)
IsPrint epoch what other = IsNote epoch (Print what) other

-- the body asks this
abbrev pub IsAsking : ℕ → Wanted → Stand → Type 0
IsAsking epoch asked (Walking stay (Asks place wanted state rest)) = (stay.epoch ≡ epoch) × (wanted ≡ asked)
IsAsking epoch asked other = ⊥

-- ---- what a process answers by itself

-- whether the process has created the group, or attached the member, in this epoch
abbrev pub has_created : Stand → GroupId → Bool
has_created (Walking stay walk) group = stay.has_created group.0
has_created other group = false

abbrev pub has_attached : Stand → GroupId → MemberId → Bool
has_attached (Walking stay walk) group member = stay.has_attached group.0 member.0
has_attached other group member = false

-- the entry of a member in what was stored at a stamp
abbrev pub entry_of : Option Snapshot → MemberId → Option Sparse
entry_of None member = None
entry_of (Some snapshot) member = finite.get snapshot member

abbrev pub stored_at : Group → ℕ → MemberId → Stamp → Option Sparse
stored_at g ident member stamp = entry_of (find by_time stamp (g.closed ident)) member

-- the first of some answers whose condition holds
abbrev pub first_that : List (Bool × Answer) → Option Answer
first_that [] = None
first_that (c ∷ more) = cond c.0 (Some c.1) (first_that more)

-- why the process refuses what is asked, if it does; what its own identity has committed in this epoch counts for `Full`
abbrev pub refusal_of : (epoch : ℕ) → (ℕ → Group) → Stand → Wanted → Option Answer
refusal_of epoch groups stand wanted.Barrier = None
refusal_of epoch groups stand (wanted.Reduce op n) = None
refusal_of epoch groups stand (wanted.Agree n) = None
refusal_of epoch groups stand (wanted.Shift d elements) = None
refusal_of epoch groups stand (wanted.Group g start depth) = first_that ((has_created stand g, answer.AlreadyCreated) ∷ [])
refusal_of epoch groups stand (wanted.Attach g m) = first_that ((not (has_created stand g), answer.NotCreated) ∷ [])
refusal_of epoch groups stand (wanted.Store g m list) =
    first_that ((not (has_created stand g), answer.NotCreated) ∷ (not (has_attached stand g m), answer.NotAttached) ∷ [])
refusal_of epoch groups stand (wanted.Commit g) =
    first_that ((not (has_created stand g), answer.NotCreated) ∷ (nat_le 16 (length ((groups g.0).tentative epoch (ident_of stand))), answer.Full) ∷ [])
refusal_of epoch groups stand (wanted.Close g) = first_that ((not (has_created stand g), answer.NotCreated) ∷ [])
refusal_of epoch groups stand (wanted.Restore g m t) =
    first_that ((not (has_created stand g), answer.NotCreated) ∷ (not (has_attached stand g m), answer.NotAttached)
    ∷ (not (has_stamp t (groups g.0).stamps), answer.NoStamp) ∷ (not (is_some (stored_at (groups g.0) (ident_of stand) m t)), answer.NotStored) ∷ [])
refusal_of epoch groups stand (wanted.Delete g t) =
    first_that ((not (has_created stand g), answer.NotCreated) ∷ (not (has_stamp t (groups g.0).stamps), answer.NoStamp) ∷ [])

-- the body asks this, and the process doesn't refuse it
pub record MayDo (l : Ledger) (p : Proc) (epoch : ℕ) (asked : Wanted) : Type 0 where
  pub asks : IsAsking epoch asked (l.stands p.0)
  pub granted : refusal_of epoch l.groups (l.stands p.0) asked ≡ None
  pub current : IsCurrent l epoch

-- a refusal names the statement by its group, its member and its stamp, 0 where it has none
abbrev pub Names : Refusable → GroupId → MemberId → Stamp → Wanted → Type 0
Names refusable.Group g m t (wanted.Group h start depth) = (g ≡ h) × (m.0 ≡ 0) × (t.0 ≡ pos 0)
Names refusable.Member g m t (wanted.Attach h n) = (g ≡ h) × (m ≡ n) × (t.0 ≡ pos 0)
Names refusable.Store g m t (wanted.Store h n list) = (g ≡ h) × (m ≡ n) × (t.0 ≡ pos 0)
Names refusable.Commit g m t (wanted.Commit h) = (g ≡ h) × (m.0 ≡ 0) × (t.0 ≡ pos 0)
Names refusable.CommitBarrier g m t (wanted.Close h) = (g ≡ h) × (m.0 ≡ 0) × (t.0 ≡ pos 0)
Names refusable.Restore g m t (wanted.Restore h n s) = (g ≡ h) × (m ≡ n) × (t ≡ s)
Names refusable.Drop g m t (wanted.Delete h s) = (g ≡ h) × (m.0 ≡ 0) × (t ≡ s)
Names statement g m t other = ⊥

-- the body asks what the refusal names, and the process refuses it with this answer
abbrev pub IsRefusing : (epoch : ℕ) → (ℕ → Group) → Refusable → GroupId → MemberId → Stamp → Answer → Stand → Type 0
IsRefusing epoch groups statement g m t why (Walking stay (Asks place asked state rest)) =
    (stay.epoch ≡ epoch) × Names statement g m t asked × (refusal_of epoch groups (Walking stay (Asks place asked state rest)) asked ≡ Some why)
IsRefusing epoch groups statement g m t why other = ⊥

-- ---- calls

-- a call has the next number
abbrev pub IsNextCall : CallNo → Stand → Type 0
IsNextCall k (Walking stay walk) = k.0 ≡ suc stay.calls
IsNextCall k other = ⊥

abbrev pub MayEnter : Ledger → Proc → Epoch → CallNo → Wanted → Type 0
MayEnter l p e k asked = MayDo l p e.0 asked × IsNextCall k (l.stands p.0)

-- and who has entered it so far entered it alike
abbrev pub EntersCall : Ledger → Proc → Epoch → CallNo → Wanted → Type 0
EntersCall l p e k asked = MayEnter l p e k asked × EntersAlike l e k asked

-- which returns answer which calls
abbrev pub Answers : Item → Wanted → Type 0
Answers (item.Passed p e k) wanted.Barrier = Unit {0}
Answers (item.Passed p e k) (wanted.Delete g t) = Unit {0}
Answers (item.Value p e k n) (wanted.Reduce op own) = Unit {0}
Answers (item.Value p e k n) (wanted.Agree own) = Unit {0}
Answers (item.Shifted p e k list) (wanted.Shift d own) = Unit {0}
Answers (item.Created p e k g how list) (wanted.Group h start depth) = g ≡ h
Answers (item.Closed p e k g t) (wanted.Close h) = g ≡ h
Answers other asked = ⊥

-- the process is inside this call, which the item may answer
abbrev pub IsInside : ℕ → ℕ → (Wanted → Type 0) → Stand → Type 0
IsInside epoch call Fits (Calling stay asked state rest) = (stay.epoch ≡ epoch) × (stay.calls ≡ call) × Fits asked
IsInside epoch call Fits other = ⊥

abbrev pub MayReturn : Ledger → Proc → Epoch → CallNo → Item → Type 0
MayReturn l p e k it = IsInside e.0 k.0 (Answers it) (l.stands p.0) × IsCurrent l e.0

-- a return without an error: all places have entered the call
abbrev pub Succeeds : Ledger → Proc → Epoch → CallNo → Item → Type 0
Succeeds l p e k it = MayReturn l p e k it × AllHaveEntered l e k × ReturnsAlike l p e k it

-- the last stamp that the first return of its call closed, or would close now
abbrev pub IsLastClosed : Ledger → ℕ → GroupId → Stamp → Option Item → Type 0
IsLastClosed l epoch g t None = t ≡ last_waiting epoch (idents_of (comm_in l epoch)) (l.groups g.0)
IsLastClosed l epoch g t (Some (item.Closed q e k h s)) = t ≡ s
IsLastClosed l epoch g t (Some other) = ⊥

-- any call may fail
abbrev pub MayFail : Ledger → Proc → Epoch → CallNo → Type 0
MayFail l p e k = IsInside e.0 k.0 (λ asked. Unit {0}) (l.stands p.0) × IsCurrent l e.0

-- and one that all places decide together fails for all alike
abbrev pub Fails : Ledger → Proc → Epoch → CallNo → Item → Type 0
Fails l p e k it = MayFail l p e k × ReturnsAlike l p e k it

-- ---- ends

-- a process that waits for an epoch ends
pub record MayEnd (job : Job) (l : Ledger) (epoch : ℕ) : Type 0 where
  -- epoch 1 at least has begun
  pub late : 2 ≤ epoch
  -- all who have a place joined as final
  pub final : (q : ℕ) → has_place (comm_in l (epoch - 1)) q ≡ true → l.joined epoch q ≡ Some slot.Final
  -- all who are present have joined, or were killed
  pub all_joined : (q : ℕ) → is_present l (epoch - 1) q ≡ true → is_killed (l.stands q) ≡ false → is_some (l.joined epoch q) ≡ true
  -- the epoch hasn't begun
  pub unbegun : l.chapters epoch ≡ None

abbrev pub IsEnding : Job → Ledger → Stand → Type 0
IsEnding job l (Joined epoch state) = MayEnd job l epoch
IsEnding job l other = ⊥

-- ---- all items

-- the process of an item that a journal may hold
abbrev pub writer_of : Item → Proc
writer_of (item.Kill p) = p
writer_of (item.Join p e kind) = p
writer_of (item.Repaired p e size warn list) = p
writer_of (item.Callback p e name) = p
writer_of (item.Init p e role id rank size warn) = p
writer_of (item.Print p e name list) = p
writer_of (item.Attach p e g m) = p
writer_of (item.Store p e g m list) = p
writer_of (item.Commit p e g t) = p
writer_of (item.Restore p e g m t list) = p
writer_of (item.Refused p e statement g m t why) = p
writer_of (item.Barrier p e k) = p
writer_of (item.Reduce p e k op n) = p
writer_of (item.Agree p e k n) = p
writer_of (item.Shift p e k d list) = p
writer_of (item.Group p e k g) = p
writer_of (item.Close p e k g) = p
writer_of (item.Drop p e k g t) = p
writer_of (item.Passed p e k) = p
writer_of (item.Value p e k n) = p
writer_of (item.Shifted p e k list) = p
writer_of (item.Created p e k g how list) = p
writer_of (item.Closed p e k g t) = p
writer_of (item.Failed p e k x) = p
writer_of (item.Revoked p e k x) = p
writer_of (item.Ended p) = p
writer_of (item.Send p q message) = p
writer_of (item.Deliver p q message) = p
writer_of (item.Told p q) = p

-- What is sent, delivered and told stands in no journal.
abbrev pub May : Job → Ledger → Item → Type 0
May job l (item.Kill p) = MayBeKilled l p
May job l (item.Join p e kind) = MayJoin l e.0 kind (l.stands p.0)
May job l (item.Repaired p e size warn list) = MayBeRepaired job l p e.0 size warn list
May job l (item.Callback p e name) = IsNote e.0 (Callback name) (l.stands p.0) × IsCurrent l e.0
May job l (item.Init p e role id rank size warn) = MayReturnFromInit job l p e.0 role id rank size warn
May job l (item.Print p e name list) = IsPrint e.0 (record { name = name; values = list }) (l.stands p.0) × IsCurrent l e.0
May job l (item.Attach p e g m) = MayDo l p e.0 (wanted.Attach g m)
May job l (item.Store p e g m list) = MayDo l p e.0 (wanted.Store g m list)
May job l (item.Commit p e g t) = MayDo l p e.0 (wanted.Commit g) × (t ≡ commit_stamp e.0 (ident_of (l.stands p.0)) (l.groups g.0))
May job l (item.Restore p e g m t list) = MayDo l p e.0 (wanted.Restore g m t) × (stored_at (l.groups g.0) (ident_of (l.stands p.0)) m t ≡ Some list)
May job l (item.Refused p e statement g m t why) = IsRefusing e.0 l.groups statement g m t why (l.stands p.0) × IsCurrent l e.0
May job l (item.Barrier p e k) = EntersCall l p e k wanted.Barrier
May job l (item.Reduce p e k op n) = EntersCall l p e k (wanted.Reduce op n)
May job l (item.Agree p e k n) = EntersCall l p e k (wanted.Agree n)
May job l (item.Shift p e k d list) = EntersCall l p e k (wanted.Shift d list)
May job l (item.Group p e k g) = (start : Stamp) × (depth : ℕ) × EntersCall l p e k (wanted.Group g start depth)
May job l (item.Close p e k g) = EntersCall l p e k (wanted.Close g)
May job l (item.Drop p e k g t) = EntersCall l p e k (wanted.Delete g t)
May job l (item.Passed p e k) = Succeeds l p e k (item.Passed p e k)
May job l (item.Value p e k n) = Succeeds l p e k (item.Value p e k n) × HasValue l p e k n
May job l (item.Shifted p e k list) = Succeeds l p e k (item.Shifted p e k list) × HasShifted l p e k list
May job l (item.Created p e k g how list) = Succeeds l p e k (item.Created p e k g how list) × MayFind job l e k g how list
May job l (item.Closed p e k g t) = Succeeds l p e k (item.Closed p e k g t) × IsLastClosed l e.0 g t (first_success l e.0 k.0)
May job l (item.Failed p e k x) = Fails l p e k (item.Failed p e k x) × (has_place (comm_in l e.0) x.0 ≡ true) × (is_killed (l.stands x.0) ≡ true)
May job l (item.Revoked p e k x) = Fails l p e k (item.Revoked p e k x) × (has_place (comm_in l e.0) x.0 ≡ true) × (is_some (l.joined (suc e.0) x.0) ≡ true)
May job l (item.Ended p) = IsEnding job l (l.stands p.0)
May job l (item.Send p q message) = ⊥
May job l (item.Deliver p q message) = ⊥
May job l (item.Told p q) = ⊥

-- an item may come next, and is of a process of the job
abbrev pub MayWrite : Job → Ledger → Item → Type 0
MayWrite job l it = ((writer_of it).0 < procs_of job) × May job l it
