-- Statements on a data group that are answered at once: what refuses them, and what they do.
use Rattle.std.specs.Prelude.{ℕ, ℤ, pos, Bool, not, if◌then◌else◌, nat_lt, List, [], ◌∷◌, Option, Some, None, is_none, option_and_then, option_map}
use Rattle.std.specs.FinMap as finite
use Rattle.std.specs.FinMap.Entries.{find}
use Rattle.std.specs.List.{list_all}
use Rattle.std.specs.Ordering.{nat_cmp}
use Rattle.fx_base.specs.declared.names.GroupId.{GroupId}
use Rattle.fx_base.specs.declared.names.MemberId.{MemberId}
use Rattle.fx_base.specs.declared.names.Stamp.{Stamp}
use Rattle.fx_base.specs.declared.sparse.Sparse.{Sparse}
use Rattle.fx_item.specs.declared.answer.Answer.{Answer}
use Rattle.fx_item.specs.declared.answer.Answer.TheVariants.{NotCreated, NotAttached, NoStamp, NotStored, AlreadyCreated, Full}
use Rattle.fx_item.specs.declared.answer.Refusable.{Refusable}
use Rattle.fx_item.specs.declared.answer.Refusable.TheVariants as refusable
use Rattle.fx_item.specs.declared.item.Item.TheVariants as item
use Rattle.fx_walk.specs.declared.wanted.Wanted.{Wanted}
use Rattle.fx_walk.specs.declared.wanted.Wanted.TheVariants as wanted
use Rattle.fx_walk.specs.Walk.{Walk, Reply, Nothing, Entries, stamp_at}
use Rattle.fx_machine.specs.Groups.{Group, at_stamp, is_attached, is_full, next_stamp, attaching, storing, committing}
use Rattle.fx_machine.specs.Nodes.{Node, Act, goes_on, with_group, writing}
use Rattle.fx_machine.specs.Numbers.{proc, epoch_no}
use Rattle.fx_machine.specs.Packings.{Piece, Snapshot}
use Rattle.fx_machine.specs.Reading.{only}
use Rattle.fx_machine.specs.Setup.{Setup}

-- ---- what is found

-- the retained snapshot of a stamp
abbrev pub snapshot_at : Group → ℤ → Option Snapshot
snapshot_at g stamp = at_stamp stamp g.held.kept

-- what a retained snapshot has of a member, where all its indices are inside an array of so many elements
abbrev pub found_at : (len m : ℕ) → Group → ℤ → Option Piece
found_at len m g stamp = only (λ piece. list_all (λ e. nat_lt e.0 len) piece) (option_and_then (find nat_cmp m) (snapshot_at g stamp))

-- ---- what refuses a statement: the first that holds

-- the first answer whose condition holds
abbrev pub first_that_holds : List (Bool × Answer) → Option Answer
first_that_holds [] = None
first_that_holds (row ∷ rows) = if row.0 then Some row.1 else first_that_holds rows

abbrev pub refuses_member : Group → Option Answer
refuses_member g = first_that_holds ((not g.created, NotCreated) ∷ [])

abbrev pub refuses_store : ℕ → Group → Option Answer
refuses_store m g = first_that_holds ((not g.created, NotCreated) ∷ (not (is_attached m g), NotAttached) ∷ [])

abbrev pub refuses_commit : Group → Option Answer
refuses_commit g = first_that_holds ((not g.created, NotCreated) ∷ (is_full g, Full) ∷ [])

abbrev pub refuses_restore : (len m : ℕ) → ℤ → Group → Option Answer
refuses_restore len m stamp g =
    first_that_holds
    ((not g.created, NotCreated) ∷ (not (is_attached m g), NotAttached) ∷ (is_none (snapshot_at g stamp), NoStamp) ∷ (is_none (found_at len m g stamp), NotStored) ∷ [])

abbrev pub refuses_group : Group → Option Answer
refuses_group g = first_that_holds ((g.created, AlreadyCreated) ∷ [])

abbrev pub refuses_close : Group → Option Answer
refuses_close g = first_that_holds ((not g.created, NotCreated) ∷ [])

abbrev pub refuses_delete : ℤ → Group → Option Answer
refuses_delete stamp g = first_that_holds ((not g.created, NotCreated) ∷ (is_none (snapshot_at g stamp), NoStamp) ∷ [])

-- a refusal: the statement, its group, its member and stamp, which are 0 where it names none, and the answer
pub record Refusal : Type 0 where
  pub statement : Refusable
  pub group : GroupId
  pub member : MemberId
  pub stamp : Stamp
  pub answer : Answer

abbrev pub no_member : MemberId
no_member = record { 0 = 0 }

abbrev pub no_stamp : Stamp
no_stamp = stamp_at (pos 0)

abbrev pub as_refusal : Refusable → GroupId → MemberId → Stamp → Option Answer → Option Refusal
as_refusal statement g m t answer = option_map (λ a. record { statement = statement; group = g; member = m; stamp = t; answer = a }) answer

-- why an outward statement is refused, if it is; statements on no group never are
abbrev pub refusal_of : Setup → Node → Wanted → Option Refusal
refusal_of s n (wanted.Group g start depth) = as_refusal refusable.Group g no_member no_stamp (refuses_group (n.groups g.0))
refusal_of s n (wanted.Attach g m) = as_refusal refusable.Member g m no_stamp (refuses_member (n.groups g.0))
refusal_of s n (wanted.Store g m elements) = as_refusal refusable.Store g m no_stamp (refuses_store m.0 (n.groups g.0))
refusal_of s n (wanted.Commit g) = as_refusal refusable.Commit g no_member no_stamp (refuses_commit (n.groups g.0))
refusal_of s n (wanted.Close g) = as_refusal refusable.CommitBarrier g no_member no_stamp (refuses_close (n.groups g.0))
refusal_of s n (wanted.Restore g m stamp) = as_refusal refusable.Restore g m stamp (refuses_restore (s.member_len g m) m.0 stamp.0 (n.groups g.0))
refusal_of s n (wanted.Delete g stamp) = as_refusal refusable.Drop g no_member stamp (refuses_delete stamp.0 (n.groups g.0))
refusal_of s n other = None

-- a refusal is written and changes nothing else
abbrev pub is_refused : Node → (Reply → Walk) → Refusal → Act
is_refused n rest r = writing (item.Refused (proc n.me) (epoch_no n.epoch) r.statement r.group r.member r.stamp r.answer ∷ []) (goes_on rest Nothing n)

-- ---- what the others do

-- a member is attached
abbrev pub attaches : Node → (Reply → Walk) → GroupId → MemberId → Act
attaches n rest g m = writing (item.Attach (proc n.me) (epoch_no n.epoch) g m ∷ []) (goes_on rest Nothing (with_group g.0 (attaching m.0 (n.groups g.0)) n))

-- a piece of a member is stored; it comes as a map, and is kept as a list
abbrev pub stores : Node → (Reply → Walk) → GroupId → MemberId → Sparse → Act
stores n rest g m piece =
    writing (item.Store (proc n.me) (epoch_no n.epoch) g m piece ∷ []) (goes_on rest Nothing (with_group g.0 (storing m.0 (finite.entries piece) (n.groups g.0)) n))

-- what is pending is committed
abbrev pub commits : Node → (Reply → Walk) → GroupId → Act
commits n rest g =
    writing (item.Commit (proc n.me) (epoch_no n.epoch) g (stamp_at (next_stamp (n.groups g.0))) ∷ [])
    (goes_on rest Nothing (with_group g.0 (committing (n.groups g.0)) n))

-- a piece that was found is restored
abbrev pub restores : Node → (Reply → Walk) → GroupId → MemberId → Stamp → Piece → Act
restores n rest g m stamp piece =
    writing (item.Restore (proc n.me) (epoch_no n.epoch) g m stamp (finite.from_sorted piece) ∷ []) (goes_on rest (Entries (finite.from_sorted piece)) n)
