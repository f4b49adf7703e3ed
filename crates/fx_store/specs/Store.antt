-- What a process keeps of a data group, and what each call does to it.
use Rattle.std.specs.Prelude.{◌≡◌, ◌≤◌, ℕ, zero, suc, ◌+◌, ◌-◌, pos, ◌+ℤ◌, ◌-ℤ◌, ◌<ℤ◌, Bool, not, if◌then◌else◌, nat_le, List, [], ◌∷◌, ◌++◌, length, map, drop, Option, Some, None, is_some, unwrap_or, Result, Ok, Err}
use Rattle.std.specs.List.{filter}
use Rattle.std.specs.Ordering.{nat_cmp, eq_by_cmp}
use Rattle.std.specs.FinMap.{find}
use Rattle.std.specs.FinMap as finite
use Rattle.std.specs.FinSet as set
use Rattle.fx_base.specs.Keys.{by_time}
use Rattle.fx_base.specs.declared.names.MemberId.{MemberId}
use Rattle.fx_base.specs.declared.names.Stamp.{Stamp}
use Rattle.fx_base.specs.declared.snapshot.Snapshot.{Snapshot}
use Rattle.fx_base.specs.declared.sparse.Sparse.{Sparse}
use Rattle.fx_store.specs.declared.answers.FindEnd.{FindEnd}
use Rattle.fx_store.specs.declared.answers.FindEnd.TheVariants.{NotAttached, NoStamp, NotStored}

-- a snapshot under its time stamp
abbrev pub Stamped : Type 0
Stamped = Stamp × Snapshot

-- what a process keeps of a data group
pub record Store : Type 0 where
  -- what was stored since the last commit
  pub pending : Snapshot
  -- snapshots that were committed and that no commit barrier has closed, in rising stamp
  pub tentative : List Stamped
  -- closed snapshots, in rising stamp
  pub kept : List Stamped
  -- the numbers of the members that are attached
  pub attached : set.FinSet nat_cmp
  -- the stamp of the next snapshot
  pub next : Stamp
  -- so many closed snapshots are kept beside the newest
  pub depth : ℕ

-- ---- stamps

-- the stamp that is so much later, or earlier
abbrev pub later : Stamp → ℕ → Stamp
later stamp n = record { 0 = stamp.0 +ℤ pos n }

abbrev pub earlier : Stamp → ℕ → Stamp
earlier stamp n = record { 0 = stamp.0 -ℤ pos n }

-- the stamp of the first snapshot that isn't closed yet, if there is one: the next stamp less the number of tentative snapshots
abbrev pub free_stamp : Store → Stamp
free_stamp s = earlier s.next (length s.tentative)

-- the stamps of a list, in its order
abbrev pub stamps_of : List Stamped → List Stamp
stamps_of entries = map (λ e. e.0) entries

-- the newest stamp of a list in rising stamp
abbrev pub newest_stamp : List Stamped → Option Stamp
newest_stamp [] = None
newest_stamp (e ∷ []) = Some e.0
newest_stamp (e ∷ f ∷ entries) = newest_stamp (f ∷ entries)

-- ---- what the calls do

-- a store that nothing was put into
abbrev pub new_store : Stamp → ℕ → Store
new_store start depth = record { pending = finite.empty; tentative = []; kept = []; attached = set.empty; next = start; depth = depth }

-- the member counts as attached
abbrev pub attaching : MemberId → Store → Store
attaching member s = record s { attached = set.insert s.attached member.0 }

-- whether the member is attached
abbrev pub is_attached : MemberId → Store → Bool
is_attached member s = set.contains s.attached member.0

-- the elements of the piece, and those of the other at the indices that the piece lacks
abbrev pub put_over : (piece old : Sparse) → Sparse
put_over piece old = finite.from_entries (finite.entries piece ++ finite.entries old)

-- what is pending of the member; nothing where it has no entry
abbrev pub pending_of : MemberId → Store → Sparse
pending_of member s = unwrap_or (finite.get s.pending member) finite.empty

-- the piece is put over what is pending of the member, which has an entry from then on
abbrev pub storing : MemberId → Sparse → Store → Store
storing member piece s = record s { pending = finite.insert s.pending member (put_over piece (pending_of member s)) }

-- as many tentative snapshots wait as a commit allows
abbrev pub is_full : Store → Bool
is_full s = nat_le 16 (length s.tentative)

-- what is pending becomes the last tentative snapshot, under the next stamp
abbrev pub committing : Store → Store
committing s = record s { pending = finite.empty; tentative = s.tentative ++ (s.next, s.pending) ∷ []; next = later s.next 1 }

-- the last so many of a list
abbrev pub newest : {X : Type 0} → ℕ → List X → List X
newest n xs = drop (length xs - n) xs

-- the tentative snapshots are closed, and the newest depth + 1 of all closed ones stay
abbrev pub closing : Store → Store
closing s = record s { tentative = []; kept = newest (s.depth + 1) (s.kept ++ s.tentative) }

-- other closed snapshots and another next stamp
abbrev pub promoting : List Stamped → Stamp → Store → Store
promoting entries next s = record s { kept = entries; next = next }

-- what isn't closed is gone, and its stamps are free again
abbrev pub discarding : Store → Store
discarding s = record s { pending = finite.empty; tentative = []; attached = set.empty; next = free_stamp s }

-- the entries of other stamps
abbrev pub without : Stamp → List Stamped → List Stamped
without stamp entries = filter (λ e. not (eq_by_cmp by_time stamp e.0)) entries

-- the closed snapshot of the stamp is gone
abbrev pub deleting : Stamp → Store → Store
deleting stamp s = record s { kept = without stamp s.kept }

-- whether a closed snapshot has the stamp
abbrev pub has_stamp : Stamp → Store → Bool
has_stamp stamp s = is_some (find by_time stamp s.kept)

-- ---- what is found

-- the entry that a closed snapshot has of a member
abbrev pub entry_in : MemberId → Option Snapshot → Result Sparse FindEnd
entry_in member None = Err NoStamp
entry_in member (Some snapshot) = entry (finite.get snapshot member)
  where
    entry : Option Sparse → Result Sparse FindEnd
    entry None = Err NotStored
    entry (Some elements) = Ok elements

-- what is found of a member at a stamp, among closed snapshots alone
abbrev pub found : MemberId → Stamp → Store → Result Sparse FindEnd
found member stamp s = if is_attached member s then entry_in member (find by_time stamp s.kept) else Err NotAttached

-- the newest closed stamp
abbrev pub latest : Store → Option Stamp
latest s = newest_stamp s.kept

-- ---- what is so of each store that the calls lead to

-- each stamp is below the next one of the list, and the last is below the bound
abbrev pub RiseBelow : List Stamp → Stamp → Type 0
RiseBelow [] bound = Unit {0}
RiseBelow (a ∷ []) bound = a.0 <ℤ bound.0
RiseBelow (a ∷ b ∷ stamps) bound = (a.0 <ℤ b.0) × RiseBelow (b ∷ stamps) bound

-- so many stamps from one on
abbrev pub counted : Stamp → ℕ → List Stamp
counted stamp zero = []
counted stamp (suc n) = stamp ∷ counted (later stamp 1) n

-- so many are kept and so many wait, and their stamps follow each other as they were given
pub record IsSound (s : Store) : Type 0 where
  -- never more than depth + 1 snapshots are kept
  pub few : length s.kept ≤ s.depth + 1
  -- at most 16 wait, and one more by a commit barrier
  pub waiting : length s.tentative ≤ 17
  -- kept stamps rise below the first free one
  pub rise : RiseBelow (stamps_of s.kept) (free_stamp s)
  -- tentative stamps are those from there to the next stamp
  pub follow : stamps_of s.tentative ≡ counted (free_stamp s) (length s.tentative)
