-- Reading from left to right, each element put where it belongs as it is read.
use Rattle.std.specs.Prelude.{◌≡◌, ℕ, zero, suc, ◌+◌, ℤ, Bool, ◌&&◌, ◌==◌, nat_lt, nat_le, List, Option, Some, None, Result, Ok, Err}
use Rattle.std.specs.Int.{w16, w64, cast_signed}
use Rattle.std.specs.FinMap as finite
use Rattle.fx_base.specs.declared.snapshot.Snapshot.{Snapshot}
use Rattle.fx_base.specs.declared.sparse.Sparse.{Sparse}
use Rattle.fx_store.specs.Packed.{◌>>=◌, only_if, byte_in, number_in}
use Rattle.fx_pack.specs.declared.fields.Fault.{Fault}
use Rattle.fx_pack.specs.declared.fields.Fault.TheVariants.{NotOne, NoMemory}

-- nothing is read, unless memory ran out
abbrev pub Fails : {Y : Type 0} → Fault → Option Y → Type 0
Fails NotOne read = read ≡ None
Fails NoMemory read = Unit {0}

-- what a function answers is what is read, unless memory ran out
abbrev pub Gives : {X Y : Type 0} → (X → Y) → Result X Fault → Option Y → Type 0
Gives view (Ok x) read = read ≡ Some (view x)
Gives view (Err fault) read = Fails fault read

-- the same of a function that put elements where they belong
abbrev pub Puts : {X Y : Type 0} → Sparse → (X → Y) → Result X Fault → Option (Sparse × Y) → Type 0
Puts elements view (Ok x) read = read ≡ Some (elements, view x)
Puts elements view (Err fault) read = Fails fault read

-- one element
abbrev pub element_in : List ℕ → Option (ℤ × List ℕ)
element_in bytes = number_in w64 bytes >>= λ word. Some (cast_signed w64 word.0, word.1)

-- so many elements, from an index on
unfoldable pub elements_put : (count index : ℕ) → List ℕ → Sparse → Option (Sparse × List ℕ)
elements_put zero index bytes elements = Some (elements, bytes)
elements_put (suc count) index bytes elements = do
  element ← element_in bytes
  elements_put count (index + 1) element.1 (finite.insert elements index element.0)

-- whether a run may stand here
abbrev pub may_stand : (least start count : ℕ) → Bool
may_stand least start count = nat_le least start && (nat_lt 0 count && nat_le (start + count) 256)

-- one run: its elements, the least start of the next run, and the bytes behind it
unfoldable pub run_put : ℕ → List ℕ → Sparse → Option (Sparse × (ℕ × List ℕ))
run_put least bytes elements = do
  start ← number_in w16 bytes
  count ← number_in w16 start.1
  put ← only_if (may_stand least start.0 count.0) (elements_put count.0 start.0 count.1 elements)
  Some (put.0, (start.0 + count.0 + 1, put.1))

-- so many runs
unfoldable pub runs_put : (count least : ℕ) → List ℕ → Sparse → Option (Sparse × List ℕ)
runs_put zero least bytes elements = Some (elements, bytes)
runs_put (suc count) least bytes elements = do
  run ← run_put least bytes elements
  runs_put count run.1.0 run.1.1 run.0

-- one member: its number, its elements, and the bytes behind it
unfoldable pub member_put : ℕ → List ℕ → Option (ℕ × Sparse × List ℕ)
member_put least bytes = do
  member ← byte_in bytes
  count ← number_in w16 member.1
  runs ← only_if (nat_le least member.0 && nat_lt member.0 8) (runs_put count.0 0 count.1 finite.empty)
  Some (member.0, runs.0, runs.1)

-- so many members
unfoldable pub members_put : (count least : ℕ) → List ℕ → Snapshot → Option (Snapshot × List ℕ)
members_put zero least bytes snapshot = Some (snapshot, bytes)
members_put (suc count) least bytes snapshot = do
  member ← member_put least bytes
  members_put count (member.0 + 1) member.2 (finite.insert snapshot (record { 0 = member.0 }) member.1)

-- the number of members behind the marks
unfoldable pub head_in : List ℕ → Option (ℕ × List ℕ)
head_in bytes = do
  first ← byte_in bytes
  second ← byte_in first.1
  version ← byte_in second.1
  count ← byte_in version.1
  only_if (first.0 == 70 && (second.0 == 88 && (version.0 == 1 && nat_le count.0 8))) (Some count)

-- a whole snapshot
unfoldable pub snapshot_put : List ℕ → Option (Snapshot × List ℕ)
snapshot_put bytes = do
  count ← head_in bytes
  members_put count.0 0 count.1 finite.empty
