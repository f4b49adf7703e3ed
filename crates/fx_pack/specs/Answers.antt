-- What unpacking answers.
use Rattle.std.specs.Prelude.{◌≡◌, ◌≤◌, ℕ, List, length, take, Option, Some, None}
use Rattle.fx_base.specs.declared.snapshot.Snapshot.{Snapshot}
use Rattle.fx_store.specs.Packed.{Spells}
use Rattle.fx_pack.specs.declared.reading.Unpacked.{Unpacked}
use Rattle.fx_pack.specs.declared.reading.Unpacked.TheVariants.{Read, NotOne}

-- the answer is what was read
abbrev pub IsReading : Option (Snapshot × ℕ) → Unpacked → Type 0
IsReading read (Read snapshot used) = read ≡ Some (snapshot, used)
IsReading read NotOne = read ≡ None

-- what is read is spelled by that many bytes, and where nothing is read no front of the bytes spells a snapshot
abbrev pub IsFront : List ℕ → Unpacked → Type 0
IsFront bytes (Read snapshot used) = (used ≤ length bytes) × Spells (take used bytes) snapshot
IsFront bytes NotOne = (k : ℕ) (snapshot : Snapshot) → Spells (take k bytes) snapshot → ⊥
