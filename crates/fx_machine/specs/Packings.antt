-- Snapshots as lists, and as bytes.
use Rattle.std.specs.Prelude.{ℕ, ℤ, List, [], ◌∷◌, map, Option, Some, None, option_and_then}
use Rattle.std.specs.List.{flat_map}
use Rattle.fx_store.specs.Packed.{Section, text_bytes, runs_of, text_in, indexed}

-- elements by index, in rising index
abbrev pub Piece : Type 0
Piece = List (ℕ × ℤ)

-- what was stored of each member, in rising member
abbrev pub Snapshot : Type 0
Snapshot = List (ℕ × Piece)

-- snapshots as bytes, and bytes as a snapshot where they are exactly one
pub record Packing : Type 0 where
  pub pack : Snapshot → List ℕ
  pub unpack : List ℕ → Option Snapshot

-- a member with the longest runs of its elements
abbrev pub section_of : ℕ × Piece → Section
section_of m = record { member = m.0; runs = runs_of m.1 }

-- the elements of a member
abbrev pub member_of : Section → ℕ × Piece
member_of section = (section.member, flat_map indexed section.runs)

-- what is read counts where no byte is left behind it
abbrev pub all_read : List Section × List ℕ → Option Snapshot
all_read (sections, []) = Some (map member_of sections)
all_read (sections, byte ∷ bytes) = None

-- the spelling of snapshots
abbrev pub spelling : Packing
spelling = record {
  pack = λ snapshot. text_bytes (map section_of snapshot);
  unpack = λ bytes. option_and_then all_read (text_in bytes);
}
