-- A snapshot as bytes: the grammar, the spelling of a snapshot, and the reading of bytes.
use Rattle.std.specs.Prelude.{◌≡◌, IsTrue, ℕ, zero, suc, ◌+◌, ◌-◌, ◌^◌, ℤ, pos, negsuc, Bool, true, ◌&&◌, if◌then◌else◌, ◌==◌, nat_lt, nat_le, List, [], ◌∷◌, ◌++◌, length, map, take, drop, Option, Some, None}
use Rattle.std.specs.Int.{Width, w16, w64, byte_len, to_be_bytes, from_be_bytes, cast_signed, cast_unsigned}
use Rattle.std.specs.List.{flat_map, enumerate_from, list_all}
use Rattle.std.specs.FinMap as finite
use Rattle.fx_base.specs.declared.names.MemberId.{MemberId}
use Rattle.fx_base.specs.declared.snapshot.Snapshot.{Snapshot}
use Rattle.fx_base.specs.declared.sparse.Sparse.{Sparse}

-- ---- the parts of a text

-- elements at indices that follow each other, from the first index on
pub record Run : Type 0 where
  pub start : ℕ
  pub elements : List ℤ

-- a member with its runs
pub record Section : Type 0 where
  pub member : ℕ
  pub runs : List Run

-- ---- the bytes of the parts: of a number the highest byte comes first

-- eight bytes, in two's complement
abbrev pub element_bytes : ℤ → List ℕ
element_bytes element = to_be_bytes w64 (cast_unsigned w64 element)

-- two bytes of the first index, two of the length, and the elements
abbrev pub run_bytes : Run → List ℕ
run_bytes run = to_be_bytes w16 run.start ++ (to_be_bytes w16 (length run.elements) ++ flat_map element_bytes run.elements)

-- one byte of the member's number, two of the number of runs, and the runs
abbrev pub section_bytes : Section → List ℕ
section_bytes section = section.member ∷ (to_be_bytes w16 (length section.runs) ++ flat_map run_bytes section.runs)

-- the letters FX, the version, one byte of the number of members, and the members
abbrev pub text_bytes : List Section → List ℕ
text_bytes sections = 70 ∷ 88 ∷ 1 ∷ length sections ∷ flat_map section_bytes sections

-- ---- the rules of the parts

-- an element has 64 bits
abbrev pub is_element : ℤ → Bool
is_element (pos n) = nat_lt n (2 ^ 63)
is_element (negsuc n) = nat_lt n (2 ^ 63)

-- the index behind a run
abbrev pub run_end : Run → ℕ
run_end run = run.start + length run.elements

-- a run has an element, and its indices are below 256
abbrev pub is_run : Run → Bool
is_run run = nat_lt 0 (length run.elements) && (nat_le (run_end run) 256 && list_all is_element run.elements)

-- runs rise, and an index is left out between one and the next
abbrev pub are_apart : List Run → Bool
are_apart [] = true
are_apart (run ∷ []) = true
are_apart (run ∷ next ∷ runs) = nat_lt (run_end run) next.start && are_apart (next ∷ runs)

-- a member is one of 0 to 7, and its runs are in order
abbrev pub is_section : Section → Bool
is_section section = nat_lt section.member 8 && (list_all is_run section.runs && are_apart section.runs)

-- members rise
abbrev pub members_rise : List Section → Bool
members_rise [] = true
members_rise (section ∷ []) = true
members_rise (section ∷ next ∷ sections) = nat_lt section.member next.member && members_rise (next ∷ sections)

-- there are at most eight members, each in order, and they rise
abbrev pub is_text : List Section → Bool
is_text sections = nat_le (length sections) 8 && (list_all is_section sections && members_rise sections)

-- ---- what the parts mean

-- each index of a run with its element
abbrev pub indexed : Run → List (ℕ × ℤ)
indexed run = enumerate_from run.start run.elements

-- a member has the elements of its runs
abbrev pub meaning_of : Section → MemberId × Sparse
meaning_of section = (record { 0 = section.member }, finite.from_sorted (flat_map indexed section.runs))

-- a snapshot has the members of the text
abbrev pub snapshot_of : List Section → Snapshot
snapshot_of sections = finite.from_sorted (map meaning_of sections)

-- ---- the grammar

-- the bytes are those of parts in order that mean the snapshot
pub record Spells (bytes : List ℕ) (snapshot : Snapshot) : Type 0 where
  pub sections : List Section
  pub in_order : IsTrue (is_text sections)
  pub spelled : bytes ≡ text_bytes sections
  pub meant : snapshot ≡ snapshot_of sections

-- ---- the spelling of a snapshot

-- an element is put before runs: into the first one where that begins at the next index
abbrev pub put_first : ℕ × ℤ → List Run → List Run
put_first entry [] = record { start = entry.0; elements = entry.1 ∷ [] } ∷ []
put_first entry (run ∷ runs) =
    if run.start == entry.0 + 1
    then record { start = entry.0; elements = entry.1 ∷ run.elements } ∷ runs
    else record { start = entry.0; elements = entry.1 ∷ [] } ∷ run ∷ runs

-- the longest runs of elements in rising index
abbrev pub runs_of : List (ℕ × ℤ) → List Run
runs_of [] = []
runs_of (entry ∷ entries) = put_first entry (runs_of entries)

-- a member with the longest runs of its elements
abbrev pub section_of : MemberId × Sparse → Section
section_of entry = record { member = entry.0.0; runs = runs_of (finite.entries entry.1) }

-- the parts of a snapshot
abbrev pub sections_of : Snapshot → List Section
sections_of snapshot = map section_of (finite.entries snapshot)

-- the spelling of a snapshot
abbrev pub spelling_of : Snapshot → List ℕ
spelling_of snapshot = text_bytes (sections_of snapshot)

-- members are below 8, indices below 256, and elements have 64 bits
abbrev pub has_spelling : Snapshot → Bool
has_spelling snapshot =
    list_all
    (λ member. nat_lt member.0.0 8 && list_all (λ entry. nat_lt entry.0 256 && is_element entry.1) (finite.entries member.1))
    (finite.entries snapshot)

-- ---- the reading of bytes, from the left: what is read, and the bytes behind it

-- read on behind what was read
infixl 10 ◌>>=◌
abbrev pub ◌>>=◌ : {A B : Type 0} → Option A → (A → Option B) → Option B
None >>= f = None
(Some x) >>= f = f x

-- what is read, where the test holds
abbrev pub only_if : {A : Type 0} → Bool → Option A → Option A
only_if test read = if test then read else None

-- one byte
abbrev pub byte_in : List ℕ → Option (ℕ × List ℕ)
byte_in [] = None
byte_in (byte ∷ bytes) = Some (byte, bytes)

-- the number of so many bits
abbrev pub number_in : Width → List ℕ → Option (ℕ × List ℕ)
number_in w bytes = only_if (nat_le (byte_len w) (length bytes)) (Some (from_be_bytes w (take (byte_len w) bytes), drop (byte_len w) bytes))

-- so many elements
unfoldable pub elements_in : ℕ → List ℕ → Option (List ℤ × List ℕ)
elements_in zero bytes = Some ([], bytes)
elements_in (suc count) bytes = do
  word ← number_in w64 bytes
  others ← elements_in count word.1
  Some (cast_signed w64 word.0 ∷ others.0, others.1)

-- a run that begins at `least` or later
unfoldable pub run_in : ℕ → List ℕ → Option (Run × List ℕ)
run_in least bytes = do
  start ← number_in w16 bytes
  count ← number_in w16 start.1
  elements ← only_if (nat_le least start.0 && (nat_lt 0 count.0 && nat_le (start.0 + count.0) 256)) (elements_in count.0 count.1)
  Some (record { start = start.0; elements = elements.0 }, elements.1)

-- so many runs, the first of which begins at `least` or later
unfoldable pub runs_in : ℕ → ℕ → List ℕ → Option (List Run × List ℕ)
runs_in zero least bytes = Some ([], bytes)
runs_in (suc count) least bytes = do
  run ← run_in least bytes
  others ← runs_in count (run_end run.0 + 1) run.1
  Some (run.0 ∷ others.0, others.1)

-- a member whose number is `least` or more
unfoldable pub section_in : ℕ → List ℕ → Option (Section × List ℕ)
section_in least bytes = do
  member ← byte_in bytes
  count ← number_in w16 member.1
  runs ← only_if (nat_le least member.0 && nat_lt member.0 8) (runs_in count.0 0 count.1)
  Some (record { member = member.0; runs = runs.0 }, runs.1)

-- so many members, the first of which has the number `least` or more
unfoldable pub sections_in : ℕ → ℕ → List ℕ → Option (List Section × List ℕ)
sections_in zero least bytes = Some ([], bytes)
sections_in (suc count) least bytes = do
  section ← section_in least bytes
  others ← sections_in count (section.0.member + 1) section.1
  Some (section.0 ∷ others.0, others.1)

-- the parts of a text
unfoldable pub text_in : List ℕ → Option (List Section × List ℕ)
text_in bytes = do
  first ← byte_in bytes
  second ← byte_in first.1
  version ← byte_in second.1
  count ← byte_in version.1
  only_if (first.0 == 70 && (second.0 == 88 && (version.0 == 1 && nat_le count.0 8))) (sections_in count.0 0 count.1)

-- the snapshot at the front of the bytes, and how many bytes it takes
abbrev pub snapshot_in : List ℕ → Option (Snapshot × ℕ)
snapshot_in bytes = do
  text ← text_in bytes
  Some (snapshot_of text.0, length bytes - length text.1)
