-- What a member says in a ballot.
use Rattle.std.specs.Prelude.{ℕ, Bool, true, false, if◌then◌else◌, List, [], ◌∷◌, codes, Option, None}
use Rattle.std.specs.List.{join_with_byte, find}
use Rattle.std.specs.Option.{option_map}
use Rattle.std.specs.Str.{bytes_eq}
use Rattle.fx_base.specs.declared.names.Proc.{Proc}
use Rattle.fx_link.specs.declared.slot.Slot.{Slot}
use Rattle.fx_link.specs.declared.slot.Slot.TheVariants as slot
use Rattle.fx_lines.specs.Forms.{WordForm, choice, wrapped, natural, integer, joined, pieces}

-- a process
abbrev pub a_process : WordForm Proc
a_process = wrapped (λ n. record { 0 = n }) (λ p. p.0) (natural 256)

-- the word of a slot, or the part of it before the `=`
abbrev pub slot_name : Slot → List ℕ
slot_name slot.Start = codes "start"
slot_name slot.Spare = codes "spare"
slot_name slot.Error = codes "error"
slot_name slot.Final = codes "final"
slot_name slot.Yes = codes "yes"
slot_name (slot.Flag n) = codes "yes"
slot_name slot.Fresh = codes "fresh"
slot_name slot.Kept = codes "kept"
slot_name slot.Gone = codes "gone"
slot_name (slot.NoLost p) = codes "nolost"
slot_name (slot.NoLeft p) = codes "noleft"
slot_name slot.Lost = codes "lost"
slot_name slot.Left = codes "left"

-- the parts of a slot's word: its name, and for three of them a flag or a process
abbrev pub slot_parts : Slot → List (List ℕ)
slot_parts (slot.Flag n) = slot_name (slot.Flag n) ∷ integer.spell n ∷ []
slot_parts (slot.NoLost p) = slot_name (slot.NoLost p) ∷ a_process.spell p ∷ []
slot_parts (slot.NoLeft p) = slot_name (slot.NoLeft p) ∷ a_process.spell p ∷ []
slot_parts s = slot_name s ∷ []

-- the slots without a number
abbrev pub bare_slots : List Slot
bare_slots = slot.Start ∷ slot.Spare ∷ slot.Error ∷ slot.Final ∷ slot.Yes ∷ slot.Fresh ∷ slot.Kept ∷ slot.Gone ∷ slot.Lost ∷ slot.Left ∷ []

-- the slot of a name and a number
abbrev pub numbered_slot : List ℕ → List ℕ → Option Slot
numbered_slot name number = if bytes_eq name (codes "yes") then option_map slot.Flag (integer.read number)
    else (if bytes_eq name (codes "nolost") then option_map slot.NoLost (a_process.read number)
    else (if bytes_eq name (codes "noleft") then option_map slot.NoLeft (a_process.read number) else None))

-- the slot of such parts
abbrev pub slot_in : List (List ℕ) → Option Slot
slot_in [] = None
slot_in (name ∷ []) = find (λ s. bytes_eq (slot_name s) name) bare_slots
slot_in (name ∷ number ∷ []) = numbered_slot name number
slot_in (name ∷ number ∷ third ∷ more) = None

-- the number of a slot is within its type
abbrev pub slot_in_type : Slot → Bool
slot_in_type (slot.Flag n) = integer.in_type n
slot_in_type (slot.NoLost p) = a_process.in_type p
slot_in_type (slot.NoLeft p) = a_process.in_type p
slot_in_type s = true

-- any slot
abbrev pub a_slot : WordForm Slot
a_slot = record {
  spell = λ s. join_with_byte 61 (slot_parts s);
  read = λ word. slot_in (pieces 61 word);
  has_word = λ s. true;
  in_type = slot_in_type;
}

-- a slot that a process joins the ballot of an epoch with
abbrev pub is_join_kind : Slot → Bool
is_join_kind slot.Start = true
is_join_kind slot.Spare = true
is_join_kind slot.Error = true
is_join_kind slot.Final = true
is_join_kind s = false

-- one of those four
abbrev pub a_join_kind : WordForm Slot
a_join_kind = choice slot_name is_join_kind (slot.Start ∷ slot.Spare ∷ slot.Error ∷ slot.Final ∷ [])

-- a slot for each member, joined by commas; at least one
abbrev pub some_slots : WordForm (List Slot)
some_slots = joined 44 a_slot
