-- The lists that end a line: the word `:` and then a word for each entry.
use Rattle.std.specs.Prelude.{ℕ, ℤ, ◌^◌, true, List, if◌then◌else◌, Option, Some, None}
use Rattle.std.specs.FinMap.{FinMap, entries, from_sorted, is_sorted}
use Rattle.std.specs.List.{list_all}
use Rattle.std.specs.Ordering.{nat_cmp}
use Rattle.std.specs.declared.cmp.Ordering.{Ordering}
use Rattle.fx_base.specs.Keys.{by_time}
use Rattle.fx_base.specs.declared.names.Ident.{Ident}
use Rattle.fx_base.specs.declared.names.Proc.{Proc}
use Rattle.fx_base.specs.declared.names.Stamp.{Stamp}
use Rattle.fx_lines.specs.Forms.{WordForm, Form, natural, integer, pair, list_of, listed, nothing, or_bad_field}
use Rattle.fx_lines.specs.Fields.{a_seat, a_stamp}
use Rattle.fx_lines.specs.Hex.{hex}

-- the map with these entries, where their keys rise
abbrev pub risen : {K X : Type 0} → (order : K → K → Ordering) → Option (List (K × X)) → Option (FinMap order X)
risen order None = None
risen order (Some es) = if is_sorted order es then Some (from_sorted es) else None

-- a map, as the list of its entries in rising order of their keys. Each entry has a word
abbrev pub map_of : {K X : Type 0} → (order : K → K → Ordering) → WordForm (K × X) → Form (FinMap order X)
map_of order each = record {
  words = λ m. (list_of each).words (entries m);
  read = λ k words. or_bad_field k (risen order (listed each.read words));
  has_words = λ m. true;
  in_type = λ m. list_all each.in_type (entries m);
}

-- an index and its element
abbrev pub an_element : WordForm (ℕ × ℤ)
an_element = pair 61 (natural (2 ^ 32)) integer

-- a stamp and its bytes
abbrev pub a_share : WordForm (Stamp × List ℕ)
a_share = pair 61 a_stamp hex

-- what ends a row
pub data Tail : Type 0 where
  Nothing : Tail
  Seats : Tail
  Numbers : Tail
  Stamps : Tail
  Elements : Tail
  Shares : Tail

-- what each of them holds
abbrev pub TailHeld : Tail → Type 0
TailHeld Nothing = Unit {0}
TailHeld Seats = List (Ident × Proc)
TailHeld Numbers = List ℤ
TailHeld Stamps = List Stamp
TailHeld Elements = FinMap nat_cmp ℤ
TailHeld Shares = FinMap by_time (List ℕ)

-- how each is spelled and read
abbrev pub tail : (t : Tail) → Form (TailHeld t)
tail Nothing = nothing
tail Seats = list_of a_seat
tail Numbers = list_of integer
tail Stamps = list_of a_stamp
tail Elements = map_of nat_cmp an_element
tail Shares = map_of by_time a_share
