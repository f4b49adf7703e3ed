-- Fields as they are printed.
use Rattle.std.specs.Prelude.{ℕ, Bool, Option, List, [], ◌∷◌, ◌++◌, map}
use Rattle.fx_text.specs.Written.{spaced}
use Rattle.fx_lines.specs.Fields.{AProcess, AnEpoch, ACall, AGroup, AMember, AStamp, ANumber, AnIdentity, ACount, AName, AJoinKind, ARole, AnOp, AHow, AWarning, AStatement, AnAnswer, ASlot, SomeSlots, SomeSeats, word_form}
use Rattle.fx_lines.specs.Forms.{tabled}
use Rattle.fx_lines.specs.Lists as lists
use Rattle.fx_lines.specs.Messages.{holdings, messages}
use Rattle.fx_lines.specs.Printing.{first_word, other_words}
use Rattle.fx_item.specs.declared.item.Item.{Item}
use Rattle.fx_link.specs.declared.message.Known.{Known}
use Rattle.fx_link.specs.declared.message.Message.{Message}
use Rattle.fx_trace.specs.declared.field.Field.{Field}
use Rattle.fx_trace.specs.declared.field.Field.TheVariants as field
use Rattle.fx_trace.specs.declared.list.Tail.{Tail}
use Rattle.fx_trace.specs.declared.list.Tail.TheVariants as tail

-- the word of a field
abbrev pub word_of : Field → List ℕ
word_of (field.Process p) = (word_form AProcess).spell p.now
word_of (field.Epoch e) = (word_form AnEpoch).spell e.now
word_of (field.Call k) = (word_form ACall).spell k.now
word_of (field.Group g) = (word_form AGroup).spell g.now
word_of (field.Member m) = (word_form AMember).spell m.now
word_of (field.Stamp t) = (word_form AStamp).spell t.now
word_of (field.Number n) = (word_form ANumber).spell n.now
word_of (field.Identity i) = (word_form AnIdentity).spell i.now
word_of (field.Count n) = (word_form ACount).spell n.now
word_of (field.Name name) = (word_form AName).spell name.now
word_of (field.JoinKind s) = (word_form AJoinKind).spell s.now
word_of (field.Role r) = (word_form ARole).spell r.now
word_of (field.Op o) = (word_form AnOp).spell o.now
word_of (field.How h) = (word_form AHow).spell h.now
word_of (field.Warning w) = (word_form AWarning).spell w.now
word_of (field.Statement s) = (word_form AStatement).spell s.now
word_of (field.Answer a) = (word_form AnAnswer).spell a.now
word_of (field.Slot s) = (word_form ASlot).spell s.now
word_of (field.Slots list) = (word_form SomeSlots).spell list.now
word_of (field.Seats list) = (word_form SomeSeats).spell list.now

-- its numbers are of their types
abbrev pub is_in_type : Field → Bool
is_in_type (field.Process p) = (word_form AProcess).in_type p.now
is_in_type (field.Epoch e) = (word_form AnEpoch).in_type e.now
is_in_type (field.Call k) = (word_form ACall).in_type k.now
is_in_type (field.Group g) = (word_form AGroup).in_type g.now
is_in_type (field.Member m) = (word_form AMember).in_type m.now
is_in_type (field.Stamp t) = (word_form AStamp).in_type t.now
is_in_type (field.Number n) = (word_form ANumber).in_type n.now
is_in_type (field.Identity i) = (word_form AnIdentity).in_type i.now
is_in_type (field.Count n) = (word_form ACount).in_type n.now
is_in_type (field.Name name) = (word_form AName).in_type name.now
is_in_type (field.JoinKind s) = (word_form AJoinKind).in_type s.now
is_in_type (field.Role r) = (word_form ARole).in_type r.now
is_in_type (field.Op o) = (word_form AnOp).in_type o.now
is_in_type (field.How h) = (word_form AHow).in_type h.now
is_in_type (field.Warning w) = (word_form AWarning).in_type w.now
is_in_type (field.Statement s) = (word_form AStatement).in_type s.now
is_in_type (field.Answer a) = (word_form AnAnswer).in_type a.now
is_in_type (field.Slot s) = (word_form ASlot).in_type s.now
is_in_type (field.Slots list) = (word_form SomeSlots).in_type list.now
is_in_type (field.Seats list) = (word_form SomeSeats).in_type list.now

-- the words of what ends a row
abbrev pub tail_words : Tail → List (List ℕ)
tail_words tail.Nothing = []
tail_words (tail.Seats list) = (lists.tail lists.Seats).words list.now
tail_words (tail.Numbers list) = (lists.tail lists.Numbers).words list.now
tail_words (tail.Values list) = (lists.tail lists.Numbers).words list.now
tail_words (tail.Stamps list) = (lists.tail lists.Stamps).words list.now
tail_words (tail.Elements list) = (lists.tail lists.Elements).words list.now
tail_words (tail.Shares list) = (lists.tail lists.Shares).words list.now

-- the text of a row: a first word, and then the words of fields and of what ends them, each behind a space
abbrev pub row_text : List ℕ → List Field → Tail → List ℕ
row_text word fields t = word ++ spaced (map word_of fields ++ tail_words t)

-- the words of a row behind another one
abbrev pub row_words : List ℕ → List Field → Tail → List (List ℕ)
row_words word fields t = (word ∷ map word_of fields) ++ tail_words t

-- the text of an item, word by word
abbrev pub item_text : Item → List ℕ
item_text i = first_word i ++ spaced (other_words i)

-- the text of a message, and of what is held, each word behind a space
abbrev pub message_text : Message → List ℕ
message_text m = spaced ((tabled messages).words m)

abbrev pub holding_text : Option Known → List ℕ
holding_text known = spaced ((tabled holdings).words known)
