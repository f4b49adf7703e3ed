-- The table of items is sound, and so lines are read as they are printed.
use Rattle.std.proofs.Common.{◌≡◌, ℕ, true, List, refl, sym, ap, ◌∙◌}
use Rattle.std.specs.Prelude.{Some, Ok}
use Rattle.std.specs.List.{list_all, join_with_byte}
use Rattle.std.proofs.lemmas.List.Splits.{join_with_byte-slice_split}
use Rattle.fx_item.specs.declared.item.Item.{Item}
use Rattle.fx_item.specs.declared.item.Item.TheVariants as item
use Rattle.fx_lines.specs.Forms.{tabled, pieces, kind_named}
use Rattle.fx_lines.specs.Items.{Ending, Plain, AMessage, ending, Kind, Kill, Join, Repaired, Callback, Init, Print, Attach, Store, Commit, Restore, Refused, Barrier, Reduce, Agree, Shift, Group, Close, Drop, Passed, Value, Shifted, Created, Closed, Failed, Revoked, Ended, Send, Deliver, Told, item_row, ItemHeld, item_kind, item_apart, item_whole, items, item_words, line_of, item_in, is_writable, is_in_type}
use Rattle.fx_lines.specs.Messages.{messages}
use Rattle.fx_lines.proofs.Messages.{messages_sound}
use Rattle.fx_lines.proofs.Rows.{IsSoundTable, tail_sound, fields_sound, one_field_sound, tabled_sound, ok_same}
use Rattle.fx_lines.proofs.Separated.{no_space, pieces_again}
use Rattle.fx_lines.proofs.Sound.{IsSoundForm}

pub ending_sound : (e : Ending) → IsSoundForm (ending e)
ending_sound (Plain t) = tail_sound t
ending_sound AMessage = one_field_sound (tabled messages) (tabled_sound messages messages_sound)

pub named : (kind : Kind) → kind_named items (item_row kind).word ≡ Some kind
named Kill = refl
named Join = refl
named Repaired = refl
named Callback = refl
named Init = refl
named Print = refl
named Attach = refl
named Store = refl
named Commit = refl
named Restore = refl
named Refused = refl
named Barrier = refl
named Reduce = refl
named Agree = refl
named Shift = refl
named Group = refl
named Close = refl
named Drop = refl
named Passed = refl
named Value = refl
named Shifted = refl
named Created = refl
named Closed = refl
named Failed = refl
named Revoked = refl
named Ended = refl
named Send = refl
named Deliver = refl
named Told = refl

same : (i : Item) → item_whole (item_kind i) (item_apart i) ≡ i
same (item.Kill p) = refl
same (item.Join p e kind) = refl
same (item.Repaired p e size warn list) = refl
same (item.Callback p e name) = refl
same (item.Init p e role id rank size warn) = refl
same (item.Print p e name list) = refl
same (item.Attach p e g m) = refl
same (item.Store p e g m list) = refl
same (item.Commit p e g t) = refl
same (item.Restore p e g m t list) = refl
same (item.Refused p e statement g m t answer) = refl
same (item.Barrier p e k) = refl
same (item.Reduce p e k op n) = refl
same (item.Agree p e k n) = refl
same (item.Shift p e k d list) = refl
same (item.Group p e k g) = refl
same (item.Close p e k g) = refl
same (item.Drop p e k g t) = refl
same (item.Passed p e k) = refl
same (item.Value p e k n) = refl
same (item.Shifted p e k list) = refl
same (item.Created p e k g how list) = refl
same (item.Closed p e k g t) = refl
same (item.Failed p e k x) = refl
same (item.Revoked p e k x) = refl
same (item.Ended p) = refl
same (item.Send p q message) = refl
same (item.Deliver p q message) = refl
same (item.Told p q) = refl

parts : (kind : Kind) (v : ItemHeld kind) → ◌≡◌ {A = (kind : Kind) × ItemHeld kind} (item_kind (item_whole kind v), item_apart (item_whole kind v)) (kind, v)
parts Kill v = refl
parts Join v = refl
parts Repaired v = refl
parts Callback v = refl
parts Init v = refl
parts Print v = refl
parts Attach v = refl
parts Store v = refl
parts Commit v = refl
parts Restore v = refl
parts Refused v = refl
parts Barrier v = refl
parts Reduce v = refl
parts Agree v = refl
parts Shift v = refl
parts Group v = refl
parts Close v = refl
parts Drop v = refl
parts Passed v = refl
parts Value v = refl
parts Shifted v = refl
parts Created v = refl
parts Closed v = refl
parts Failed v = refl
parts Revoked v = refl
parts Ended v = refl
parts Send v = refl
parts Deliver v = refl
parts Told v = refl

plain : (kind : Kind) → list_all no_space (item_row kind).word ≡ true
plain Kill = refl
plain Join = refl
plain Repaired = refl
plain Callback = refl
plain Init = refl
plain Print = refl
plain Attach = refl
plain Store = refl
plain Commit = refl
plain Restore = refl
plain Refused = refl
plain Barrier = refl
plain Reduce = refl
plain Agree = refl
plain Shift = refl
plain Group = refl
plain Close = refl
plain Drop = refl
plain Passed = refl
plain Value = refl
plain Shifted = refl
plain Created = refl
plain Closed = refl
plain Failed = refl
plain Revoked = refl
plain Ended = refl
plain Send = refl
plain Deliver = refl
plain Told = refl

pub items_sound : IsSoundTable items
items_sound = record {
  named = named;
  same = same;
  parts = parts;
  plain = plain;
  sound = λ kind. fields_sound (item_row kind).shapes (ending (item_row kind).end) (ending_sound (item_row kind).end);
}

line_sound : IsSoundForm (tabled items)
line_sound = tabled_sound items items_sound

-- the words of a line are the words of its item
words_again : (i : Item) → is_writable i ≡ true → is_in_type i ≡ true → pieces 32 (line_of i) ≡ item_words i
words_again i writable fits =
    pieces_again 32 (items.word (item_kind i)) ((items.form (item_kind i)).words (item_apart i)) (line_sound.clean i writable fits)

pub read_again : (i : Item) → is_writable i ≡ true → is_in_type i ≡ true → item_in (line_of i) ≡ Ok i
read_again i writable fits = ap ((tabled items).read 0) (words_again i writable fits) ∙ line_sound.again i writable fits 0

pub printed_again : (line : List ℕ) (i : Item) → item_in line ≡ Ok i → (line_of i ≡ line) × (is_writable i ≡ true) × (is_in_type i ≡ true)
printed_again line i e =
    let b = line_sound.back 0 (pieces 32 line) i e in
    (ap (join_with_byte 32) b.0 ∙ join_with_byte-slice_split 32 line, b.1, b.2)

pub one_line_each : (a b : Item) → is_writable a ≡ true → is_in_type a ≡ true → is_writable b ≡ true → is_in_type b ≡ true → line_of a ≡ line_of b → a ≡ b
one_line_each a b a_writable a_fits b_writable b_fits e = ok_same a b (sym (read_again a a_writable a_fits) ∙ ap item_in e ∙ read_again b b_writable b_fits)
