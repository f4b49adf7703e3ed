-- Which items can be printed, told kind by kind, and a line as its words.
use Rattle.std.specs.Prelude.{ℕ, Bool, true, List, Some}
use Rattle.fx_item.specs.declared.item.Item.{Item}
use Rattle.fx_item.specs.declared.item.Item.TheVariants as item
use Rattle.fx_link.specs.declared.message.Message.{Message}
use Rattle.fx_link.specs.declared.message.Message.TheVariants as message
use Rattle.fx_lines.specs.Forms.{is_some_list}
use Rattle.fx_lines.specs.Items.{item_row, item_kind, item_apart, items}
use Rattle.fx_text.specs.Names.{is_name}
use Rattle.fx_lines.specs.Slots.{is_join_kind}

-- a message joins with one of four slots, and has a slot, or a seat, where such a list is joined by commas
abbrev pub message_has_forms : Message → Bool
message_has_forms (message.Join e kind) = is_join_kind kind
message_has_forms (message.Jest e r slots) = is_some_list slots
message_has_forms (message.Est e k r slots) = is_some_list slots
message_has_forms (message.Tell e k (Some known)) = is_some_list known.comm
message_has_forms m = true

-- a process joins with one of four slots, a name is a name, and a message has its forms; every other item can be printed
abbrev pub has_forms : Item → Bool
has_forms (item.Join p e kind) = is_join_kind kind
has_forms (item.Callback p e name) = is_name name
has_forms (item.Print p e name list) = is_name name
has_forms (item.Send p q m) = message_has_forms m
has_forms (item.Deliver p q m) = message_has_forms m
has_forms i = true

-- the first word of an item's line, and the words behind it
abbrev pub first_word : Item → List ℕ
first_word i = (item_row (item_kind i)).word

abbrev pub other_words : Item → List (List ℕ)
other_words i = (items.form (item_kind i)).words (item_apart i)
