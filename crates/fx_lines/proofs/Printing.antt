-- Which items can be printed, kind by kind, and a line as its words.
use Rattle.std.proofs.Common.{◌≡◌, ℕ, Bool, true, false, ◌&&◌, List, [], ◌∷◌, ◌++◌, refl, sym, ap}
use Rattle.std.specs.Prelude.{Some, None}
use Rattle.std.specs.List.{join_with_byte}
use Rattle.std.proofs.lemmas.List.{append-nil}
use Rattle.fx_item.specs.declared.item.Item.{Item}
use Rattle.fx_item.specs.declared.item.Item.TheVariants as item
use Rattle.fx_link.specs.declared.message.Message.{Message}
use Rattle.fx_link.specs.declared.message.Message.TheVariants as message
use Rattle.fx_lines.specs.Forms.{tabled, is_some_list}
use Rattle.fx_lines.specs.Items.{line_of, is_writable}
use Rattle.fx_lines.specs.Messages.{messages}
use Rattle.fx_text.specs.Names.{is_name}
use Rattle.fx_text.specs.Written.{spaced}
use Rattle.fx_lines.specs.Printing.{message_has_forms, has_forms, first_word, other_words}
use Rattle.fx_lines.specs.Slots.{is_join_kind}

and_true : (b : Bool) → (b && true) ≡ b
and_true true = refl
and_true false = refl

message_forms : (m : Message) → (tabled messages).has_words m ≡ message_has_forms m
message_forms (message.Join e kind) = and_true (is_join_kind kind)
message_forms (message.Jest e r slots) = and_true (is_some_list slots)
message_forms (message.Part e k elems) = refl
message_forms (message.Vote e k slot) = refl
message_forms (message.Est e k r slots) = and_true (is_some_list slots)
message_forms (message.Share e k shares) = refl
message_forms (message.Tell e k None) = refl
message_forms (message.Tell e k (Some known)) = and_true (is_some_list known.comm)
message_forms (message.Help e k shares) = refl
message_forms (message.Give e k shares) = refl

pub forms_by_kind : (i : Item) → is_writable i ≡ has_forms i
forms_by_kind (item.Kill p) = refl
forms_by_kind (item.Join p e kind) = and_true (is_join_kind kind)
forms_by_kind (item.Repaired p e size warn list) = refl
forms_by_kind (item.Callback p e name) = and_true (is_name name)
forms_by_kind (item.Init p e role id rank size warn) = refl
forms_by_kind (item.Print p e name list) = and_true (is_name name)
forms_by_kind (item.Attach p e g m) = refl
forms_by_kind (item.Store p e g m list) = refl
forms_by_kind (item.Commit p e g t) = refl
forms_by_kind (item.Restore p e g m t list) = refl
forms_by_kind (item.Refused p e statement g m t answer) = refl
forms_by_kind (item.Barrier p e k) = refl
forms_by_kind (item.Reduce p e k op n) = refl
forms_by_kind (item.Agree p e k n) = refl
forms_by_kind (item.Shift p e k d list) = refl
forms_by_kind (item.Group p e k g) = refl
forms_by_kind (item.Close p e k g) = refl
forms_by_kind (item.Drop p e k g t) = refl
forms_by_kind (item.Passed p e k) = refl
forms_by_kind (item.Value p e k n) = refl
forms_by_kind (item.Shifted p e k list) = refl
forms_by_kind (item.Created p e k g how list) = refl
forms_by_kind (item.Closed p e k g t) = refl
forms_by_kind (item.Failed p e k x) = refl
forms_by_kind (item.Revoked p e k x) = refl
forms_by_kind (item.Ended p) = refl
forms_by_kind (item.Send p q m) = message_forms m
forms_by_kind (item.Deliver p q m) = message_forms m
forms_by_kind (item.Told p q) = refl

by_words : (word : List ℕ) (words : List (List ℕ)) → join_with_byte 32 (word ∷ words) ≡ word ++ spaced words
by_words word [] = sym (append-nil word)
by_words word (next ∷ words) = ap (λ rest. word ++ (32 ∷ rest)) (by_words next words)

pub line_by_words : (i : Item) → line_of i ≡ first_word i ++ spaced (other_words i)
line_by_words i = by_words (first_word i) (other_words i)
