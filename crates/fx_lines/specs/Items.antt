-- The line of an item, and the item of a line.
use Rattle.std.specs.Prelude.{ℕ, Bool, List, [], ◌∷◌, codes, Result}
use Rattle.std.specs.List.{join_with_byte}
use Rattle.fx_item.specs.declared.item.Item.{Item}
use Rattle.fx_item.specs.declared.item.Item.TheVariants as item
use Rattle.fx_link.specs.declared.message.Message.{Message}
use Rattle.fx_lines.specs.declared.fault.ItemFault.{ItemFault}
use Rattle.fx_lines.specs.Forms.{Form, Table, tabled, as_one_field, pieces}
use Rattle.fx_lines.specs.Fields.{AProcess, AnEpoch, ACall, AGroup, AMember, AStamp, ANumber, AnIdentity, ACount, AName, AJoinKind, ARole, AnOp, AHow, AWarning, AStatement, AnAnswer, Fields, fields, Row, row}
use Rattle.fx_lines.specs.Lists.{Tail, Nothing, Seats, Numbers, Stamps, Elements, TailHeld, tail}
use Rattle.fx_lines.specs.Messages.{messages}

-- what ends an item's line: a list, if anything, or a message. Each is one field
pub data Ending : Type 0 where
  Plain : Tail → Ending
  AMessage : Ending

-- what each ending holds
abbrev pub EndingHeld : Ending → Type 0
EndingHeld (Plain t) = TailHeld t
EndingHeld AMessage = Message

-- how each is spelled and read
abbrev pub ending : (e : Ending) → Form (EndingHeld e)
ending (Plain t) = tail t
ending AMessage = as_one_field (tabled messages)

-- the kinds of items
pub data Kind : Type 0 where
  Kill : Kind
  Join : Kind
  Repaired : Kind
  Callback : Kind
  Init : Kind
  Print : Kind
  Attach : Kind
  Store : Kind
  Commit : Kind
  Restore : Kind
  Refused : Kind
  Barrier : Kind
  Reduce : Kind
  Agree : Kind
  Shift : Kind
  Group : Kind
  Close : Kind
  Drop : Kind
  Passed : Kind
  Value : Kind
  Shifted : Kind
  Created : Kind
  Closed : Kind
  Failed : Kind
  Revoked : Kind
  Ended : Kind
  Send : Kind
  Deliver : Kind
  Told : Kind

-- the table of items, a row for each kind
abbrev pub item_row : Kind → Row Ending
item_row Kill = row (codes "kill") (AProcess ∷ []) (Plain Nothing)
item_row Join = row (codes "join") (AProcess ∷ AnEpoch ∷ AJoinKind ∷ []) (Plain Nothing)
item_row Repaired = row (codes "repaired") (AProcess ∷ AnEpoch ∷ ACount ∷ AWarning ∷ []) (Plain Seats)
item_row Callback = row (codes "callback") (AProcess ∷ AnEpoch ∷ AName ∷ []) (Plain Nothing)
item_row Init = row (codes "init") (AProcess ∷ AnEpoch ∷ ARole ∷ AnIdentity ∷ ACount ∷ ACount ∷ AWarning ∷ []) (Plain Nothing)
item_row Print = row (codes "print") (AProcess ∷ AnEpoch ∷ AName ∷ []) (Plain Numbers)
item_row Attach = row (codes "attach") (AProcess ∷ AnEpoch ∷ AGroup ∷ AMember ∷ []) (Plain Nothing)
item_row Store = row (codes "store") (AProcess ∷ AnEpoch ∷ AGroup ∷ AMember ∷ []) (Plain Elements)
item_row Commit = row (codes "commit") (AProcess ∷ AnEpoch ∷ AGroup ∷ AStamp ∷ []) (Plain Nothing)
item_row Restore = row (codes "restore") (AProcess ∷ AnEpoch ∷ AGroup ∷ AMember ∷ AStamp ∷ []) (Plain Elements)
item_row Refused = row (codes "refused") (AProcess ∷ AnEpoch ∷ AStatement ∷ AGroup ∷ AMember ∷ AStamp ∷ AnAnswer ∷ []) (Plain Nothing)
item_row Barrier = row (codes "barrier") (AProcess ∷ AnEpoch ∷ ACall ∷ []) (Plain Nothing)
item_row Reduce = row (codes "reduce") (AProcess ∷ AnEpoch ∷ ACall ∷ AnOp ∷ ANumber ∷ []) (Plain Nothing)
item_row Agree = row (codes "agree") (AProcess ∷ AnEpoch ∷ ACall ∷ ANumber ∷ []) (Plain Nothing)
item_row Shift = row (codes "shift") (AProcess ∷ AnEpoch ∷ ACall ∷ ACount ∷ []) (Plain Numbers)
item_row Group = row (codes "group") (AProcess ∷ AnEpoch ∷ ACall ∷ AGroup ∷ []) (Plain Nothing)
item_row Close = row (codes "close") (AProcess ∷ AnEpoch ∷ ACall ∷ AGroup ∷ []) (Plain Nothing)
item_row Drop = row (codes "drop") (AProcess ∷ AnEpoch ∷ ACall ∷ AGroup ∷ AStamp ∷ []) (Plain Nothing)
item_row Passed = row (codes "passed") (AProcess ∷ AnEpoch ∷ ACall ∷ []) (Plain Nothing)
item_row Value = row (codes "value") (AProcess ∷ AnEpoch ∷ ACall ∷ ANumber ∷ []) (Plain Nothing)
item_row Shifted = row (codes "shifted") (AProcess ∷ AnEpoch ∷ ACall ∷ []) (Plain Numbers)
item_row Created = row (codes "created") (AProcess ∷ AnEpoch ∷ ACall ∷ AGroup ∷ AHow ∷ []) (Plain Stamps)
item_row Closed = row (codes "closed") (AProcess ∷ AnEpoch ∷ ACall ∷ AGroup ∷ AStamp ∷ []) (Plain Nothing)
item_row Failed = row (codes "failed") (AProcess ∷ AnEpoch ∷ ACall ∷ AProcess ∷ []) (Plain Nothing)
item_row Revoked = row (codes "revoked") (AProcess ∷ AnEpoch ∷ ACall ∷ AProcess ∷ []) (Plain Nothing)
item_row Ended = row (codes "ended") (AProcess ∷ []) (Plain Nothing)
item_row Send = row (codes "send") (AProcess ∷ AProcess ∷ []) AMessage
item_row Deliver = row (codes "deliver") (AProcess ∷ AProcess ∷ []) AMessage
item_row Told = row (codes "told") (AProcess ∷ AProcess ∷ []) (Plain Nothing)

-- the fields of each kind
abbrev pub ItemHeld : Kind → Type 0
ItemHeld kind = Fields (item_row kind).shapes (EndingHeld (item_row kind).end)

-- the kind of an item
abbrev pub item_kind : Item → Kind
item_kind (item.Kill p) = Kill
item_kind (item.Join p e kind) = Join
item_kind (item.Repaired p e size warn list) = Repaired
item_kind (item.Callback p e name) = Callback
item_kind (item.Init p e role id rank size warn) = Init
item_kind (item.Print p e name list) = Print
item_kind (item.Attach p e g m) = Attach
item_kind (item.Store p e g m list) = Store
item_kind (item.Commit p e g t) = Commit
item_kind (item.Restore p e g m t list) = Restore
item_kind (item.Refused p e statement g m t answer) = Refused
item_kind (item.Barrier p e k) = Barrier
item_kind (item.Reduce p e k op n) = Reduce
item_kind (item.Agree p e k n) = Agree
item_kind (item.Shift p e k d list) = Shift
item_kind (item.Group p e k g) = Group
item_kind (item.Close p e k g) = Close
item_kind (item.Drop p e k g t) = Drop
item_kind (item.Passed p e k) = Passed
item_kind (item.Value p e k n) = Value
item_kind (item.Shifted p e k list) = Shifted
item_kind (item.Created p e k g how list) = Created
item_kind (item.Closed p e k g t) = Closed
item_kind (item.Failed p e k x) = Failed
item_kind (item.Revoked p e k x) = Revoked
item_kind (item.Ended p) = Ended
item_kind (item.Send p q message) = Send
item_kind (item.Deliver p q message) = Deliver
item_kind (item.Told p q) = Told

-- the fields of an item, in the order of its row
abbrev pub item_apart : (i : Item) → ItemHeld (item_kind i)
item_apart (item.Kill p) = (p, tt)
item_apart (item.Join p e kind) = (p, (e, (kind, tt)))
item_apart (item.Repaired p e size warn list) = (p, (e, (size, (warn, list))))
item_apart (item.Callback p e name) = (p, (e, (name, tt)))
item_apart (item.Init p e role id rank size warn) = (p, (e, (role, (id, (rank, (size, (warn, tt)))))))
item_apart (item.Print p e name list) = (p, (e, (name, list)))
item_apart (item.Attach p e g m) = (p, (e, (g, (m, tt))))
item_apart (item.Store p e g m list) = (p, (e, (g, (m, list))))
item_apart (item.Commit p e g t) = (p, (e, (g, (t, tt))))
item_apart (item.Restore p e g m t list) = (p, (e, (g, (m, (t, list)))))
item_apart (item.Refused p e statement g m t answer) = (p, (e, (statement, (g, (m, (t, (answer, tt)))))))
item_apart (item.Barrier p e k) = (p, (e, (k, tt)))
item_apart (item.Reduce p e k op n) = (p, (e, (k, (op, (n, tt)))))
item_apart (item.Agree p e k n) = (p, (e, (k, (n, tt))))
item_apart (item.Shift p e k d list) = (p, (e, (k, (d, list))))
item_apart (item.Group p e k g) = (p, (e, (k, (g, tt))))
item_apart (item.Close p e k g) = (p, (e, (k, (g, tt))))
item_apart (item.Drop p e k g t) = (p, (e, (k, (g, (t, tt)))))
item_apart (item.Passed p e k) = (p, (e, (k, tt)))
item_apart (item.Value p e k n) = (p, (e, (k, (n, tt))))
item_apart (item.Shifted p e k list) = (p, (e, (k, list)))
item_apart (item.Created p e k g how list) = (p, (e, (k, (g, (how, list)))))
item_apart (item.Closed p e k g t) = (p, (e, (k, (g, (t, tt)))))
item_apart (item.Failed p e k x) = (p, (e, (k, (x, tt))))
item_apart (item.Revoked p e k x) = (p, (e, (k, (x, tt))))
item_apart (item.Ended p) = (p, tt)
item_apart (item.Send p q message) = (p, (q, message))
item_apart (item.Deliver p q message) = (p, (q, message))
item_apart (item.Told p q) = (p, (q, tt))

-- the item of a kind with such fields
abbrev pub item_whole : (kind : Kind) → ItemHeld kind → Item
item_whole Kill v = item.Kill v.0
item_whole Join v = item.Join v.0 v.1.0 v.1.1.0
item_whole Repaired v = item.Repaired v.0 v.1.0 v.1.1.0 v.1.1.1.0 v.1.1.1.1
item_whole Callback v = item.Callback v.0 v.1.0 v.1.1.0
item_whole Init v = item.Init v.0 v.1.0 v.1.1.0 v.1.1.1.0 v.1.1.1.1.0 v.1.1.1.1.1.0 v.1.1.1.1.1.1.0
item_whole Print v = item.Print v.0 v.1.0 v.1.1.0 v.1.1.1
item_whole Attach v = item.Attach v.0 v.1.0 v.1.1.0 v.1.1.1.0
item_whole Store v = item.Store v.0 v.1.0 v.1.1.0 v.1.1.1.0 v.1.1.1.1
item_whole Commit v = item.Commit v.0 v.1.0 v.1.1.0 v.1.1.1.0
item_whole Restore v = item.Restore v.0 v.1.0 v.1.1.0 v.1.1.1.0 v.1.1.1.1.0 v.1.1.1.1.1
item_whole Refused v = item.Refused v.0 v.1.0 v.1.1.0 v.1.1.1.0 v.1.1.1.1.0 v.1.1.1.1.1.0 v.1.1.1.1.1.1.0
item_whole Barrier v = item.Barrier v.0 v.1.0 v.1.1.0
item_whole Reduce v = item.Reduce v.0 v.1.0 v.1.1.0 v.1.1.1.0 v.1.1.1.1.0
item_whole Agree v = item.Agree v.0 v.1.0 v.1.1.0 v.1.1.1.0
item_whole Shift v = item.Shift v.0 v.1.0 v.1.1.0 v.1.1.1.0 v.1.1.1.1
item_whole Group v = item.Group v.0 v.1.0 v.1.1.0 v.1.1.1.0
item_whole Close v = item.Close v.0 v.1.0 v.1.1.0 v.1.1.1.0
item_whole Drop v = item.Drop v.0 v.1.0 v.1.1.0 v.1.1.1.0 v.1.1.1.1.0
item_whole Passed v = item.Passed v.0 v.1.0 v.1.1.0
item_whole Value v = item.Value v.0 v.1.0 v.1.1.0 v.1.1.1.0
item_whole Shifted v = item.Shifted v.0 v.1.0 v.1.1.0 v.1.1.1
item_whole Created v = item.Created v.0 v.1.0 v.1.1.0 v.1.1.1.0 v.1.1.1.1.0 v.1.1.1.1.1
item_whole Closed v = item.Closed v.0 v.1.0 v.1.1.0 v.1.1.1.0 v.1.1.1.1.0
item_whole Failed v = item.Failed v.0 v.1.0 v.1.1.0 v.1.1.1.0
item_whole Revoked v = item.Revoked v.0 v.1.0 v.1.1.0 v.1.1.1.0
item_whole Ended v = item.Ended v.0
item_whole Send v = item.Send v.0 v.1.0 v.1.1
item_whole Deliver v = item.Deliver v.0 v.1.0 v.1.1
item_whole Told v = item.Told v.0 v.1.0

-- the table, with its two directions
abbrev pub items : Table Kind Item
items = record {
  kinds = Kill ∷ Join ∷ Repaired ∷ Callback ∷ Init ∷ Print ∷ Attach ∷ Store ∷ Commit ∷ Restore ∷ Refused ∷ Barrier ∷ Reduce ∷ Agree ∷ Shift ∷ Group ∷ Close ∷ Drop ∷ Passed ∷ Value
      ∷ Shifted ∷ Created ∷ Closed ∷ Failed ∷ Revoked ∷ Ended ∷ Send ∷ Deliver ∷ Told ∷ [];
  word = λ kind. (item_row kind).word;
  Held = ItemHeld;
  form = λ kind. fields (item_row kind).shapes (ending (item_row kind).end);
  kind_of = item_kind;
  apart = item_apart;
  whole = item_whole;
}

-- the words of an item
abbrev pub item_words : Item → List (List ℕ)
item_words i = (tabled items).words i

-- the line of an item, without its line end: its words, with one space between each two
abbrev pub line_of : Item → List ℕ
line_of i = join_with_byte 32 (item_words i)

-- the item of a line, or why there is none. Two spaces in a row have an empty word between them
abbrev pub item_in : List ℕ → Result Item ItemFault
item_in line = (tabled items).read 0 (pieces 32 line)

-- each field has its form, and a list that is joined by commas has an entry
abbrev pub is_writable : Item → Bool
is_writable i = (tabled items).has_words i

-- each number is one of its field's type, as each number of a value in a program is
abbrev pub is_in_type : Item → Bool
is_in_type i = (tabled items).in_type i
