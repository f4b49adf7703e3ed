-- The shapes of the fields that are one word, and rows of such fields.
use Rattle.std.specs.Prelude.{ℕ, ℤ, ◌^◌, Bool, List, [], ◌∷◌}
use Rattle.fx_base.specs.declared.names.CallNo.{CallNo}
use Rattle.fx_base.specs.declared.names.Epoch.{Epoch}
use Rattle.fx_base.specs.declared.names.GroupId.{GroupId}
use Rattle.fx_base.specs.declared.names.How.{How}
use Rattle.fx_base.specs.declared.names.Ident.{Ident}
use Rattle.fx_base.specs.declared.names.MemberId.{MemberId}
use Rattle.fx_base.specs.declared.names.Op.{Op}
use Rattle.fx_base.specs.declared.names.Proc.{Proc}
use Rattle.fx_base.specs.declared.names.Role.{Role}
use Rattle.fx_base.specs.declared.names.Stamp.{Stamp}
use Rattle.fx_item.specs.declared.answer.Answer.{Answer}
use Rattle.fx_item.specs.declared.answer.Refusable.{Refusable}
use Rattle.fx_link.specs.declared.slot.Slot.{Slot}
use Rattle.fx_lines.specs.Forms.{WordForm, Form, natural, integer, wrapped, pair, joined, before}
use Rattle.fx_lines.specs.Names.{name}
use Rattle.fx_lines.specs.Choices.{a_role, an_op, a_how, a_warning, a_statement, an_answer}
use Rattle.fx_lines.specs.Slots.{a_process, a_slot, a_join_kind, some_slots}

-- what a field of one word is; `ACount` is a rank, a number of places, a round or a distance
pub data Shape : Type 0 where
  AProcess : Shape
  AnEpoch : Shape
  ACall : Shape
  AGroup : Shape
  AMember : Shape
  AStamp : Shape
  ANumber : Shape
  AnIdentity : Shape
  ACount : Shape
  AName : Shape
  AJoinKind : Shape
  ARole : Shape
  AnOp : Shape
  AHow : Shape
  AWarning : Shape
  AStatement : Shape
  AnAnswer : Shape
  ASlot : Shape
  SomeSlots : Shape
  SomeSeats : Shape

-- the values of each shape
abbrev pub Said : Shape → Type 0
Said AProcess = Proc
Said AnEpoch = Epoch
Said ACall = CallNo
Said AGroup = GroupId
Said AMember = MemberId
Said AStamp = Stamp
Said ANumber = ℤ
Said AnIdentity = Ident
Said ACount = ℕ
Said AName = List ℕ
Said AJoinKind = Slot
Said ARole = Role
Said AnOp = Op
Said AHow = How
Said AWarning = Bool
Said AStatement = Refusable
Said AnAnswer = Answer
Said ASlot = Slot
Said SomeSlots = List Slot
Said SomeSeats = List (Ident × Proc)

-- an epoch
abbrev pub an_epoch : WordForm Epoch
an_epoch = wrapped (λ n. record { 0 = n }) (λ e. e.0) (natural (2 ^ 32))

-- the number of a call
abbrev pub a_call : WordForm CallNo
a_call = wrapped (λ n. record { 0 = n }) (λ k. k.0) (natural (2 ^ 32))

-- a data group
abbrev pub a_group : WordForm GroupId
a_group = wrapped (λ n. record { 0 = n }) (λ g. g.0) (natural 256)

-- a member of a data group
abbrev pub a_member : WordForm MemberId
a_member = wrapped (λ n. record { 0 = n }) (λ m. m.0) (natural 256)

-- a time stamp
abbrev pub a_stamp : WordForm Stamp
a_stamp = wrapped (λ z. record { 0 = z }) (λ t. t.0) integer

-- an identity
abbrev pub an_identity : WordForm Ident
an_identity = wrapped (λ n. record { 0 = n }) (λ i. i.0) (natural 256)

-- an identity and the process that has it, with `=` between them
abbrev pub a_seat : WordForm (Ident × Proc)
a_seat = pair 61 an_identity a_process

-- how each shape is spelled and read
abbrev pub word_form : (shape : Shape) → WordForm (Said shape)
word_form AProcess = a_process
word_form AnEpoch = an_epoch
word_form ACall = a_call
word_form AGroup = a_group
word_form AMember = a_member
word_form AStamp = a_stamp
word_form ANumber = integer
word_form AnIdentity = an_identity
word_form ACount = natural 256
word_form AName = name
word_form AJoinKind = a_join_kind
word_form ARole = a_role
word_form AnOp = an_op
word_form AHow = a_how
word_form AWarning = a_warning
word_form AStatement = a_statement
word_form AnAnswer = an_answer
word_form ASlot = a_slot
word_form SomeSlots = some_slots
word_form SomeSeats = joined 44 a_seat

-- the values of a row of fields, and what ends the row
abbrev pub Fields : List Shape → Type 0 → Type 0
Fields [] End = End
Fields (shape ∷ shapes) End = Said shape × Fields shapes End

-- a row of fields from the left, and then its end
abbrev pub fields : {End : Type 0} → (shapes : List Shape) → Form End → Form (Fields shapes End)
fields [] end = end
fields (shape ∷ shapes) end = before (word_form shape) (fields shapes end)

-- a row of a table: the word of its kind, its fields of one word, and what ends it, by a name
pub record Row (End : Type 0) : Type 0 where
  pub word : List ℕ
  pub shapes : List Shape
  pub end : End

-- such a row
abbrev pub row : {End : Type 0} → List ℕ → List Shape → End → Row End
row word shapes end = record { word = word; shapes = shapes; end = end }
