-- Each shape of a field is read as it is spelled.
use Rattle.std.proofs.Common.{◌≡◌, ℕ, ◌^◌, Bool, true, false, List, [], ◌∷◌, refl, sym, ap, subst, ◌∙◌, arith, inl, inr}
use Rattle.std.specs.Prelude.{Some, None, codes}
use Rattle.std.specs.List.{list_all, find, join_with_byte}
use Rattle.std.specs.Option.{option_map}
use Rattle.std.specs.Str.{bytes_eq}
use Rattle.std.proofs.lemmas.Bool.{cases_Bool}
use Rattle.std.proofs.lemmas.Slice.Eq.{bytes_eq-Decides}
use Rattle.fx_base.specs.declared.names.How.{How}
use Rattle.fx_base.specs.declared.names.How.TheVariants as how
use Rattle.fx_base.specs.declared.names.Op.{Op}
use Rattle.fx_base.specs.declared.names.Op.TheVariants as op
use Rattle.fx_base.specs.declared.names.Role.{Role}
use Rattle.fx_base.specs.declared.names.Role.TheVariants as role
use Rattle.fx_item.specs.declared.answer.Answer.{Answer}
use Rattle.fx_item.specs.declared.answer.Answer.TheVariants as answer
use Rattle.fx_item.specs.declared.answer.Refusable.{Refusable}
use Rattle.fx_item.specs.declared.answer.Refusable.TheVariants as refusable
use Rattle.fx_link.specs.declared.slot.Slot.{Slot}
use Rattle.fx_link.specs.declared.slot.Slot.TheVariants as slot
use Rattle.fx_lines.specs.Choices.{role_word, a_role, op_word, an_op, how_word, a_how, warning_word, a_warning, statement_word, a_statement, answer_word, an_answer}
use Rattle.fx_lines.specs.Fields.{Shape, AProcess, AnEpoch, ACall, AGroup, AMember, AStamp, ANumber, AnIdentity, ACount, AName, AJoinKind, ARole, AnOp, AHow, AWarning, AStatement, AnAnswer, ASlot, SomeSlots, SomeSeats, an_epoch, a_call, a_group, a_member, a_stamp, an_identity, a_seat, word_form}
use Rattle.fx_lines.specs.Forms.{WordForm, natural, integer, pieces}
use Rattle.fx_lines.specs.Names.{name}
use Rattle.fx_lines.specs.Slots.{a_process, slot_name, slot_parts, bare_slots, numbered_slot, slot_in, slot_in_type, a_slot, is_join_kind, a_join_kind}
use Rattle.fx_lines.proofs.NumberForms.{natural_sound, integer_sound, wrapped_sound, mapped}
use Rattle.fx_lines.proofs.Separated.{no_space, no_comma, no_equals, comma_no_space, equals_no_comma}
use Rattle.fx_lines.proofs.Sound.{IsSoundWord}
use Rattle.fx_lines.proofs.WordForms.{looser, name_sound, found_passes, choice_sound, parts_back, two_parts, two_clean, pair_sound, joined_sound}

-- ---- numbers with names

pub process_sound : IsSoundWord no_equals a_process
process_sound = wrapped_sound no_equals (λ n. record { 0 = n }) (λ p. p.0) (natural 256) (λ p. refl) (λ n. refl) (natural_sound 256 (omega arith))

epoch_sound : IsSoundWord no_equals an_epoch
epoch_sound = wrapped_sound no_equals (λ n. record { 0 = n }) (λ p. p.0) (natural (2 ^ 32)) (λ p. refl) (λ n. refl) (natural_sound (2 ^ 32) (omega arith))

call_sound : IsSoundWord no_equals a_call
call_sound = wrapped_sound no_equals (λ n. record { 0 = n }) (λ p. p.0) (natural (2 ^ 32)) (λ p. refl) (λ n. refl) (natural_sound (2 ^ 32) (omega arith))

group_sound : IsSoundWord no_equals a_group
group_sound = wrapped_sound no_equals (λ n. record { 0 = n }) (λ p. p.0) (natural 256) (λ p. refl) (λ n. refl) (natural_sound 256 (omega arith))

member_sound : IsSoundWord no_equals a_member
member_sound = wrapped_sound no_equals (λ n. record { 0 = n }) (λ p. p.0) (natural 256) (λ p. refl) (λ n. refl) (natural_sound 256 (omega arith))

pub stamp_sound : IsSoundWord no_equals a_stamp
stamp_sound = wrapped_sound no_equals (λ n. record { 0 = n }) (λ p. p.0) integer (λ p. refl) (λ n. refl) integer_sound

identity_sound : IsSoundWord no_equals an_identity
identity_sound = wrapped_sound no_equals (λ n. record { 0 = n }) (λ p. p.0) (natural 256) (λ p. refl) (λ n. refl) (natural_sound 256 (omega arith))

pub seat_sound : IsSoundWord no_comma a_seat
seat_sound = pair_sound an_identity a_process identity_sound process_sound

-- ---- one of a few words

role_found : (r : Role) → find (λ b. bytes_eq (role_word b) (role_word r)) (role.Initial ∷ role.Survivor ∷ role.Recovered ∷ []) ≡ Some r
role_found role.Initial = refl
role_found role.Survivor = refl
role_found role.Recovered = refl

role_free : (r : Role) → list_all no_equals (role_word r) ≡ true
role_free role.Initial = refl
role_free role.Survivor = refl
role_free role.Recovered = refl

op_found : (o : Op) → an_op.read (op_word o) ≡ Some o
op_found op.Sum = refl
op_found op.Min = refl
op_found op.Max = refl

op_free : (o : Op) → list_all no_equals (op_word o) ≡ true
op_free op.Sum = refl
op_free op.Min = refl
op_free op.Max = refl

how_found : (h : How) → a_how.read (how_word h) ≡ Some h
how_found how.Fresh = refl
how_found how.Kept = refl
how_found how.Lost = refl

how_free : (h : How) → list_all no_equals (how_word h) ≡ true
how_free how.Fresh = refl
how_free how.Kept = refl
how_free how.Lost = refl

warning_found : (w : Bool) → a_warning.read (warning_word w) ≡ Some w
warning_found true = refl
warning_found false = refl

warning_free : (w : Bool) → list_all no_equals (warning_word w) ≡ true
warning_free true = refl
warning_free false = refl

statement_found : (s : Refusable) → a_statement.read (statement_word s) ≡ Some s
statement_found refusable.Group = refl
statement_found refusable.Member = refl
statement_found refusable.Store = refl
statement_found refusable.Commit = refl
statement_found refusable.CommitBarrier = refl
statement_found refusable.Restore = refl
statement_found refusable.Drop = refl

statement_free : (s : Refusable) → list_all no_equals (statement_word s) ≡ true
statement_free refusable.Group = refl
statement_free refusable.Member = refl
statement_free refusable.Store = refl
statement_free refusable.Commit = refl
statement_free refusable.CommitBarrier = refl
statement_free refusable.Restore = refl
statement_free refusable.Drop = refl

answer_found : (a : Answer) → an_answer.read (answer_word a) ≡ Some a
answer_found answer.NotCreated = refl
answer_found answer.NotAttached = refl
answer_found answer.NoStamp = refl
answer_found answer.NotStored = refl
answer_found answer.AlreadyCreated = refl
answer_found answer.Full = refl

answer_free : (a : Answer) → list_all no_equals (answer_word a) ≡ true
answer_free answer.NotCreated = refl
answer_free answer.NotAttached = refl
answer_free answer.NoStamp = refl
answer_free answer.NotStored = refl
answer_free answer.AlreadyCreated = refl
answer_free answer.Full = refl

-- ---- slots

join_found : (s : Slot) → is_join_kind s ≡ true → a_join_kind.read (slot_name s) ≡ Some s
join_found slot.Start h = refl
join_found slot.Spare h = refl
join_found slot.Error h = refl
join_found slot.Final h = refl
join_found slot.Yes h = absurd cc
join_found (slot.Flag n) h = absurd cc
join_found slot.Fresh h = absurd cc
join_found slot.Kept h = absurd cc
join_found slot.Gone h = absurd cc
join_found (slot.NoLost p) h = absurd cc
join_found (slot.NoLeft p) h = absurd cc
join_found slot.Lost h = absurd cc
join_found slot.Left h = absurd cc

name_free : (s : Slot) → list_all no_equals (slot_name s) ≡ true
name_free slot.Start = refl
name_free slot.Spare = refl
name_free slot.Error = refl
name_free slot.Final = refl
name_free slot.Yes = refl
name_free (slot.Flag n) = refl
name_free slot.Fresh = refl
name_free slot.Kept = refl
name_free slot.Gone = refl
name_free (slot.NoLost p) = refl
name_free (slot.NoLeft p) = refl
name_free slot.Lost = refl
name_free slot.Left = refl

join_sound : IsSoundWord no_equals a_join_kind
join_sound = choice_sound slot_name is_join_kind (slot.Start ∷ slot.Spare ∷ slot.Error ∷ slot.Final ∷ []) refl join_found (λ s h. name_free s)

-- a slot is read from its parts
slot_again : (s : Slot) → slot_in_type s ≡ true → slot_in (pieces 61 (a_slot.spell s)) ≡ Some s
slot_again slot.Start h = refl
slot_again slot.Spare h = refl
slot_again slot.Error h = refl
slot_again slot.Final h = refl
slot_again slot.Yes h = refl
slot_again (slot.Flag n) h = ap slot_in (two_parts (slot_name (slot.Flag n)) (integer.spell n) refl (integer_sound.clean n refl h)) ∙ ap (option_map slot.Flag) (integer_sound.again n refl h)
slot_again slot.Fresh h = refl
slot_again slot.Kept h = refl
slot_again slot.Gone h = refl
slot_again (slot.NoLost p) h = ap slot_in (two_parts (slot_name (slot.NoLost p)) (a_process.spell p) refl (process_sound.clean p refl h)) ∙ ap (option_map slot.NoLost) (process_sound.again p refl h)
slot_again (slot.NoLeft p) h = ap slot_in (two_parts (slot_name (slot.NoLeft p)) (a_process.spell p) refl (process_sound.clean p refl h)) ∙ ap (option_map slot.NoLeft) (process_sound.again p refl h)
slot_again slot.Lost h = refl
slot_again slot.Left h = refl

slot_clean : (s : Slot) → slot_in_type s ≡ true → list_all no_comma (a_slot.spell s) ≡ true
slot_clean slot.Start h = refl
slot_clean slot.Spare h = refl
slot_clean slot.Error h = refl
slot_clean slot.Final h = refl
slot_clean slot.Yes h = refl
slot_clean (slot.Flag n) h = two_clean (slot_name (slot.Flag n)) (integer.spell n) refl (integer_sound.clean n refl h)
slot_clean slot.Fresh h = refl
slot_clean slot.Kept h = refl
slot_clean slot.Gone h = refl
slot_clean (slot.NoLost p) h = two_clean (slot_name (slot.NoLost p)) (a_process.spell p) refl (process_sound.clean p refl h)
slot_clean (slot.NoLeft p) h = two_clean (slot_name (slot.NoLeft p)) (a_process.spell p) refl (process_sound.clean p refl h)
slot_clean slot.Lost h = refl
slot_clean slot.Left h = refl

-- whether a slot has no number
is_bare : Slot → Bool
is_bare (slot.Flag n) = false
is_bare (slot.NoLost p) = false
is_bare (slot.NoLeft p) = false
is_bare s = true

bare_parts : (s : Slot) → is_bare s ≡ true → (slot_parts s ≡ slot_name s ∷ []) × (slot_in_type s ≡ true)
unfolding is_bare
bare_parts slot.Start h = (refl, refl)
bare_parts slot.Spare h = (refl, refl)
bare_parts slot.Error h = (refl, refl)
bare_parts slot.Final h = (refl, refl)
bare_parts slot.Yes h = (refl, refl)
bare_parts (slot.Flag n) h = absurd cc
bare_parts slot.Fresh h = (refl, refl)
bare_parts slot.Kept h = (refl, refl)
bare_parts slot.Gone h = (refl, refl)
bare_parts (slot.NoLost p) h = absurd cc
bare_parts (slot.NoLeft p) h = absurd cc
bare_parts slot.Lost h = (refl, refl)
bare_parts slot.Left h = (refl, refl)

bare_all : list_all is_bare bare_slots ≡ true
unfolding is_bare
bare_all = refl

-- the parts of a slot that was read
abbrev IsPartsOf : List (List ℕ) → Slot → Type 0
IsPartsOf parts s = (slot_parts s ≡ parts) × (slot_in_type s ≡ true)

flag_back : (number : List ℕ) (s : Slot) → option_map slot.Flag (integer.read number) ≡ Some s → IsPartsOf (codes "yes" ∷ number ∷ []) s
flag_back number s e =
    let m = mapped slot.Flag (integer.read number) s e in
    let r = integer_sound.back number m.0 m.1 in
    subst (IsPartsOf (codes "yes" ∷ number ∷ [])) m.2 (ap (λ w. codes "yes" ∷ w ∷ []) r.0, r.2)

lost_back : (number : List ℕ) (s : Slot) → option_map slot.NoLost (a_process.read number) ≡ Some s → IsPartsOf (codes "nolost" ∷ number ∷ []) s
lost_back number s e =
    let m = mapped slot.NoLost (a_process.read number) s e in
    let r = process_sound.back number m.0 m.1 in
    subst (IsPartsOf (codes "nolost" ∷ number ∷ [])) m.2 (ap (λ w. codes "nolost" ∷ w ∷ []) r.0, r.2)

left_back : (number : List ℕ) (s : Slot) → option_map slot.NoLeft (a_process.read number) ≡ Some s → IsPartsOf (codes "noleft" ∷ number ∷ []) s
left_back number s e =
    let m = mapped slot.NoLeft (a_process.read number) s e in
    let r = process_sound.back number m.0 m.1 in
    subst (IsPartsOf (codes "noleft" ∷ number ∷ [])) m.2 (ap (λ w. codes "noleft" ∷ w ∷ []) r.0, r.2)

named : (word name number : List ℕ) (s : Slot) → bytes_eq name word ≡ true → IsPartsOf (word ∷ number ∷ []) s → IsPartsOf (name ∷ number ∷ []) s
named word name number s same parts = (parts.0 ∙ ap (λ w. w ∷ number ∷ []) (sym ((bytes_eq-Decides name word).0 same)), parts.1)

numbered_back : (name number : List ℕ) (s : Slot) → numbered_slot name number ≡ Some s → IsPartsOf (name ∷ number ∷ []) s
numbered_back name number s e = elim (cases_Bool (bytes_eq name (codes "yes"))) [
  | inl t ↦ named (codes "yes") name number s t (flag_back number s (rw t at e))
  | inr f ↦ elim (cases_Bool (bytes_eq name (codes "nolost"))) [
    | inl t ↦ named (codes "nolost") name number s t (lost_back number s (rw (f, t) at e))
    | inr g ↦ elim (cases_Bool (bytes_eq name (codes "noleft"))) [
      | inl t ↦ named (codes "noleft") name number s t (left_back number s (rw (f, g, t) at e))
      | inr h ↦ let none : None ≡ Some s = rw (f, g, h) at e in absurd cc
    ]
  ]
]

slot_back : (parts : List (List ℕ)) (s : Slot) → slot_in parts ≡ Some s → IsPartsOf parts s
slot_back [] s e = absurd cc
slot_back (name ∷ []) s e =
    let p = found_passes (λ b. bytes_eq (slot_name b) name) is_bare bare_slots s bare_all e in
    let b = bare_parts s p.1 in
    (b.0 ∙ ap (λ w. w ∷ []) ((bytes_eq-Decides (slot_name s) name).0 p.0), b.1)
slot_back (name ∷ number ∷ []) s e = numbered_back name number s e
slot_back (name ∷ number ∷ third ∷ more) s e = absurd cc

pub slot_sound : IsSoundWord no_comma a_slot
slot_sound = record {
  again = λ s has fits. slot_again s fits;
  back = λ word s e.
      let b = slot_back (pieces 61 word) s e in
      (ap (join_with_byte 61) b.0 ∙ parts_back 61 word (pieces 61 word) refl, refl, b.1);
  clean = λ s has fits. slot_clean s fits;
}

-- ---- all shapes

tight : {A : Type 0} (form : WordForm A) → IsSoundWord no_equals form → IsSoundWord no_space form
tight form sound = looser no_equals no_space form (λ b h. comma_no_space b (equals_no_comma b h)) sound

pub word_sound : (shape : Shape) → IsSoundWord no_space (word_form shape)
word_sound AProcess = tight a_process process_sound
word_sound AnEpoch = tight an_epoch epoch_sound
word_sound ACall = tight a_call call_sound
word_sound AGroup = tight a_group group_sound
word_sound AMember = tight a_member member_sound
word_sound AStamp = tight a_stamp stamp_sound
word_sound ANumber = tight integer integer_sound
word_sound AnIdentity = tight an_identity identity_sound
word_sound ACount = tight (natural 256) (natural_sound 256 (omega arith))
word_sound AName = tight name name_sound
word_sound AJoinKind = tight a_join_kind join_sound
word_sound ARole = tight a_role (choice_sound role_word (λ r. true) (role.Initial ∷ role.Survivor ∷ role.Recovered ∷ []) refl (λ r h. role_found r) (λ r h. role_free r))
word_sound AnOp = tight an_op (choice_sound op_word (λ o. true) (op.Sum ∷ op.Min ∷ op.Max ∷ []) refl (λ o h. op_found o) (λ o h. op_free o))
word_sound AHow = tight a_how (choice_sound how_word (λ o. true) (how.Fresh ∷ how.Kept ∷ how.Lost ∷ []) refl (λ o h. how_found o) (λ o h. how_free o))
word_sound AWarning = tight a_warning (choice_sound warning_word (λ o. true) (true ∷ false ∷ []) refl (λ o h. warning_found o) (λ o h. warning_free o))
word_sound AStatement = tight a_statement
    (choice_sound statement_word (λ o. true)
    (refusable.Group ∷ refusable.Member ∷ refusable.Store ∷ refusable.Commit ∷ refusable.CommitBarrier ∷ refusable.Restore ∷ refusable.Drop ∷ []) refl (λ o h. statement_found o) (λ o h. statement_free o))
word_sound AnAnswer = tight an_answer
    (choice_sound answer_word (λ o. true)
    (answer.NotCreated ∷ answer.NotAttached ∷ answer.NoStamp ∷ answer.NotStored ∷ answer.AlreadyCreated ∷ answer.Full ∷ []) refl (λ o h. answer_found o) (λ o h. answer_free o))
word_sound ASlot = looser no_comma no_space a_slot comma_no_space slot_sound
word_sound SomeSlots = joined_sound a_slot (λ s. refl) slot_sound
word_sound SomeSeats = joined_sound a_seat (λ s. refl) seat_sound
