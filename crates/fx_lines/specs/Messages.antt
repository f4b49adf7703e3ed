-- The words of a message.
use Rattle.std.specs.Prelude.{[], ◌∷◌, codes, Option, Some, None}
use Rattle.fx_link.specs.declared.message.Known.{Known}
use Rattle.fx_link.specs.declared.message.Message.{Message}
use Rattle.fx_link.specs.declared.message.Message.TheVariants as message
use Rattle.fx_lines.specs.Forms.{Form, Table, tabled}
use Rattle.fx_lines.specs.Fields.{AnEpoch, ACall, AStamp, ACount, AJoinKind, ASlot, SomeSlots, SomeSeats, Fields, fields, Row, row}
use Rattle.fx_lines.specs.Lists.{Tail, Nothing, Numbers, Stamps, Shares, TailHeld, tail}

-- ---- what a `tell` says is held

-- nothing, or a group that was created
pub data Holding : Type 0 where
  Unknown : Holding
  KnownGroup : Holding

-- the table of what a `tell` says
abbrev pub holding_row : Holding → Row Tail
holding_row Unknown = row (codes "unknown") [] Nothing
holding_row KnownGroup = row (codes "known") (AnEpoch ∷ AStamp ∷ SomeSeats ∷ []) Stamps

-- the fields of each row
abbrev pub HoldingHeld : Holding → Type 0
HoldingHeld holding = Fields (holding_row holding).shapes (TailHeld (holding_row holding).end)

-- which row it is
abbrev pub holding_of : Option Known → Holding
holding_of None = Unknown
holding_of (Some known) = KnownGroup

-- what is held, as fields
abbrev pub holding_apart : (held : Option Known) → HoldingHeld (holding_of held)
holding_apart None = tt
holding_apart (Some known) = (known.created, (known.next, (known.comm, known.stamps)))

-- what is held, from its fields
abbrev pub holding_whole : (holding : Holding) → HoldingHeld holding → Option Known
holding_whole Unknown v = None
holding_whole KnownGroup v = Some (record { created = v.0; next = v.1.0; comm = v.1.1.0; stamps = v.1.1.1 })

-- the table, with its two directions
abbrev pub holdings : Table Holding (Option Known)
holdings = record {
  kinds = Unknown ∷ KnownGroup ∷ [];
  word = λ holding. (holding_row holding).word;
  Held = HoldingHeld;
  form = λ holding. fields (holding_row holding).shapes (tail (holding_row holding).end);
  kind_of = holding_of;
  apart = holding_apart;
  whole = holding_whole;
}

-- ---- messages

-- what ends a message: a list, if anything, or what a `tell` says
pub data Ending : Type 0 where
  Plain : Tail → Ending
  Told : Ending

-- what each ending holds
abbrev pub EndingHeld : Ending → Type 0
EndingHeld (Plain t) = TailHeld t
EndingHeld Told = Option Known

-- how each is spelled and read
abbrev pub ending : (e : Ending) → Form (EndingHeld e)
ending (Plain t) = tail t
ending Told = tabled holdings

-- the kinds of messages
pub data MessageKind : Type 0 where
  Join : MessageKind
  Jest : MessageKind
  Part : MessageKind
  Vote : MessageKind
  Est : MessageKind
  Share : MessageKind
  Tell : MessageKind
  Help : MessageKind
  Give : MessageKind

-- the table of messages, a row for each kind
abbrev pub message_row : MessageKind → Row Ending
message_row Join = row (codes "join") (AnEpoch ∷ AJoinKind ∷ []) (Plain Nothing)
message_row Jest = row (codes "jest") (AnEpoch ∷ ACount ∷ SomeSlots ∷ []) (Plain Nothing)
message_row Part = row (codes "part") (AnEpoch ∷ ACall ∷ []) (Plain Numbers)
message_row Vote = row (codes "vote") (AnEpoch ∷ ACall ∷ ASlot ∷ []) (Plain Nothing)
message_row Est = row (codes "est") (AnEpoch ∷ ACall ∷ ACount ∷ SomeSlots ∷ []) (Plain Nothing)
message_row Share = row (codes "share") (AnEpoch ∷ ACall ∷ []) (Plain Shares)
message_row Tell = row (codes "tell") (AnEpoch ∷ ACall ∷ []) Told
message_row Help = row (codes "help") (AnEpoch ∷ ACall ∷ []) (Plain Shares)
message_row Give = row (codes "give") (AnEpoch ∷ ACall ∷ []) (Plain Shares)

-- the fields of each kind
abbrev pub MessageHeld : MessageKind → Type 0
MessageHeld kind = Fields (message_row kind).shapes (EndingHeld (message_row kind).end)

-- the kind of a message
abbrev pub message_kind : Message → MessageKind
message_kind (message.Join e kind) = Join
message_kind (message.Jest e r slots) = Jest
message_kind (message.Part e k elems) = Part
message_kind (message.Vote e k slot) = Vote
message_kind (message.Est e k r slots) = Est
message_kind (message.Share e k shares) = Share
message_kind (message.Tell e k known) = Tell
message_kind (message.Help e k shares) = Help
message_kind (message.Give e k shares) = Give

-- the fields of a message, in the order of its row
abbrev pub message_apart : (m : Message) → MessageHeld (message_kind m)
message_apart (message.Join e kind) = (e, (kind, tt))
message_apart (message.Jest e r slots) = (e, (r, (slots, tt)))
message_apart (message.Part e k elems) = (e, (k, elems))
message_apart (message.Vote e k slot) = (e, (k, (slot, tt)))
message_apart (message.Est e k r slots) = (e, (k, (r, (slots, tt))))
message_apart (message.Share e k shares) = (e, (k, shares))
message_apart (message.Tell e k known) = (e, (k, known))
message_apart (message.Help e k shares) = (e, (k, shares))
message_apart (message.Give e k shares) = (e, (k, shares))

-- the message of a kind with such fields
abbrev pub message_whole : (kind : MessageKind) → MessageHeld kind → Message
message_whole Join v = message.Join v.0 v.1.0
message_whole Jest v = message.Jest v.0 v.1.0 v.1.1.0
message_whole Part v = message.Part v.0 v.1.0 v.1.1
message_whole Vote v = message.Vote v.0 v.1.0 v.1.1.0
message_whole Est v = message.Est v.0 v.1.0 v.1.1.0 v.1.1.1.0
message_whole Share v = message.Share v.0 v.1.0 v.1.1
message_whole Tell v = message.Tell v.0 v.1.0 v.1.1
message_whole Help v = message.Help v.0 v.1.0 v.1.1
message_whole Give v = message.Give v.0 v.1.0 v.1.1

-- the table, with its two directions
abbrev pub messages : Table MessageKind Message
messages = record {
  kinds = Join ∷ Jest ∷ Part ∷ Vote ∷ Est ∷ Share ∷ Tell ∷ Help ∷ Give ∷ [];
  word = λ kind. (message_row kind).word;
  Held = MessageHeld;
  form = λ kind. fields (message_row kind).shapes (ending (message_row kind).end);
  kind_of = message_kind;
  apart = message_apart;
  whole = message_whole;
}
