-- The tables of messages, and of what a `tell` says, are sound.
use Rattle.std.proofs.Common.{◌≡◌, true, refl}
use Rattle.std.specs.Prelude.{Option, Some, None}
use Rattle.std.specs.List.{list_all}
use Rattle.fx_link.specs.declared.message.Known.{Known}
use Rattle.fx_link.specs.declared.message.Message.{Message}
use Rattle.fx_link.specs.declared.message.Message.TheVariants as message
use Rattle.fx_lines.specs.Forms.{kind_named}
use Rattle.fx_lines.specs.Lists.{tail}
use Rattle.fx_lines.specs.Messages.{Holding, Unknown, KnownGroup, holding_row, HoldingHeld, holding_of, holding_apart, holding_whole, holdings, Ending, Plain, Told, ending, MessageKind, Join, Jest, Part, Vote, Est, Share, Tell, Help, Give, message_row, MessageHeld, message_kind, message_apart, message_whole, messages}
use Rattle.fx_lines.proofs.Rows.{IsSoundTable, tail_sound, fields_sound, tabled_sound}
use Rattle.fx_lines.proofs.Separated.{no_space}
use Rattle.fx_lines.proofs.Sound.{IsSoundForm}

-- ---- what a `tell` says is held

holding_named : (holding : Holding) → kind_named holdings (holding_row holding).word ≡ Some holding
holding_named Unknown = refl
holding_named KnownGroup = refl

holding_same : (held : Option Known) → holding_whole (holding_of held) (holding_apart held) ≡ held
holding_same None = refl
holding_same (Some known) = refl

holding_parts : (holding : Holding) (v : HoldingHeld holding)
    → ◌≡◌ {A = (holding : Holding) × HoldingHeld holding} (holding_of (holding_whole holding v), holding_apart (holding_whole holding v)) (holding, v)
holding_parts Unknown v = refl
holding_parts KnownGroup v = refl

holding_plain : (holding : Holding) → list_all no_space (holding_row holding).word ≡ true
holding_plain Unknown = refl
holding_plain KnownGroup = refl

holdings_sound : IsSoundTable holdings
holdings_sound = record {
  named = holding_named;
  same = holding_same;
  parts = holding_parts;
  plain = holding_plain;
  sound = λ holding. fields_sound (holding_row holding).shapes (tail (holding_row holding).end) (tail_sound (holding_row holding).end);
}

-- ---- messages

ending_sound : (e : Ending) → IsSoundForm (ending e)
ending_sound (Plain t) = tail_sound t
ending_sound Told = tabled_sound holdings holdings_sound

named : (kind : MessageKind) → kind_named messages (message_row kind).word ≡ Some kind
named Join = refl
named Jest = refl
named Part = refl
named Vote = refl
named Est = refl
named Share = refl
named Tell = refl
named Help = refl
named Give = refl

same : (m : Message) → message_whole (message_kind m) (message_apart m) ≡ m
same (message.Join e kind) = refl
same (message.Jest e r slots) = refl
same (message.Part e k elems) = refl
same (message.Vote e k slot) = refl
same (message.Est e k r slots) = refl
same (message.Share e k shares) = refl
same (message.Tell e k known) = refl
same (message.Help e k shares) = refl
same (message.Give e k shares) = refl

parts : (kind : MessageKind) (v : MessageHeld kind)
    → ◌≡◌ {A = (kind : MessageKind) × MessageHeld kind} (message_kind (message_whole kind v), message_apart (message_whole kind v)) (kind, v)
parts Join v = refl
parts Jest v = refl
parts Part v = refl
parts Vote v = refl
parts Est v = refl
parts Share v = refl
parts Tell v = refl
parts Help v = refl
parts Give v = refl

plain : (kind : MessageKind) → list_all no_space (message_row kind).word ≡ true
plain Join = refl
plain Jest = refl
plain Part = refl
plain Vote = refl
plain Est = refl
plain Share = refl
plain Tell = refl
plain Help = refl
plain Give = refl

pub messages_sound : IsSoundTable messages
messages_sound = record {
  named = named;
  same = same;
  parts = parts;
  plain = plain;
  sound = λ kind. fields_sound (message_row kind).shapes (ending (message_row kind).end) (ending_sound (message_row kind).end);
}
