-- Texts as the messages of the links, and messages as texts.
use Rattle.std.specs.Prelude.{map, option_map}
use Rattle.std.specs.FinMap as finite
use Rattle.fx_base.specs.declared.shares.StampShares.{StampShares}
use Rattle.fx_link.specs.declared.message.Known.{Known as KnownMessage}
use Rattle.fx_link.specs.declared.message.Message.{Message}
use Rattle.fx_link.specs.declared.message.Message.TheVariants as message
use Rattle.fx_walk.specs.Walk.{stamp_at}
use Rattle.fx_machine.specs.Numbers.{epoch_no, call_no}
use Rattle.fx_machine.specs.Texts.{Packed, Known, Text, Join, Jest, Part, Vote, Est, Share, Tell, Help, Give}

-- a list by stamp as a map
abbrev pub shares_of : Packed → StampShares
shares_of packed = finite.from_sorted (map (λ e. (stamp_at e.0, e.1)) packed)

-- a map as a list by stamp
abbrev pub packed_of : StampShares → Packed
packed_of shares = map (λ e. (e.0.0, e.1)) (finite.entries shares)

-- what is held, as a message tells it
abbrev pub known_message : Known → KnownMessage
known_message k = record { created = epoch_no k.created; next = stamp_at k.next; comm = k.comm; stamps = map stamp_at k.stamps }

-- and as a text tells it
abbrev pub known_text : KnownMessage → Known
known_text k = record { created = k.created.0; next = k.next.0; comm = k.comm; stamps = map (λ t. t.0) k.stamps }

-- the message of a text
abbrev pub message_of : Text → Message
message_of (Join e kind) = message.Join (epoch_no e) kind
message_of (Jest e r slots) = message.Jest (epoch_no e) r slots
message_of (Part e k values) = message.Part (epoch_no e) (call_no k) values
message_of (Vote e k slot) = message.Vote (epoch_no e) (call_no k) slot
message_of (Est e k r slots) = message.Est (epoch_no e) (call_no k) r slots
message_of (Share e k packed) = message.Share (epoch_no e) (call_no k) (shares_of packed)
message_of (Tell e k known) = message.Tell (epoch_no e) (call_no k) (option_map known_message known)
message_of (Help e k packed) = message.Help (epoch_no e) (call_no k) (shares_of packed)
message_of (Give e k packed) = message.Give (epoch_no e) (call_no k) (shares_of packed)

-- the text of a message
abbrev pub wire_text : Message → Text
wire_text (message.Join e kind) = Join e.0 kind
wire_text (message.Jest e r slots) = Jest e.0 r slots
wire_text (message.Part e k values) = Part e.0 k.0 values
wire_text (message.Vote e k slot) = Vote e.0 k.0 slot
wire_text (message.Est e k r slots) = Est e.0 k.0 r slots
wire_text (message.Share e k shares) = Share e.0 k.0 (packed_of shares)
wire_text (message.Tell e k known) = Tell e.0 k.0 (option_map known_text known)
wire_text (message.Help e k shares) = Help e.0 k.0 (packed_of shares)
wire_text (message.Give e k shares) = Give e.0 k.0 (packed_of shares)
