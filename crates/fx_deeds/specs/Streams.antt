-- All that one process ever said to another.
use Rattle.std.specs.Prelude.{◌≡◌, ◌≢◌, ℕ, true, false, ◌==◌, ◌&&◌, if◌then◌else◌, List, [], ◌∷◌, ◌++◌, map}
use Rattle.fx_item.specs.declared.item.Item.{Item}
use Rattle.fx_item.specs.declared.item.Item.TheVariants as item
use Rattle.fx_link.specs.declared.message.Message.{Message}
use Rattle.fx_machine.specs.Messages.{message_of}
use Rattle.fx_machine.specs.Nodes.{Node}
use Rattle.fx_machine.specs.Setup.{Setup}
use Rattle.fx_machine.specs.Texts.{Text}
use Rattle.fx_fleet.specs.World.{World, up}

-- the message of an item that sends from c to q
abbrev pub said_of : ℕ → ℕ → Item → List Message
said_of c q (item.Send p r message) = if (p.0 == c) && (r.0 == q) then message ∷ [] else []
said_of c q other = []

-- the messages from c to q, in order
abbrev pub said_to : ℕ → ℕ → List Item → List Message
said_to c q [] = []
said_to c q (i ∷ items) = said_of c q i ++ said_to c q items

-- What a process that is up has of another, and what is under way to it from there, is all that the other ever said to it, unless it was
-- told of the other's loss.
pub record Streams (s : Setup) (w : World) : Type 0 where
  pub whole : (q c : ℕ) → up s w q ≡ true → c ≢ q → (w.node q).lost c ≡ false → map message_of ((w.node q).texts c ++ w.link c q) ≡ said_to c q w.items

-- what a step leaves as it is: of others nothing is read away, nothing is learned of losses; one's own texts grow
pub record Keeps (n : Node) (m : Node) : Type 0 where
  pub me : m.me ≡ n.me
  pub lost : m.lost ≡ n.lost
  pub other : (q : ℕ) → q ≢ n.me → m.texts q ≡ n.texts q
  pub more : List Text
  pub own : m.texts n.me ≡ n.texts n.me ++ more
