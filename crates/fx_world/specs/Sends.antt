-- What a process sends, one message after another.
use Rattle.std.specs.Prelude.{ℕ, Bool, if◌then◌else◌, List, [], ◌∷◌}
use Rattle.fx_base.specs.declared.names.Proc.{Proc}
use Rattle.fx_item.specs.declared.item.Item.{Item}
use Rattle.fx_item.specs.declared.item.Item.TheVariants as item
use Rattle.fx_link.specs.LinkTable.{LinkTable, closed_to, sent}
use Rattle.fx_link.specs.declared.message.Message.{Message}

-- the links once a process has sent all this
abbrev pub sent_all : ℕ → List (Proc × Message) → LinkTable → LinkTable
sent_all p [] links = links
sent_all p (x ∷ xs) links = sent_all p xs (sent links p x.0.0 x.1)

-- and once the process has ended, if it has: nothing goes to it any more
abbrev pub links_behind : ℕ → (ended : Bool) → LinkTable → LinkTable
links_behind p ended links = if ended then closed_to links p else links

-- the item of a message that is sent
abbrev pub sent_item : Proc → Proc × Message → Item
sent_item p x = item.Send p x.0 x.1
