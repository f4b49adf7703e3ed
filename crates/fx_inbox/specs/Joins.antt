-- Votes in the ballots of epochs, among the messages that are kept.
use Rattle.std.specs.Prelude.{◌≡◌, ℕ, Bool, true, false, List, [], slice_index_or}
use Rattle.std.specs.List.{list_any}
use Rattle.fx_link.specs.declared.message.Message.{Message}
use Rattle.fx_link.specs.declared.message.Message.TheVariants as message
use Rattle.fx_machine.specs.Nodes.{Node}
use Rattle.fx_machine.specs.Reading.{has_left}

-- a vote in the ballot of an epoch, of whatever epoch
abbrev pub tells_join : Message → Bool
tells_join (message.Join e kind) = true
tells_join other = false

-- it was told of no loss, and nobody has left
abbrev pub IsCalm : Node → Type 0
IsCalm n = (q : ℕ) → (n.lost q ≡ false) × (has_left n q ≡ false)

-- none is kept of whatever process
abbrev pub HasNoJoin : List (List Message) → Type 0
HasNoJoin rows = (q : ℕ) → list_any tells_join (slice_index_or rows q []) ≡ false
