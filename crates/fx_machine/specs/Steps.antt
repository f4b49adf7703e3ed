-- The one step of a node: the first action that is enabled.
use Rattle.std.specs.Prelude.{Bool, ◌||◌, if◌then◌else◌, List, [], ◌∷◌, ◌++◌, map, Option, Some, None}
use Rattle.std.specs.List.{list_any, flat_map}
use Rattle.fx_comm.specs.Seats.{has_place}
use Rattle.fx_item.specs.declared.item.Item.{Item}
use Rattle.fx_item.specs.declared.item.Item.TheVariants as item
use Rattle.fx_link.specs.declared.slot.Slot.TheVariants as slot
use Rattle.fx_walk.specs.Callbacks.{view_at_init}
use Rattle.fx_walk.specs.declared.printed.Called.{Called}
use Rattle.fx_walk.specs.declared.printed.Printed.{Printed}
use Rattle.fx_walk.specs.Walk.{Walk, Ends, Passes, Prints, Asks}
use Rattle.fx_machine.specs.Asking.{asked}
use Rattle.fx_machine.specs.Ballots.{in_ballot, joins, decides_epoch, warns}
use Rattle.fx_machine.specs.Calls.{in_asked_call}
use Rattle.fx_machine.specs.Nodes.{Node, Act, Stage, Begins, Joining, Arrived, Walking, Calling, Failed, Over, members, size, ident_at, my_place, state_of, silently, writing}
use Rattle.fx_machine.specs.Numbers.{proc, epoch_no}
use Rattle.fx_machine.specs.Reading.{next_ballot, has_left}
use Rattle.fx_machine.specs.Setup.{Setup}

-- ---- the begin of an epoch

-- what a print writes
abbrev pub print_item : Node → Printed → Item
print_item n printed = item.Print (proc n.me) (epoch_no n.epoch) printed.name printed.values

-- what a callback writes: its name, then its prints
abbrev pub callback_items : Node → Called → List Item
callback_items n called = item.Callback (proc n.me) (epoch_no n.epoch) called.name ∷ map (print_item n) called.prints

-- what a return from `Init` writes
abbrev pub init_item : Setup → Node → Item
init_item s n = item.Init (proc n.me) (epoch_no n.epoch) n.role (record { 0 = ident_at n (my_place n) }) (my_place n) (size n) (warns s n)

-- the walk of the body begins, from the state that its role leaves of the one before
abbrev pub begun : Setup → Node → Node
begun s n = record n {
  stage = Walking;
  walk = s.body (view_at_init n.role (my_place n) (size n)) (s.body_state n.role (my_place n) (size n) (state_of n));
}

-- it returns from `Init`, its callbacks before
abbrev pub inits : Setup → Node → Act
inits s n = writing (flat_map (callback_items n) (s.callbacks n.role (my_place n) (size n) (state_of n)) ++ init_item s n ∷ []) (begun s n)

-- a spare joins where another joined, or a process of the communicator is lost
abbrev pub may_help_out : Node → Bool
may_help_out n = list_any (has_left n) n.present || list_any n.lost (members n)

-- behind a repair: `Init`; or, as a spare, to wait for the next repair
abbrev pub in_arrival : Setup → Node → Option Act
in_arrival s n = if has_place n.comm n.me then Some (inits s n) else (if may_help_out n then joins slot.Spare n else None)

-- ---- the walk

-- a plain action that prints nothing
abbrev pub passes_on : Walk → Node → Act
passes_on rest n = silently (record n { walk = rest })

-- a print
abbrev pub prints : Printed → Walk → Node → Act
prints printed rest n = writing (print_item n printed ∷ []) (record n { walk = rest })

-- the action of the walk
abbrev pub in_walk : Setup → Node → Walk → Option Act
in_walk s n (Ends state) = joins slot.Final n
in_walk s n (Passes rest) = Some (passes_on rest n)
in_walk s n (Prints printed rest) = Some (prints printed rest n)
in_walk s n (Asks place wanted state rest) = Some (asked s n rest wanted)

-- ---- the step

-- the action that is enabled, by where the node stands
abbrev pub next_at : Setup → Node → Stage → Option Act
next_at s n Begins = joins slot.Start n
next_at s n (Joining phase) = in_ballot (next_ballot n) n Joining (λ slots. Some (decides_epoch s n slots)) phase
next_at s n Arrived = in_arrival s n
next_at s n Walking = in_walk s n n.walk
next_at s n (Calling core) = in_asked_call s n core n.walk
next_at s n Failed = joins slot.Error n
next_at s n Over = None

-- the step of a node; none where it is quiet or has ended
abbrev pub next : Setup → Node → Option Act
next s n = next_at s n n.stage
