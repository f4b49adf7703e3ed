-- What a step of a process is, by that of the node that it is.
use Rattle.std.specs.Prelude.{◌≡◌, ◌==◌, ℕ, suc, not, if◌then◌else◌, List, ◌∷◌, ◌++◌, map, Option, Some, None}
use Rattle.std.specs.List.{filter}
use Rattle.fx_ballot.specs.Names.{seat_of}
use Rattle.fx_base.specs.declared.names.Proc.{Proc}
use Rattle.fx_item.specs.declared.item.Item.{Item}
use Rattle.fx_item.specs.declared.item.Item.TheVariants as item
use Rattle.fx_link.specs.declared.message.Message.{Message}
use Rattle.fx_link.specs.declared.message.Message.TheVariants as message
use Rattle.fx_link.specs.declared.slot.Slot.{Slot}
use Rattle.fx_machine.specs.Messages.{message_of}
use Rattle.fx_machine.specs.Nodes.{Node, Act, has_ended, procs_of}
use Rattle.fx_machine.specs.Numbers.{call_no, epoch_no, proc}
use Rattle.fx_machine.specs.Texts.{Text}
use Rattle.fx_node.specs.declared.node.Moved.{Moved}
use Rattle.fx_node.specs.declared.node.Moved.TheVariants as moved
use Rattle.fx_node.specs.Standing.{Standing, IsNodeOf}
use Rattle.fx_script.specs.declared.job.Job.{Job}
use Rattle.fx_walk.specs.declared.printed.Called.{Called}
use Rattle.fx_walk.specs.declared.printed.Printed.{Printed}

-- what is sent, as messages to processes
abbrev pub posted : ℕ × Text → Proc × Message
posted x = (proc x.0, message_of x.1)

-- no action is enabled: the node has ended, or is quiet
abbrev pub resting : Node → Moved
resting n = if has_ended n then moved.Ended else moved.Quiet

-- it is still the node, and nothing was sent or written
pub record Rests (job : Job) (n : Node) (said : Moved) (after : Standing) (sent sent' : List (Proc × Message)) (told told' : List Item) : Type 0 where
  pub says : said ≡ resting n
  pub node : IsNodeOf job after n
  pub sends : sent' ≡ sent
  pub items : told' ≡ told

-- it is the node behind the action, whose sends and items were added
pub record Takes (job : Job) (act : Act) (said : Moved) (after : Standing) (sent sent' : List (Proc × Message)) (told told' : List Item) : Type 0 where
  pub says : said ≡ moved.Acted
  pub node : IsNodeOf job after act.node
  pub sends : sent' ≡ sent ++ map posted act.sends
  pub items : told' ≡ told ++ act.items

-- the one step of a node, by its action, where one is enabled
abbrev pub Steps : Job → Node → Option Act → Moved → Standing → (sent sent' : List (Proc × Message)) → (told told' : List Item) → Type 0
Steps job n None said after sent sent' told told' = Rests job n said after sent sent' told told'
Steps job n (Some act) said after sent sent' told told' = Takes job act said after sent sent' told told'

-- ---- parts of a step

-- a message to all of these but oneself, in their order
abbrev pub broadcast : ℕ → List ℕ → Message → List (Proc × Message)
broadcast me all message = map (λ q. (proc q, message)) (filter (λ q. not (q == me)) all)

-- the estimate that it says in the round of its own seat
abbrev pub estimate_message : Standing → List Slot → Message
estimate_message c slots = message.Jest (epoch_no (suc c.epoch)) (seat_of c.present c.me) slots

-- the same in the ballot of its call, where its seat is its place
abbrev pub call_estimate : Standing → List Slot → Message
call_estimate c slots = message.Est (epoch_no c.epoch) (call_no c.calls) (seat_of (procs_of c.comm) c.me) slots

-- what a print writes
abbrev pub print_item : (me epoch : ℕ) → Printed → Item
print_item me epoch printed = item.Print (proc me) (epoch_no epoch) printed.name printed.values

-- what a callback writes: its name, then its prints
abbrev pub called_items : (me epoch : ℕ) → Called → List Item
called_items me epoch called = item.Callback (proc me) (epoch_no epoch) called.name ∷ map (print_item me epoch) called.prints
