-- The world: the nodes of all processes, who was killed, what is under way, and what was written; and the single things that happen.
use Rattle.std.specs.Prelude.{ℕ, Bool, true, false, not, ◌&&◌, if◌then◌else◌, ◌==◌, nat_lt, List, [], ◌∷◌, ◌++◌, map, Option, Some, None}
use Rattle.fx_ballot.specs.World.{put}
use Rattle.fx_item.specs.declared.item.Item.{Item}
use Rattle.fx_item.specs.declared.item.Item.TheVariants as item
use Rattle.fx_machine.specs.Messages.{message_of}
use Rattle.fx_machine.specs.Nodes.{Node, Act, has_ended, first_node, receives, is_told}
use Rattle.fx_machine.specs.Numbers.{proc}
use Rattle.fx_machine.specs.Setup.{Setup}
use Rattle.fx_machine.specs.Steps.{next}
use Rattle.fx_machine.specs.Texts.{Text}

-- nodes by process, the killed processes, what is under way from each process to each other, the oldest first, and all items
pub record World : Type 0 where
  pub node : ℕ → Node
  pub killed : ℕ → Bool
  pub link : ℕ → ℕ → List Text
  pub items : List Item

-- nobody has done anything
abbrev pub first_world : Setup → World
first_world s = record { node = first_node s; killed = λ p. false; link = λ a b. []; items = [] }

-- the process lives and hasn't ended
abbrev pub up : Setup → World → ℕ → Bool
up s w p = nat_lt p s.procs && (not (w.killed p) && not (has_ended (w.node p)))

-- the links once that from a to b has these texts
abbrev pub with_link : ℕ → ℕ → List Text → (ℕ → ℕ → List Text) → ℕ → ℕ → List Text
with_link a b texts link c d = if (c == a) && (d == b) then texts else link c d

-- ---- a step

-- what is sent to one process
abbrev pub sent_to : ℕ → List (ℕ × Text) → List Text
sent_to q [] = []
sent_to q (x ∷ xs) = if x.0 == q then x.1 ∷ sent_to q xs else sent_to q xs

-- the item of a send
abbrev pub send_item : ℕ → ℕ × Text → Item
send_item p x = item.Send (proc p) (proc x.0) (message_of x.1)

-- Process p takes this action. What it sends to one that was killed or has ended vanishes, and is written all the same.
abbrev pub does : Setup → ℕ → Act → World → World
does s p act w = record {
  node = put w.node p act.node;
  killed = w.killed;
  link = λ a b. if (a == p) && up s w b then w.link a b ++ sent_to b act.sends else w.link a b;
  items = w.items ++ (act.items ++ map (send_item p) act.sends);
}

-- its action, if one is enabled
abbrev pub does_if : Setup → ℕ → Option Act → World → World
does_if s p None w = w
does_if s p (Some act) w = does s p act w

-- process p takes one step, if it is up
abbrev pub steps : Setup → ℕ → World → World
steps s p w = if up s w p then does_if s p (next s (w.node p)) w else w

-- ---- a delivery

-- process q receives the front of what is on the link from p, where there is one
abbrev pub receives_front : ℕ → ℕ → List Text → World → World
receives_front p q [] w = w
receives_front p q (t ∷ rest) w = record {
  node = put w.node q (receives p t (w.node q));
  killed = w.killed;
  link = with_link p q rest w.link;
  items = w.items ++ item.Deliver (proc p) (proc q) (message_of t) ∷ [];
}

-- a delivery from p to q, if q is up
abbrev pub delivers : Setup → ℕ → ℕ → World → World
delivers s p q w = if up s w q then receives_front p q (w.link p q) w else w

-- ---- a loss

-- Process p is killed: its node and all links to it go; what it sent stays on its links.
abbrev pub loses : Setup → ℕ → World → World
loses s p w = record {
  node = put w.node p (first_node s p);
  killed = put w.killed p true;
  link = λ a b. if b == p then [] else w.link a b;
  items = w.items ++ item.Kill (proc p) ∷ [];
}

-- p is killed, if it is up
abbrev pub kills : Setup → ℕ → World → World
kills s p w = if up s w p then loses s p w else w

-- ---- a notice

-- process q is told that p is lost, and what was under way from there goes
abbrev pub learns : ℕ → ℕ → World → World
learns p q w = record {
  node = put w.node q (is_told p (w.node q));
  killed = w.killed;
  link = with_link p q [] w.link;
  items = w.items ++ item.Told (proc p) (proc q) ∷ [];
}

-- p was killed, and q is up and wasn't told of it
abbrev pub may_learn : Setup → ℕ → ℕ → World → Bool
may_learn s p q w = w.killed p && (up s w q && not ((w.node q).lost p))

-- a notice of p to q, where it may be
abbrev pub notices : Setup → ℕ → ℕ → World → World
notices s p q w = if may_learn s p q w then learns p q w else w
