-- What a body may ask for, and the parts of a call.
use Rattle.std.specs.Prelude.{◌≡◌, ◌<◌, ◌==◌, ◌+◌, ◌||◌, length, ℕ, ℤ, Bool, true, false, if◌then◌else◌, List, [], ◌∷◌, ◌++◌, Option, Some, None, option_map}
use Rattle.fx_base.specs.declared.names.Proc.{Proc}
use Rattle.fx_check.specs.Facts.{facts_of}
use Rattle.fx_coll.specs.Keeping.{gives, known_at}
use Rattle.fx_coll.specs.Machine.{values_in}
use Rattle.fx_coll.specs.declared.known.Known.{Known}
use Rattle.fx_coll.specs.declared.part.Part.{Part}
use Rattle.fx_coll.specs.declared.part.Part.TheVariants as part
use Rattle.fx_comm.specs.Seats.{Seat}
use Rattle.fx_link.specs.declared.message.Message.{Message}
use Rattle.fx_machine.specs.Gathering.{part_of}
use Rattle.fx_machine.specs.Nodes.{Node, my_place, proc_at}
use Rattle.fx_machine.specs.Reading.{has_left}
use Rattle.fx_script.specs.declared.job.Job.{Job}
use Rattle.fx_text.specs.Names.{is_name}
use Rattle.fx_walk.specs.State.{State}
use Rattle.fx_walk.specs.Walk.{Reply, Walk, Ends, Passes, Prints, Asks, walk_of}
use Rattle.fx_walk.specs.declared.action.View.{View}
use Rattle.fx_walk.specs.declared.wanted.Wanted.{Wanted}
use Rattle.fx_walk.specs.declared.wanted.Wanted.TheVariants as wanted

-- ---- what is carried out

-- in barriers, reductions and shifts each place gives its part to the others
abbrev pub gathers_parts : Wanted → Bool
gathers_parts wanted.Barrier = true
gathers_parts (wanted.Reduce op own) = true
gathers_parts (wanted.Shift by own) = true
gathers_parts other = false

-- an agreement has a ballot alone
abbrev pub is_agreement : Wanted → Bool
is_agreement (wanted.Agree flag) = true
is_agreement other = false

-- these are; no other statement that asks something of others is
abbrev pub is_carried : Wanted → Bool
is_carried wanted = gathers_parts wanted || is_agreement wanted

-- the walk asks for something that passes the test
abbrev pub AsksSuch : (Wanted → Bool) → Walk → Type 0
AsksSuch test (Asks place wanted state rest) = test wanted ≡ true
AsksSuch test other = ⊥

-- a walk asks only for what is carried out, whatever is replied, and what is printed has a name
abbrev pub OnlyCarried : Walk → Type 0
OnlyCarried (Ends state) = Unit {0}
OnlyCarried (Passes rest) = OnlyCarried rest
OnlyCarried (Prints printed rest) = (is_name printed.name ≡ true) × OnlyCarried rest
OnlyCarried (Asks place wanted state rest) = (is_carried wanted ≡ true) × ((reply : Reply) → OnlyCarried (rest reply))

-- the body asks only for what is carried out, whatever it sees and whatever state it begins in
abbrev pub AsksCarried : Job → Type 0
AsksCarried job = (view : View) (state : State) → OnlyCarried (walk_of (facts_of job) job.body view state)

-- ---- sending

-- the values that go to a place: to each the same, or to one only, and none to the others
abbrev pub share_of : Option ℕ → List ℤ → ℕ → List ℤ
share_of None values x = values
share_of (Some target) values x = if x == target then values else []

-- to the process of each place but one's own, from this place on, what is meant for the place
abbrev pub to_seats : ℕ → (ℕ → Message) → ℕ → List Seat → List (Proc × Message)
to_seats me meant x [] = []
to_seats me meant x (seat ∷ seats) = (if seat.1.0 == me then [] else (seat.1, meant x) ∷ []) ++ to_seats me meant (x + 1) seats

-- ---- parts

-- one's own part
abbrev pub part_in : Wanted → Part
part_in (wanted.Reduce op own) = part.Number own
part_in (wanted.Shift by own) = part.Elems own
part_in other = part.Empty

-- a part is of the kind that is asked for: in a reduction a number
abbrev pub HasKind : Wanted → Option Part → Type 0
HasKind (wanted.Reduce op own) (Some part.Empty) = ⊥
HasKind (wanted.Reduce op own) (Some (part.Elems elements)) = ⊥
HasKind w given = Unit {0}

abbrev pub HaveKind : Wanted → List Known → Type 0
HaveKind w known = (x : ℕ) → x < length known → HasKind w (known_at known x).part

-- what is known once a part came, if one did
abbrev pub taken : ℕ → Option Part → List Known → List Known
taken x None known = known
taken x (Some given) known = gives x given known

-- ---- what is learnt of a place in a call

-- nothing yet, but one's own part
pub record IsFresh (n : Node) (w : Wanted) (known : Known) (x : ℕ) : Type 0 where
  pub part : known.part ≡ (if x == my_place n then Some (part_in w) else None)
  pub lost : known.lost ≡ false
  pub left : known.left ≡ false

-- all that the node reads
pub record IsTold (n : Node) (w : Wanted) (known : Known) (x : ℕ) : Type 0 where
  pub part : option_map values_in known.part ≡ part_of n w x
  pub lost : known.lost ≡ n.lost (proc_at n x)
  pub left : known.left ≡ has_left n (proc_at n x)
