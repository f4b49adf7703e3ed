-- Where a process stands, by what it has written.
use Rattle.std.specs.Prelude.{ℕ, Bool, true, false, List, [], ◌∷◌, ◌++◌, map, Option, Some, None}
use Rattle.fx_base.specs.declared.names.Ident.{Ident}
use Rattle.fx_walk.specs.declared.printed.Called.{Called}
use Rattle.fx_walk.specs.declared.printed.Printed.{Printed}
use Rattle.fx_walk.specs.declared.wanted.Wanted.{Wanted}
use Rattle.fx_walk.specs.State.{State}
use Rattle.fx_walk.specs.Walk.{Reply, Walk, Ends, Passes, Prints, Asks}

-- what a callback writes: its name, and then what it prints
pub data Note : Type 0 where
  Callback : (name : List ℕ) → Note
  Print : (printed : Printed) → Note

abbrev pub notes_of : List Called → List Note
notes_of [] = []
notes_of (called ∷ more) = Callback called.name ∷ (map Print called.prints ++ notes_of more)

-- a return from `Init`: the epoch and the identity in it, and since then the number of calls entered, the groups created and the
-- members attached
pub record Stay : Type 0 where
  pub epoch : ℕ
  pub ident : Ident
  pub calls : ℕ
  pub has_created : (group : ℕ) → Bool
  pub has_attached : (group member : ℕ) → Bool

pub data Stand : Type 0 where
  -- it has written nothing
  New : Stand
  -- it waits for the epoch to begin, with the state that its body was left in
  Joined : (epoch : ℕ) (state : State) → Stand
  -- the epoch has begun, and it has no place
  Spare : (epoch : ℕ) → Stand
  -- the epoch has begun, and it has a place: what its callbacks are still to write, and the state that its body will begin in
  Opening : (epoch : ℕ) (notes : List Note) (state : State) → Stand
  -- `Init` has returned: what is left of the walk of the body
  Walking : (stay : Stay) (walk : Walk) → Stand
  -- it has entered a call: what it asked, in which state, and what is left of the walk behind the reply
  Calling : (stay : Stay) (wanted : Wanted) (state : State) (rest : Reply → Walk) → Stand
  -- its call has failed, in this state
  Failed : (epoch : ℕ) (state : State) → Stand
  Killed : Stand
  Ended : Stand

-- past the actions that write nothing
abbrev pub shown : Walk → Walk
shown (Ends state) = Ends state
shown (Passes rest) = shown rest
shown (Prints printed rest) = Prints printed rest
shown (Asks place wanted state rest) = Asks place wanted state rest

abbrev pub is_killed : Stand → Bool
is_killed Killed = true
is_killed other = false

-- it writes nothing any more
abbrev pub is_gone : Stand → Bool
is_gone Killed = true
is_gone Ended = true
is_gone other = false

-- what a process has asked, inside its call
abbrev pub asked_of : Stand → Option Wanted
asked_of (Calling stay asked state rest) = Some asked
asked_of other = None
