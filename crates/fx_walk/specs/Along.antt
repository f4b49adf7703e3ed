-- A walk along replies: what it shows, and where it stands when they run out.
use Rattle.std.specs.Prelude.{◌≡◌, refl, List, [], ◌∷◌}
use Rattle.fx_walk.specs.declared.action.At.{At}
use Rattle.fx_walk.specs.declared.action.At.TheVariants as at
use Rattle.fx_walk.specs.declared.printed.Printed.{Printed}
use Rattle.fx_walk.specs.declared.wanted.Wanted.{Wanted}
use Rattle.fx_walk.specs.State.{State}
use Rattle.fx_walk.specs.Walk.{TextPlace, Reply, Walk, Ends, Passes, Prints, Asks}

-- what a walk shows
pub data Output : Type 0 where
  Print : (printed : Printed) → Output
  Ask : (wanted : Wanted) → Output

-- where it stands: at its end, or at a statement whose reply it waits for
pub data Stop : Type 0 where
  AtEnd : (state : State) → Stop
  AtAsk : (wanted : Wanted) (state : State) → Stop

-- the prints and the outward statements in order, up to the one whose reply isn't there
abbrev pub outputs : Walk → List Reply → List Output
outputs (Ends state) replies = []
outputs (Passes rest) replies = outputs rest replies
outputs (Prints printed rest) replies = Print printed ∷ outputs rest replies
outputs (Asks place wanted state rest) [] = Ask wanted ∷ []
outputs (Asks place wanted state rest) (reply ∷ replies) = Ask wanted ∷ outputs (rest reply) replies

-- where the walk has come with these replies; those that come after its end change nothing
abbrev pub stop_of : Walk → List Reply → Stop
stop_of (Ends state) replies = AtEnd state
stop_of (Passes rest) replies = stop_of rest replies
stop_of (Prints printed rest) replies = stop_of rest replies
stop_of (Asks place wanted state rest) [] = AtAsk wanted state
stop_of (Asks place wanted state rest) (reply ∷ replies) = stop_of (rest reply) replies

-- what is left of it there
abbrev pub rest_after : Walk → List Reply → Walk
rest_after (Ends state) replies = Ends state
rest_after (Passes rest) replies = rest_after rest replies
rest_after (Prints printed rest) replies = rest_after rest replies
rest_after (Asks place wanted state rest) [] = Asks place wanted state rest
rest_after (Asks place wanted state rest) (reply ∷ replies) = rest_after (rest reply) replies

-- what a walk that stands there shows, when more replies come: the statement that it waits at was shown before
abbrev pub outputs_from : Walk → List Reply → List Output
outputs_from (Asks place wanted state rest) (reply ∷ replies) = outputs (rest reply) replies
outputs_from (Asks place wanted state rest) [] = []
outputs_from (Ends state) replies = []
outputs_from (Passes rest) replies = outputs rest replies
outputs_from (Prints printed rest) replies = Print printed ∷ outputs rest replies

-- which kind of action is next
abbrev pub at_of : Walk → At
at_of (Ends state) = at.Finish
at_of (Passes rest) = at.Plain
at_of (Prints printed rest) = at.Plain
at_of (Asks place wanted state rest) = at.Outward

-- the kinds of the next action
kinds : (place : TextPlace) (printed : Printed) (wanted : Wanted) (state : State) (rest : Reply → Walk)
    → (at_of (Passes (Ends state)) ≡ at.Plain) × (at_of (Prints printed (Ends state)) ≡ at.Plain) × (at_of (Asks place wanted state rest) ≡ at.Outward) × (at_of (Ends state) ≡ at.Finish)
kinds place printed wanted state rest = (refl, refl, refl, refl)
