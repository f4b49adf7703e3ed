-- More replies take a walk on from where fewer took it.
use Rattle.std.proofs.Common.{◌≡◌, List, [], ◌∷◌, ◌++◌, refl, ap}
use Rattle.fx_walk.specs.declared.wanted.Wanted.{Wanted}
use Rattle.fx_walk.specs.State.{State}
use Rattle.fx_walk.specs.Walk.{TextPlace, Reply, Walk, Ends, Passes, Prints, Asks}
use Rattle.fx_walk.specs.Along.{Output, Print, Ask, outputs, outputs_from, rest_after, stop_of}

pub rest_append : (w : Walk) (first more : List Reply) → rest_after w (first ++ more) ≡ rest_after (rest_after w first) more
rest_append (Ends state) first more = refl
rest_append (Passes rest) first more = rest_append rest first more
rest_append (Prints printed rest) first more = rest_append rest first more
rest_append (Asks place wanted state rest) [] more = refl
rest_append (Asks place wanted state rest) (reply ∷ first) more = rest_append (rest reply) first more

pub stop_append : (w : Walk) (first more : List Reply) → stop_of w (first ++ more) ≡ stop_of (rest_after w first) more
stop_append (Ends state) first more = refl
stop_append (Passes rest) first more = stop_append rest first more
stop_append (Prints printed rest) first more = stop_append rest first more
stop_append (Asks place wanted state rest) [] more = refl
stop_append (Asks place wanted state rest) (reply ∷ first) more = stop_append (rest reply) first more

ask_more : (place : TextPlace) (wanted : Wanted) (state : State) (rest : Reply → Walk) (more : List Reply) → outputs (Asks place wanted state rest) more ≡ Ask wanted ∷ outputs_from (Asks place wanted state rest) more
ask_more place wanted state rest [] = refl
ask_more place wanted state rest (reply ∷ more) = refl

pub outputs_append : (w : Walk) (first more : List Reply) → outputs w (first ++ more) ≡ outputs w first ++ outputs_from (rest_after w first) more
outputs_append (Ends state) first more = refl
outputs_append (Passes rest) first more = outputs_append rest first more
outputs_append (Prints printed rest) first more = ap (λ (l : List Output). Print printed ∷ l) (outputs_append rest first more)
outputs_append (Asks place wanted state rest) [] more = ask_more place wanted state rest more
outputs_append (Asks place wanted state rest) (reply ∷ first) more = ap (λ (l : List Output). Ask wanted ∷ l) (outputs_append (rest reply) first more)
