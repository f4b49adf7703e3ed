-- The callbacks that survivors run after a repair, before their body begins again.
use Rattle.std.specs.Prelude.{ℕ, ℤ, negsuc, List, [], ◌∷◌, replicate, Option, Some, None}
use Rattle.std.specs.List.{find}
use Rattle.fx_base.specs.declared.names.Role.{Role}
use Rattle.fx_base.specs.declared.names.Role.TheVariants as role
use Rattle.fx_script.specs.declared.job.Callback.{Callback}
use Rattle.fx_script.specs.declared.job.Stmt.{Stmt}
use Rattle.fx_check.specs.Facts.{Facts, is_call_of}
use Rattle.fx_walk.specs.declared.action.View.{View}
use Rattle.fx_walk.specs.declared.printed.Called.{Called}
use Rattle.fx_walk.specs.declared.printed.Printed.{Printed}
use Rattle.fx_walk.specs.State.{State, at_init}
use Rattle.fx_walk.specs.Walk.{walk_of}
use Rattle.fx_walk.specs.Along.{Output, Print, Ask, outputs, Stop, AtEnd, AtAsk, stop_of}

-- no group is created yet, so no stamp is retained
abbrev pub no_latest : List ℤ
no_latest = replicate 8 (negsuc 0)

-- what a rank sees before its statements create a group
abbrev pub view_at_init : Role → ℕ → ℕ → View
view_at_init role rank size = record { role = role; rank = rank; size = size; latest = no_latest }

abbrev pub body_or_none : Option Callback → List Stmt
body_or_none None = []
body_or_none (Some callback) = callback.body

-- the statements of the callback of this name
abbrev pub callback_body : Facts → List ℕ → List Stmt
callback_body f name = body_or_none (find (is_call_of name) f.callbacks)

-- the prints among what is shown
abbrev pub prints_of : List Output → List Printed
prints_of [] = []
prints_of (Print printed ∷ more) = printed ∷ prints_of more
prints_of (Ask wanted ∷ more) = prints_of more

-- the state where a walk stands
abbrev pub state_at : Stop → State
state_at (AtEnd state) = state
state_at (AtAsk wanted state) = state

-- what a callback prints: it asks nothing
abbrev pub called_of : Facts → View → State → List ℕ → Called
called_of f view state name = record { name = name; prints = prints_of (outputs (walk_of f (callback_body f name) view state) []) }

-- the state that a callback leaves
abbrev pub state_behind : Facts → View → State → List ℕ → State
state_behind f view state name = state_at (stop_of (walk_of f (callback_body f name) view state) [])

-- callbacks of these names run one after another, each from the state that the one before left
abbrev pub calls_of : Facts → View → State → List (List ℕ) → List Called
calls_of f view state [] = []
calls_of f view state (name ∷ names) = called_of f view state name ∷ calls_of f view (state_behind f view state name) names

abbrev pub state_behind_all : Facts → View → State → List (List ℕ) → State
state_behind_all f view state [] = state
state_behind_all f view state (name ∷ names) = state_behind_all f view (state_behind f view state name) names

-- all that are registered run, in the order of registration
abbrev pub callback_run : Facts → View → State → List Called
callback_run f view state = calls_of f view state state.callbacks

-- the state that they leave
abbrev pub state_behind_callbacks : Facts → View → State → State
state_behind_callbacks f view state = state_behind_all f view state state.callbacks

-- only survivors run callbacks, and run them where they would begin their body
abbrev pub callbacks_at_init : Facts → Role → ℕ → ℕ → State → List Called
callbacks_at_init f role.Survivor rank size before = callback_run f (view_at_init role.Survivor rank size) (at_init f role.Survivor before)
callbacks_at_init f other rank size before = []

-- where a body begins, from what was kept before the repair
abbrev pub body_start : Facts → Role → ℕ → ℕ → State → State
body_start f role.Survivor rank size before = state_behind_callbacks f (view_at_init role.Survivor rank size) (at_init f role.Survivor before)
body_start f other rank size before = at_init f other before
