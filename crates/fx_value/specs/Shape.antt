-- States of one shape: as many counters, and arrays as long, as a job declares; and walks that keep it.
use Rattle.std.specs.Prelude.{◌≡◌, refl, ℕ, ℤ, pos, List, [], ◌∷◌, map, length, codes}
use Rattle.std.specs.Coded.{Coded, code_by, coded×, coded_list, coded_ℕ, coded_ℤ}
use Rattle.fx_base.specs.declared.names.Role.{Role}
use Rattle.fx_base.specs.declared.names.Role.TheVariants as role
use Rattle.fx_script.specs.declared.job.Decl.{Decl}
use Rattle.fx_script.specs.declared.job.Decl.TheVariants as decl
use Rattle.fx_walk.specs.declared.wanted.Wanted.{Wanted}
use Rattle.fx_walk.specs.declared.wanted.Wanted.TheVariants as wanted
use Rattle.fx_walk.specs.State.{State, zero_counters, zero_arrays}
use Rattle.fx_walk.specs.Walk.{Given, Elements, Reply, Walk, Ends, Passes, Prints, Asks}

-- a state as the triple of its parts
abbrev pub state_code : Coded State
state_code =
    code_by (List ℤ × (List (List ℤ) × List (List ℕ))) (coded× (coded_list coded_ℤ) (coded× (coded_list (coded_list coded_ℤ)) (coded_list (coded_list coded_ℕ))))
    (λ s. (s.counters, (s.arrays, s.callbacks)))
    (λ p. record { counters = p.0; arrays = p.1.0; callbacks = p.1.1 })
    (λ s. refl)

-- the state of these declarations in which all counters and elements are 0, and no callback is registered
abbrev pub blank_of : List Decl → State
blank_of names = record { counters = zero_counters names; arrays = zero_arrays names; callbacks = [] }

-- 0 in the place of each number
abbrev pub zeroed : List ℤ → List ℤ
zeroed numbers = map (λ _. pos 0) numbers

-- the state with 0 in the place of each number, and no callback
abbrev pub emptied : State → State
emptied state = record { counters = zeroed state.counters; arrays = map zeroed state.arrays; callbacks = [] }

-- a state with as many counters as are declared, and with arrays of the declared lengths
abbrev pub IsShaped : List Decl → State → Type 0
IsShaped names state = emptied state ≡ blank_of names

-- what a role leaves of a state
abbrev pub kept_by : Role → State → State
kept_by role.Survivor state = record state { counters = zeroed state.counters }
kept_by role.Initial state = emptied state
kept_by role.Recovered state = emptied state

-- ---- walks

-- a shift is given as many elements as it gives away; whatever else is given fits
abbrev pub Fits : Wanted → Given → Type 0
Fits (wanted.Shift by own) (Elements elements) = length elements ≡ length own
Fits other given = Unit {0}

-- wherever the walk stops, its state has the declared shape, so long as what it is given fits
abbrev pub StaysShaped : List Decl → Walk → Type 0
StaysShaped names (Ends state) = IsShaped names state
StaysShaped names (Passes rest) = StaysShaped names rest
StaysShaped names (Prints printed rest) = StaysShaped names rest
StaysShaped names (Asks place wanted state rest) = IsShaped names state × ((reply : Reply) → Fits wanted reply.given → StaysShaped names (rest reply))

-- ---- rows

abbrev two_counters : List Decl
two_counters = decl.Counter (record { line = 5; column = 1 }) (codes "c") ∷ decl.Array (record { line = 6; column = 1 }) (codes "a") (pos 2) ∷ decl.Counter (record { line = 7; column = 1 }) (codes "d") ∷ []

abbrev some_state : State
some_state = record { counters = pos 4 ∷ pos 5 ∷ []; arrays = (pos 6 ∷ pos 7 ∷ []) ∷ []; callbacks = codes "n" ∷ [] }

-- two counters and an array of two elements
of_one_shape : IsShaped two_counters some_state
of_one_shape = refl

-- a survivor keeps its array and its callback
kept : kept_by role.Survivor some_state ≡ record some_state { counters = pos 0 ∷ pos 0 ∷ [] }
kept = refl
