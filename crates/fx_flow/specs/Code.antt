-- Flat code: what its instructions do, when it does what is left of a walk, and when it is the code of statements.
use Rattle.std.specs.Prelude.{◌≡◌, refl, ℕ, zero, suc, ◌-◌, ℤ, pos, Bool, true, if◌then◌else◌, List, [], ◌∷◌, codes, slice_get, Option, Some, None}
use Rattle.fx_base.specs.declared.names.Role.{Role}
use Rattle.fx_base.specs.declared.names.Role.TheVariants as role
use Rattle.fx_base.specs.declared.spot.Spot.{Spot}
use Rattle.fx_script.specs.declared.expr.Expr.{Expr}
use Rattle.fx_script.specs.declared.job.Stmt.{Stmt}
use Rattle.fx_script.specs.declared.job.Stmt.TheFolds.{map-Stmt}
use Rattle.fx_script.specs.declared.job.Stmt.TheOpen.{Stmt-F}
use Rattle.fx_script.specs.declared.job.Stmt.TheViews.{roll-Stmt}
use Rattle.fx_script.specs.declared.job.Stmt.TheVariants as stmt
use Rattle.fx_script.specs.declared.job.Test.{Test}
use Rattle.fx_check.specs.declared.surroundings.Surroundings.{Surroundings}
use Rattle.fx_check.specs.Acceptance.{stmt_line}
use Rattle.fx_check.specs.Facts.{Facts, is_array, has_member, first_attached}
use Rattle.fx_check.specs.Parts.{KeepsRules}
use Rattle.fx_check.specs.Rules.{count_of, is_between, fits_32, length_of_attached}
use Rattle.fx_walk.specs.declared.action.View.{View}
use Rattle.fx_walk.specs.declared.printed.Printed.{Printed}
use Rattle.fx_walk.specs.declared.wanted.Wanted.{Wanted}
use Rattle.fx_walk.specs.State.{State, counter_slot, array_slot, with_callback}
use Rattle.fx_walk.specs.Values.{sight, holds}
use Rattle.fx_walk.specs.Walk.{Given, Reply, Walk, Ends, Passes, Prints, Asks, Onward, Meaning, is_same_role, view_after, asks, walk_level, walk}
use Rattle.fx_value.specs.Terms.{term_of, term_value, term_values}
use Rattle.fx_flow.specs.declared.instr.Instr.{Instr}
use Rattle.fx_flow.specs.declared.instr.Instr.TheVariants as instr
use Rattle.fx_flow.specs.declared.instr.Loop.{Loop}
use Rattle.fx_flow.specs.declared.instr.Outward.{Outward}
use Rattle.fx_flow.specs.declared.instr.Variable.{Variable}
use Rattle.fx_flow.specs.declared.instr.Variable.TheVariants as variable
use Rattle.fx_flow.specs.Outward.{array_at, counter_at, with_array_at, with_counter_at, wanted_by, taken_by}

-- ---- what code does

-- where a rank stands: the place of the next instruction, the open loops, innermost first, and the state
pub record Stand : Type 0 where
  pub place : ℕ
  pub opened : List Loop
  pub state : State

-- what an instruction does: the code is over, an action leads on, which may print, or a statement waits to be answered
pub data Act : Type 0 where
  Over : Act
  Moves : (printed : Option Printed) (stand : Stand) → Act
  Waits : (wanted : Wanted) → Act

abbrev pub goes : ℕ → List Loop → State → Act
goes place opened state = Moves None (record { place = place; opened = opened; state = state })

-- the test of a loop with so many turns left: the next one has the value that leaves the others up to the last
abbrev pub tests : ℕ → ℕ → ℕ → ℕ → ℕ → List Loop → State → Act
tests counter last inside next zero opened state = goes next opened state
tests counter last inside next (suc turns) opened state =
    goes inside (record { counter = counter; last = last; inside = inside; next = next; turns = turns } ∷ opened) (with_counter_at state counter (pos (last - turns)))

-- the end of a turn, or of the body
abbrev pub ends : List Loop → State → Act
ends [] state = Over
ends (loop ∷ opened) state = tests loop.counter loop.last loop.inside loop.next loop.turns opened state

-- the elements of an array, or the one value of a counter
abbrev pub values_at : State → Variable → List ℤ
values_at state (variable.Array slot) = array_at state slot
values_at state (variable.Counter slot) = counter_at state slot ∷ []

-- behind the code there is its end, too
abbrev pub acts_on : View → Stand → Option Instr → Act
acts_on view c None = ends c.opened c.state
acts_on view c (Some instr.End) = ends c.opened c.state
acts_on view c (Some (instr.Let array value next)) = goes next c.opened (with_array_at c.state array (term_values value (sight view c.state) 0 (array_at c.state array)))
acts_on view c (Some (instr.Set counter value next)) = goes next c.opened (with_counter_at c.state counter (term_value value (sight view c.state)))
acts_on view c (Some (instr.Print name variable next)) = Moves (Some (record { name = name; values = values_at c.state variable })) (record c { place = next })
acts_on view c (Some (instr.Register name next)) = goes next c.opened (with_callback c.state name)
acts_on view c (Some (instr.When role inside next)) = goes (if is_same_role role view.role then inside else next) c.opened c.state
acts_on view c (Some (instr.If test left right chosen other)) =
    goes (if holds test (term_value left (sight view c.state)) (term_value right (sight view c.state)) then chosen else other) c.opened c.state
acts_on view c (Some (instr.For counter first last inside next)) =
    tests counter last inside next (suc last - count_of (term_value first (sight view c.state))) c.opened c.state
acts_on view c (Some (instr.Outward what next)) = Waits (wanted_by what view c.state)

abbrev pub acts : List Instr → View → Stand → Act
acts code view c = acts_on view c (slice_get code c.place)

-- an outward statement takes what it is given, and is passed
abbrev pub takes_on : Stand → Given → Option Instr → Stand
takes_on c given (Some (instr.Outward what next)) = record c { place = next; state = taken_by what c.state given }
takes_on c given other = c

abbrev pub takes : List Instr → Stand → Given → Stand
takes code c given = takes_on c given (slice_get code c.place)

-- ---- code and walks

-- from here the code does what is left of a walk, action for action
abbrev pub Follows : List Instr → Walk → View → Stand → Type 0
Follows code (Ends state) view c = (acts code view c ≡ Over) × (c.state ≡ state)
Follows code (Passes rest) view c = (next : Stand) × (acts code view c ≡ Moves None next) × Follows code rest view next
Follows code (Prints printed rest) view c = (next : Stand) × (acts code view c ≡ Moves (Some printed) next) × Follows code rest view next
Follows code (Asks place wanted state rest) view c =
    (acts code view c ≡ Waits wanted) × (c.state ≡ state) × ((reply : Reply) → Follows code (rest reply) (view_after view reply) (takes code c reply.given))

-- at the beginning of code no loop is open
abbrev pub start : ℕ → State → Stand
start begin state = record { place = begin; opened = []; state = state }

-- ---- the code of statements

-- the array or the counter of this name
abbrev pub variable_of : Facts → List ℕ → Variable
variable_of f name = if is_array f.names name then variable.Array (array_slot f.names name) else variable.Counter (counter_slot f.names name)

-- each array that the job attaches to a member is declared, with a length of 32 bits
abbrev pub DeclaresMembers : Facts → Type 0
DeclaresMembers f = (group member : ℤ) → has_member f group member ≡ true → (len : ℤ) × (length_of_attached f.names (first_attached f.attached group member) ≡ Some len) × (fits_32 len ≡ true)

-- what is asked and taken is what the statement asks and takes, wherever its line keeps the rules
abbrev pub AsksAs : Facts → Stmt-F Stmt → Spot → Outward → Type 0
AsksAs f x spot what = DeclaresMembers f → (p : Surroundings) → KeepsRules (stmt_line f p x) → (inside : Bool) (onward : Onward) (view : View) (state : State)
    → walk_level f (map-Stmt Stmt Meaning (walk f) x) inside onward view state ≡ asks spot (wanted_by what view state) (taken_by what state) inside onward view state

-- from one place the code does these statements, and comes then to another
pub data Leads (f : Facts) (code : List Instr) : ℕ → List Stmt → ℕ → Type 0 where
  Nothing : {p : ℕ} → Leads f code p [] p
  DoesLet : {p m q : ℕ} {ss : List Stmt} (spot : Spot) (array : List ℕ) (value : Expr) → slice_get code p ≡ Some (instr.Let (array_slot f.names array) (term_of f.names value) m)
      → Leads f code m ss q → Leads f code p (stmt.Let spot array value ∷ ss) q
  DoesSet : {p m q : ℕ} {ss : List Stmt} (spot : Spot) (counter : List ℕ) (value : Expr) → slice_get code p ≡ Some (instr.Set (counter_slot f.names counter) (term_of f.names value) m)
      → Leads f code m ss q → Leads f code p (stmt.Set spot counter value ∷ ss) q
  DoesPrint : {p m q : ℕ} {ss : List Stmt} (spot : Spot) (name : List ℕ) → slice_get code p ≡ Some (instr.Print name (variable_of f name) m)
      → Leads f code m ss q → Leads f code p (stmt.Print spot name ∷ ss) q
  DoesRegister : {p m q : ℕ} {ss : List Stmt} (spot : Spot) (name : List ℕ) → slice_get code p ≡ Some (instr.Register name m)
      → Leads f code m ss q → Leads f code p (stmt.Register spot name ∷ ss) q
  DoesWhen : {p a m q : ℕ} {ss : List Stmt} (spot : Spot) (role : Role) (body : List Stmt) → slice_get code p ≡ Some (instr.When role a m)
      → Leads f code a body m → Leads f code m ss q → Leads f code p (stmt.RoleOnly spot role body ∷ ss) q
  DoesIf : {p a b m q : ℕ} {ss : List Stmt} (spot : Spot) (test : Test) (left right : Expr) (body other : List Stmt)
      → slice_get code p ≡ Some (instr.If test (term_of f.names left) (term_of f.names right) a b)
      → Leads f code a body m → Leads f code b other m → Leads f code m ss q → Leads f code p (stmt.Branch spot test left right body (Some other) ∷ ss) q
  DoesIfAlone : {p a m q : ℕ} {ss : List Stmt} (spot : Spot) (test : Test) (left right : Expr) (body : List Stmt)
      → slice_get code p ≡ Some (instr.If test (term_of f.names left) (term_of f.names right) a m)
      → Leads f code a body m → Leads f code m ss q → Leads f code p (stmt.Branch spot test left right body None ∷ ss) q
  DoesFor : {p a m q : ℕ} {ss : List Stmt} (spot : Spot) (counter : List ℕ) (first : Expr) (last : ℤ) (body : List Stmt) (greatest : ℕ)
      → slice_get code p ≡ Some (instr.For (counter_slot f.names counter) (term_of f.names first) greatest a m) → (is_between 0 9999 last ≡ true → last ≡ pos greatest)
      → Leads f code a body 0 → Leads f code m ss q → Leads f code p (stmt.Loop spot counter first last body ∷ ss) q
  DoesOutward : {p m q : ℕ} {ss : List Stmt} (spot : Spot) (x : Stmt-F Stmt) (s : Stmt) (what : Outward) → roll-Stmt x ≡ s → AsksAs f x spot what → slice_get code p ≡ Some (instr.Outward what m)
      → Leads f code m ss q → Leads f code p (s ∷ ss) q

-- the code of a body: the end of turns, which is that of the body too, stands first, and the statements lead to it
pub record IsCode (f : Facts) (code : List Instr) (begin : ℕ) (body : List Stmt) : Type 0 where
  pub ends : slice_get code 0 ≡ Some instr.End
  pub leads : Leads f code begin body 0

-- ---- rows

abbrev row_state : State
row_state = record { counters = pos 4 ∷ []; arrays = (pos 6 ∷ pos 7 ∷ []) ∷ []; callbacks = [] }

abbrev row_view : View
row_view = record { role = role.Initial; rank = 0; size = 1; latest = [] }

-- the code of a loop without turns
abbrev row_loop : ℕ → Loop
row_loop turns = record { counter = 0; last = 3; inside = 2; next = 5; turns = turns }

-- behind a turn with another one left: of the values up to 3 the last but none is due
last_turn : acts (instr.End ∷ []) row_view (record { place = 0; opened = row_loop 1 ∷ []; state = row_state }) ≡ goes 2 (row_loop 0 ∷ []) (record row_state { counters = pos 3 ∷ [] })
last_turn = refl

-- behind the last turn the counter stays
turns_are_over : acts (instr.End ∷ []) row_view (record { place = 0; opened = row_loop 0 ∷ []; state = row_state }) ≡ goes 5 [] row_state
turns_are_over = refl

-- with no loop open the same instruction is the end
body_is_over : acts (instr.End ∷ []) row_view (start 0 row_state) ≡ Over
body_is_over = refl

-- an array is printed with all its elements
array_printed : acts (instr.Print (codes "a") (variable.Array 0) 7 ∷ []) row_view (start 0 row_state) ≡ Moves (Some (record { name = codes "a"; values = pos 6 ∷ pos 7 ∷ [] })) (start 7 row_state)
array_printed = refl

-- and what another role does is passed
other_role : acts (instr.When role.Survivor 3 4 ∷ []) row_view (start 0 row_state) ≡ goes 4 [] row_state
other_role = refl
