-- The walk of statements: what they print, what they ask of the rank's surroundings, and what they make of the state.
use Rattle.std.specs.Prelude.{◌≡◌, ℕ, zero, suc, ◌+◌, ◌-◌, ℤ, pos, negsuc, Bool, true, false, if◌then◌else◌, List, [], ◌∷◌, map, get_or, Option, Some, None, refl}
use Rattle.std.specs.FinMap as finite
use Rattle.std.specs.Ordering.{nat_cmp}
use Rattle.fx_base.specs.declared.names.GroupId.{GroupId}
use Rattle.fx_base.specs.declared.names.MemberId.{MemberId}
use Rattle.fx_base.specs.declared.names.Role.{Role}
use Rattle.fx_base.specs.declared.names.Role.TheVariants as role
use Rattle.fx_base.specs.declared.names.Stamp.{Stamp}
use Rattle.fx_base.specs.declared.spot.Spot.{Spot}
use Rattle.fx_script.specs.declared.job.Picked.{Picked}
use Rattle.fx_script.specs.declared.job.Picked.TheVariants as picked
use Rattle.fx_script.specs.declared.job.Stmt.{Stmt}
use Rattle.fx_script.specs.declared.job.Stmt.TheOpen.{Stmt-F}
use Rattle.fx_script.specs.declared.job.Stmt.TheFolds.{fold-Stmt}
use Rattle.fx_subset.specs.Indices.{is_covered, blocks_of}
use Rattle.fx_check.specs.Facts.{Facts, is_array, first_attached}
use Rattle.fx_check.specs.Rules.{count_of, pair_of}
use Rattle.fx_walk.specs.declared.action.View.{View}
use Rattle.fx_walk.specs.declared.printed.Printed.{Printed}
use Rattle.fx_walk.specs.declared.wanted.Wanted.{Wanted}
use Rattle.fx_walk.specs.declared.wanted.Wanted.TheVariants as wanted
use Rattle.fx_walk.specs.State.{State, counter_of, elements_of, with_counter, with_elements, with_entries, with_callback}
use Rattle.fx_walk.specs.Values.{sight, value_of, values_from, holds, reduced}

-- ---- answers

-- what an outward statement is given: a refusal gives nothing
pub data Given : Type 0 where
  Nothing : Given
  Number : (n : ℤ) → Given
  Elements : (elements : List ℤ) → Given
  Entries : (entries : finite.FinMap nat_cmp ℤ) → Given

-- and the newest retained stamps of the eight groups after it
pub record Reply : Type 0 where
  pub given : Given
  pub latest : List ℤ

-- ---- walks

-- where an outward statement stands in the text, and whether a block of `when` is around it
pub record TextPlace : Type 0 where
  pub spot : Spot
  pub in_when : Bool

-- What is left of a walk. A plain action that prints nothing passes; a walk ends, or waits at a place of the text for the reply to
-- what it asks there, in a state.
pub data Walk : Type 0 where
  Ends : (state : State) → Walk
  Passes : (rest : Walk) → Walk
  Prints : (printed : Printed) (rest : Walk) → Walk
  Asks : (place : TextPlace) (wanted : Wanted) (state : State) (rest : Reply → Walk) → Walk

-- the walk from here on, by what is seen and the state
abbrev pub Onward : Type 0
Onward = View → State → Walk

-- what a statement means, by whether it stands inside `when`: it goes before what comes behind it
abbrev pub Meaning : Type 0
Meaning = Bool → Onward → Onward

-- ---- parts of statements

abbrev pub is_same_role : Role → Role → Bool
is_same_role role.Initial role.Initial = true
is_same_role role.Survivor role.Survivor = true
is_same_role role.Recovered role.Recovered = true
is_same_role a b = false

-- one statement after another
abbrev pub in_turn : List Meaning → Meaning
in_turn [] inside onward = onward
in_turn (meaning ∷ meanings) inside onward = meaning inside (in_turn meanings inside onward)

-- the other list of a branch, if there is one
abbrev pub in_turn_if : Option (List Meaning) → Meaning
in_turn_if None inside onward = onward
in_turn_if (Some meanings) inside onward = in_turn meanings inside onward

-- A loop before its test, with so many turns left, of which the next has this value. The test is an action, also the last one. Each
-- turn begins by setting the counter.
abbrev pub looped : Facts → List ℕ → Meaning → ℕ → ℕ → Meaning
looped f counter body zero value inside onward view state = Passes (onward view state)
looped f counter body (suc left) value inside onward view state =
    Passes (body inside (looped f counter body left (value + 1) inside onward) view (with_counter f state counter (pos value)))

-- how many values there are from a first one, 0 in place of a negative one, up to a last
abbrev pub turns_of : ℤ → ℤ → ℕ
turns_of first (pos last) = suc last - count_of first
turns_of first (negsuc last) = 0

-- an array's elements, or a counter's one value
abbrev pub printed_of : Facts → State → List ℕ → Printed
printed_of f state name = record { name = name; values = if is_array f.names name then elements_of f state name else counter_of f state name ∷ [] }

abbrev pub name_or_none : Option (List ℕ) → List ℕ
name_or_none None = []
name_or_none (Some name) = name

-- the array that the job attaches to a member of a group
abbrev pub member_array : Facts → ℤ → ℤ → List ℕ
member_array f group member = name_or_none (first_attached f.attached group member)

-- whether a subset holds an index
abbrev pub is_picked : Picked → ℕ → Bool
is_picked picked.Full i = true
is_picked picked.Empty i = false
is_picked (picked.Strided blocks start end stride) i = is_covered (blocks_of (count_of blocks) (count_of start) (count_of end) (count_of stride)) i
is_picked (picked.Ranges pairs) i = is_covered (map pair_of pairs) i

-- the indices from this one on that a subset holds, each with its element, rising
abbrev pub picked_from : Picked → ℕ → List ℤ → List (ℕ × ℤ)
picked_from subset i [] = []
picked_from subset i (element ∷ elements) = if is_picked subset i then (i, element) ∷ picked_from subset (i + 1) elements else picked_from subset (i + 1) elements

-- the elements of an array at the indices that a subset holds
abbrev pub stored : Picked → List ℤ → finite.FinMap nat_cmp ℤ
stored subset elements = finite.from_sorted (picked_from subset 0 elements)

abbrev pub group_id : ℤ → GroupId
group_id group = record { 0 = count_of group }

abbrev pub member_id : ℤ → MemberId
member_id member = record { 0 = count_of member }

abbrev pub stamp_at : ℤ → Stamp
stamp_at stamp = record { 0 = stamp }

-- ---- what is given changes the state, where it is of the kind that the statement takes

-- a number is set in the counter
abbrev pub sets_counter : Facts → List ℕ → State → Given → State
sets_counter f counter state (Number n) = with_counter f state counter n
sets_counter f counter state other = state

-- elements become those of the array
abbrev pub sets_elements : Facts → List ℕ → State → Given → State
sets_elements f array state (Elements elements) = with_elements f state array elements
sets_elements f array state other = state

-- a map's elements are written at exactly its indices of the array
abbrev pub sets_entries : Facts → List ℕ → State → Given → State
sets_entries f array state (Entries entries) = with_entries f state array entries
sets_entries f array state other = state

-- whatever is given
abbrev pub unchanged : State → Given → State
unchanged state given = state

-- what is seen after a reply
abbrev pub view_after : View → Reply → View
view_after view reply = record view { latest = reply.latest }

-- a statement that asks, and goes on with what it makes of the state
abbrev pub asks : Spot → Wanted → (Given → State) → Meaning
asks spot wanted made inside onward view state = Asks (record { spot = spot; in_when = inside }) wanted state (λ reply. onward (view_after view reply) (made reply.given))

-- ---- statements

-- `let` computes all elements from the old arrays, and then writes them
abbrev pub walk_level : Facts → Stmt-F Meaning → Meaning
walk_level f (Stmt-F.Let spot array value) inside onward view state =
    Passes (onward view (with_elements f state array (values_from f value (sight view state) 0 (elements_of f state array))))
walk_level f (Stmt-F.Set spot counter value) inside onward view state = Passes (onward view (with_counter f state counter (value_of f value (sight view state))))
walk_level f (Stmt-F.Print spot name) inside onward view state = Prints (printed_of f state name) (onward view state)
walk_level f (Stmt-F.Register spot name) inside onward view state = Passes (onward view (with_callback state name))
walk_level f (Stmt-F.RoleOnly spot role body) inside onward view state = Passes (if is_same_role role view.role then in_turn body true onward view state else onward view state)
walk_level f (Stmt-F.Branch spot test left right body other) inside onward view state =
    Passes (if holds test (value_of f left (sight view state)) (value_of f right (sight view state)) then in_turn body inside onward view state else in_turn_if other inside onward view state)
walk_level f (Stmt-F.Loop spot counter first last body) inside onward view state =
    looped f counter (in_turn body) (turns_of (value_of f first (sight view state)) last) (count_of (value_of f first (sight view state))) inside onward view state
walk_level f (Stmt-F.Barrier spot) inside onward view state = asks spot wanted.Barrier (unchanged state) inside onward view state
walk_level f (Stmt-F.Reduce spot o counter array) inside onward view state =
    asks spot (wanted.Reduce o (reduced o (elements_of f state array))) (sets_counter f counter state) inside onward view state
walk_level f (Stmt-F.Agree spot counter array index) inside onward view state =
    asks spot (wanted.Agree (get_or (elements_of f state array) (count_of index) (pos 0))) (sets_counter f counter state) inside onward view state
walk_level f (Stmt-F.Shift spot source target by) inside onward view state =
    asks spot (wanted.Shift (count_of by) (elements_of f state source)) (sets_elements f target state) inside onward view state
walk_level f (Stmt-F.Group spot group start depth) inside onward view state =
    asks spot (wanted.Group (group_id group) (stamp_at start) (count_of depth)) (unchanged state) inside onward view state
walk_level f (Stmt-F.Member spot group member array) inside onward view state = asks spot (wanted.Attach (group_id group) (member_id member)) (unchanged state) inside onward view state
walk_level f (Stmt-F.Store spot group member subset) inside onward view state =
    asks spot (wanted.Store (group_id group) (member_id member) (stored subset (elements_of f state (member_array f group member)))) (unchanged state) inside onward view state
walk_level f (Stmt-F.Commit spot group) inside onward view state = asks spot (wanted.Commit (group_id group)) (unchanged state) inside onward view state
walk_level f (Stmt-F.CommitBarrier spot group) inside onward view state = asks spot (wanted.Close (group_id group)) (unchanged state) inside onward view state
walk_level f (Stmt-F.Restore spot group member stamp) inside onward view state =
    asks spot (wanted.Restore (group_id group) (member_id member) (stamp_at (value_of f stamp (sight view state)))) (sets_entries f (member_array f group member) state) inside onward view state
walk_level f (Stmt-F.Drop spot group stamp) inside onward view state =
    asks spot (wanted.Delete (group_id group) (stamp_at (value_of f stamp (sight view state)))) (unchanged state) inside onward view state

abbrev pub walk : Facts → Stmt → Meaning
walk f = fold-Stmt Meaning (walk_level f)

abbrev pub walks : Facts → List Stmt → Meaning
walks f statements = in_turn (map (walk f) statements)

-- where the statements are done the walk ends
abbrev pub ended : Onward
ended view state = Ends state

-- the walk of statements and nothing behind them
abbrev pub walk_of : Facts → List Stmt → View → State → Walk
walk_of f statements = walks f statements false ended

-- ---- rows

-- a last value counts, and a first one that is negative begins at 0
five_turns : turns_of (negsuc 3) (pos 4) ≡ 5
five_turns = refl

-- a first value past the last one gives no turn
no_turn : turns_of (pos 5) (pos 4) ≡ 0
no_turn = refl
