-- What an outward statement in flat code asks, and what it makes of what it is given.
use Rattle.std.specs.Prelude.{ℕ, ◌+◌, ℤ, pos, Bool, true, false, if◌then◌else◌, List, [], ◌∷◌, get_or, slice_set}
use Rattle.std.specs.FinMap as finite
use Rattle.std.specs.FinSet as set
use Rattle.std.specs.Ordering.{nat_cmp}
use Rattle.fx_walk.specs.declared.action.View.{View}
use Rattle.fx_walk.specs.declared.wanted.Wanted.{Wanted}
use Rattle.fx_walk.specs.declared.wanted.Wanted.TheVariants as wanted
use Rattle.fx_walk.specs.State.{State, restored_from}
use Rattle.fx_walk.specs.Values.{sight, reduced}
use Rattle.fx_walk.specs.Walk.{Given, Number, Elements, Entries, stamp_at}
use Rattle.fx_value.specs.Terms.{term_value}
use Rattle.fx_flow.specs.declared.instr.Outward.{Outward}
use Rattle.fx_flow.specs.declared.instr.Outward.TheVariants as outward
use Rattle.fx_flow.specs.declared.instr.Selection.{Selection}
use Rattle.fx_flow.specs.declared.instr.Selection.TheVariants as selection

-- ---- arrays and counters by slot

abbrev pub array_at : State → ℕ → List ℤ
array_at state slot = get_or state.arrays slot []

abbrev pub counter_at : State → ℕ → ℤ
counter_at state slot = get_or state.counters slot (pos 0)

abbrev pub with_array_at : State → ℕ → List ℤ → State
with_array_at state slot elements = record state { arrays = slice_set state.arrays slot elements }

abbrev pub with_counter_at : State → ℕ → ℤ → State
with_counter_at state slot value = record state { counters = slice_set state.counters slot value }

-- ---- what is stored

abbrev pub is_selected : Selection → ℕ → Bool
is_selected selection.All i = true
is_selected selection.Nothing i = false
is_selected (selection.Within indices) i = set.contains indices i

-- the selected indices from this one on, each with its element, rising
abbrev pub selected_from : Selection → ℕ → List ℤ → List (ℕ × ℤ)
selected_from which i [] = []
selected_from which i (element ∷ elements) = if is_selected which i then (i, element) ∷ selected_from which (i + 1) elements else selected_from which (i + 1) elements

abbrev pub selected : Selection → List ℤ → finite.FinMap nat_cmp ℤ
selected which elements = finite.from_sorted (selected_from which 0 elements)

-- ---- what is asked and taken

-- the statement with the values of its operands
abbrev pub wanted_by : Outward → View → State → Wanted
wanted_by outward.Barrier view state = wanted.Barrier
wanted_by (outward.Reduce op counter array) view state = wanted.Reduce op (reduced op (array_at state array))
wanted_by (outward.Agree counter array index) view state = wanted.Agree (get_or (array_at state array) index (pos 0))
wanted_by (outward.Shift by source target) view state = wanted.Shift by (array_at state source)
wanted_by (outward.Group group start depth) view state = wanted.Group group start depth
wanted_by (outward.Attach group member) view state = wanted.Attach group member
wanted_by (outward.Store group member array which) view state = wanted.Store group member (selected which (array_at state array))
wanted_by (outward.Commit group) view state = wanted.Commit group
wanted_by (outward.Close group) view state = wanted.Close group
wanted_by (outward.Restore group member array stamp) view state = wanted.Restore group member (stamp_at (term_value stamp (sight view state)))
wanted_by (outward.Delete group stamp) view state = wanted.Delete group (stamp_at (term_value stamp (sight view state)))

-- a number is set in the counter
abbrev pub takes_number : ℕ → State → Given → State
takes_number counter state (Number n) = with_counter_at state counter n
takes_number counter state other = state

-- elements become those of the array
abbrev pub takes_elements : ℕ → State → Given → State
takes_elements array state (Elements elements) = with_array_at state array elements
takes_elements array state other = state

-- a map's elements are written at exactly its indices of the array
abbrev pub takes_entries : ℕ → State → Given → State
takes_entries array state (Entries entries) = with_array_at state array (restored_from 0 entries (array_at state array))
takes_entries array state other = state

-- what the statement makes of the state with what it is given
abbrev pub taken_by : Outward → State → Given → State
taken_by (outward.Reduce op counter array) state given = takes_number counter state given
taken_by (outward.Agree counter array index) state given = takes_number counter state given
taken_by (outward.Shift by source target) state given = takes_elements target state given
taken_by (outward.Restore group member array stamp) state given = takes_entries array state given
taken_by other state given = state
