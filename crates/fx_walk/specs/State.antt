-- What a rank keeps for the statements of its job, and what it has when its body begins.
use Rattle.std.specs.Prelude.{◌≡◌, ℕ, suc, ◌+◌, ℤ, pos, if◌then◌else◌, List, [], ◌∷◌, ◌++◌, codes, get_or, replicate, slice_set, Option, Some, None, refl}
use Rattle.std.specs.FinMap.{FinMap, get}
use Rattle.std.specs.List.{list_any}
use Rattle.std.specs.Ordering.{nat_cmp}
use Rattle.std.specs.Str.{bytes_eq}
use Rattle.fx_base.specs.declared.names.Role.{Role}
use Rattle.fx_base.specs.declared.names.Role.TheVariants as role
use Rattle.fx_script.specs.declared.job.Decl.{Decl}
use Rattle.fx_script.specs.declared.job.Decl.TheVariants as decl
use Rattle.fx_check.specs.Facts.{Facts}
use Rattle.fx_check.specs.Rules.{count_of}

-- the values of the counters and the elements of the arrays, in the order of their declarations, and the names of the registered
-- callbacks in the order of registration
pub record State : Type 0 where
  pub counters : List ℤ
  pub arrays : List (List ℤ)
  pub callbacks : List (List ℕ)

-- how many counters are declared before the one of this name
abbrev pub counter_slot : List Decl → List ℕ → ℕ
counter_slot [] name = 0
counter_slot (decl.Counter spot own ∷ names) name = if bytes_eq own name then 0 else suc (counter_slot names name)
counter_slot (decl.Array spot own len ∷ names) name = counter_slot names name

-- the same of arrays
abbrev pub array_slot : List Decl → List ℕ → ℕ
array_slot [] name = 0
array_slot (decl.Array spot own len ∷ names) name = if bytes_eq own name then 0 else suc (array_slot names name)
array_slot (decl.Counter spot own ∷ names) name = array_slot names name

-- ---- reading and writing by name

abbrev pub counter_of : Facts → State → List ℕ → ℤ
counter_of f state name = get_or state.counters (counter_slot f.names name) (pos 0)

abbrev pub elements_of : Facts → State → List ℕ → List ℤ
elements_of f state name = get_or state.arrays (array_slot f.names name) []

abbrev pub with_counter : Facts → State → List ℕ → ℤ → State
with_counter f state name value = record state { counters = slice_set state.counters (counter_slot f.names name) value }

abbrev pub with_elements : Facts → State → List ℕ → List ℤ → State
with_elements f state name elements = record state { arrays = slice_set state.arrays (array_slot f.names name) elements }

abbrev pub value_or : ℤ → Option ℤ → ℤ
value_or old None = old
value_or old (Some value) = value

-- elements that stand from this index on, with the values of the map at exactly its indices
abbrev pub restored_from : ℕ → FinMap nat_cmp ℤ → List ℤ → List ℤ
restored_from i entries [] = []
restored_from i entries (old ∷ olds) = value_or old (get entries i) ∷ restored_from (i + 1) entries olds

-- an array with the values of a map at exactly its indices
abbrev pub with_entries : Facts → State → List ℕ → FinMap nat_cmp ℤ → State
with_entries f state name entries = with_elements f state name (restored_from 0 entries (elements_of f state name))

-- a name that is registered isn't registered again
abbrev pub with_callback : State → List ℕ → State
with_callback state name = record state { callbacks = if list_any (λ own. bytes_eq own name) state.callbacks then state.callbacks else state.callbacks ++ name ∷ [] }

-- ---- where a body begins

abbrev pub zero_counters : List Decl → List ℤ
zero_counters [] = []
zero_counters (decl.Counter spot name ∷ names) = pos 0 ∷ zero_counters names
zero_counters (decl.Array spot name len ∷ names) = zero_counters names

abbrev pub zero_arrays : List Decl → List (List ℤ)
zero_arrays [] = []
zero_arrays (decl.Array spot name len ∷ names) = replicate (count_of len) (pos 0) ∷ zero_arrays names
zero_arrays (decl.Counter spot name ∷ names) = zero_arrays names

-- all counters and elements are 0, and no callback is registered
abbrev pub blank : Facts → State
blank f = record { counters = zero_counters f.names; arrays = zero_arrays f.names; callbacks = [] }

-- the state after a repair, from the one before it: a survivor's counters are 0, and its arrays and callbacks as they were; another
-- rank has nothing of its own
abbrev pub at_init : Facts → Role → State → State
at_init f role.Survivor before = record before { counters = zero_counters f.names }
at_init f role.Initial before = blank f
at_init f role.Recovered before = blank f

-- ---- rows

abbrev row_facts : Facts
row_facts = record {
  names = decl.Counter (record { line = 5; column = 1 }) (codes "c") ∷ decl.Array (record { line = 6; column = 1 }) (codes "a") (pos 2) ∷ decl.Counter (record { line = 7; column = 1 }) (codes "d") ∷ [];
  callbacks = [];
  created = [];
  attached = [];
}

abbrev row_state : State
row_state = record { counters = pos 4 ∷ pos 5 ∷ []; arrays = (pos 6 ∷ pos 7 ∷ []) ∷ []; callbacks = codes "n" ∷ [] }

-- a counter's slot isn't moved by an array that is declared before it
second_counter : with_counter row_facts row_state (codes "d") (pos 9) ≡ record row_state { counters = pos 4 ∷ pos 9 ∷ [] }
second_counter = refl

-- a survivor keeps its arrays and callbacks, and no counter
survives : at_init row_facts role.Survivor row_state ≡ record { counters = pos 0 ∷ pos 0 ∷ []; arrays = (pos 6 ∷ pos 7 ∷ []) ∷ []; callbacks = codes "n" ∷ [] }
survives = refl

-- a recovered rank keeps nothing
recovers : at_init row_facts role.Recovered row_state ≡ record { counters = pos 0 ∷ pos 0 ∷ []; arrays = (pos 0 ∷ pos 0 ∷ []) ∷ []; callbacks = [] }
recovers = refl

-- and an initial one hasn't begun
begins : at_init row_facts role.Initial row_state ≡ blank row_facts
begins = refl

-- a second registration changes nothing, and a first one stands last
registered_twice : with_callback row_state (codes "n") ≡ row_state
registered_twice = refl

registered_last : with_callback row_state (codes "m") ≡ record row_state { callbacks = codes "n" ∷ codes "m" ∷ [] }
registered_last = refl
