-- What keeps the shape of a state.
use Rattle.std.proofs.Common.{◌≡◌, ℕ, zero, suc, ◌+◌, List, [], ◌∷◌, map, length, get_or, replicate, refl, ap, sym, subst, ◌∙◌}
use Rattle.std.specs.Prelude.{ℤ, pos, slice_set, Option, None, Some, Result, Ok, Err, OnOk}
use Rattle.std.specs.FinMap.{FinMap, get}
use Rattle.std.specs.Ordering.{nat_cmp}
use Rattle.fx_base.specs.declared.memory.NoMemory.{NoMemory}
use Rattle.fx_base.specs.declared.names.Role.{Role}
use Rattle.fx_base.specs.declared.names.Role.TheVariants as role
use Rattle.fx_script.specs.declared.job.Decl.{Decl}
use Rattle.fx_script.specs.declared.job.Decl.TheVariants as decl
use Rattle.fx_check.specs.Facts.{Facts}
use Rattle.fx_check.specs.Rules.{count_of}
use Rattle.fx_subset.specs.Elements.{laid_from, put_over, scattered}
use Rattle.fx_walk.specs.State.{State, at_init, restored_from, value_or, with_callback, zero_arrays, zero_counters}
use Rattle.fx_value.specs.Shape.{IsShaped, blank_of, emptied, kept_by, zeroed}

-- a state of these numbers with no callback
abbrev bare : List ℤ → List (List ℤ) → State
bare counters arrays = record { counters = counters; arrays = arrays; callbacks = [] }

-- ---- zeros

pub zeroed_twice : (ns : List ℤ) → zeroed (zeroed ns) ≡ zeroed ns
zeroed_twice [] = refl
zeroed_twice (n ∷ ns) = ap (λ (l : List ℤ). pos 0 ∷ l) (zeroed_twice ns)

pub all_zeroed_twice : (arrays : List (List ℤ)) → map zeroed (map zeroed arrays) ≡ map zeroed arrays
all_zeroed_twice [] = refl
all_zeroed_twice (array ∷ arrays) =
    ap (λ (l : List ℤ). l ∷ map zeroed (map zeroed arrays)) (zeroed_twice array) ∙ ap (λ (l : List (List ℤ)). zeroed array ∷ l) (all_zeroed_twice arrays)

pub zeroed_zeros : (n : ℕ) → zeroed (replicate n (pos 0)) ≡ replicate n (pos 0)
zeroed_zeros zero = refl
zeroed_zeros (suc n) = ap (λ (l : List ℤ). pos 0 ∷ l) (zeroed_zeros n)

-- arrays of one length have the same zeros
pub zeroed_alike : (ns ms : List ℤ) → length ns ≡ length ms → zeroed ns ≡ zeroed ms
zeroed_alike [] [] same = refl
zeroed_alike [] (m ∷ ms) same = absurd cc
zeroed_alike (n ∷ ns) [] same = absurd cc
zeroed_alike (n ∷ ns) (m ∷ ms) same = ap (λ (l : List ℤ). pos 0 ∷ l) (zeroed_alike ns ms cc)

-- ---- a state that has the shape of the declarations has it still

zeros_counters : (names : List Decl) → zeroed (zero_counters names) ≡ zero_counters names
zeros_counters [] = refl
zeros_counters (decl.Counter spot name ∷ names) = ap (λ (l : List ℤ). pos 0 ∷ l) (zeros_counters names)
zeros_counters (decl.Array spot name len ∷ names) = zeros_counters names

zeros_arrays : (names : List Decl) → map zeroed (zero_arrays names) ≡ zero_arrays names
zeros_arrays [] = refl
zeros_arrays (decl.Counter spot name ∷ names) = zeros_arrays names
zeros_arrays (decl.Array spot name len ∷ names) =
    ap (λ (l : List ℤ). l ∷ map zeroed (zero_arrays names)) (zeroed_zeros (count_of len)) ∙ ap (λ (l : List (List ℤ)). replicate (count_of len) (pos 0) ∷ l) (zeros_arrays names)

pub shaped_blank : (names : List Decl) → IsShaped names (blank_of names)
shaped_blank names =
    ap (λ (l : List ℤ). bare l (map zeroed (zero_arrays names))) (zeros_counters names)
    ∙ ap (λ (l : List (List ℤ)). bare (zero_counters names) l) (zeros_arrays names)

zeroed_set : (ns : List ℤ) (slot : ℕ) (value : ℤ) → zeroed (slice_set ns slot value) ≡ zeroed ns
zeroed_set [] slot value = refl
zeroed_set (n ∷ ns) zero value = refl
zeroed_set (n ∷ ns) (suc slot) value = ap (λ (l : List ℤ). pos 0 ∷ l) (zeroed_set ns slot value)

-- numbers that are written keep the zeros
pub emptied_counter : (state : State) (slot : ℕ) (value : ℤ) → emptied (record state { counters = slice_set state.counters slot value }) ≡ emptied state
emptied_counter state slot value = ap (λ (l : List ℤ). bare l (map zeroed state.arrays)) (zeroed_set state.counters slot value)

pub shaped_counter : (names : List Decl) (state : State) (slot : ℕ) (value : ℤ) → IsShaped names state → IsShaped names (record state { counters = slice_set state.counters slot value })
shaped_counter names state slot value shaped = emptied_counter state slot value ∙ shaped

all_zeroed_set : (arrays : List (List ℤ)) (slot : ℕ) (elements : List ℤ) → length elements ≡ length (get_or arrays slot []) → map zeroed (slice_set arrays slot elements) ≡ map zeroed arrays
all_zeroed_set [] slot elements same = refl
all_zeroed_set (array ∷ arrays) zero elements same = ap (λ (l : List ℤ). l ∷ map zeroed arrays) (zeroed_alike elements array same)
all_zeroed_set (array ∷ arrays) (suc slot) elements same = ap (λ (l : List (List ℤ)). zeroed array ∷ l) (all_zeroed_set arrays slot elements same)

pub emptied_array : (state : State) (slot : ℕ) (elements : List ℤ) → length elements ≡ length (get_or state.arrays slot [])
    → emptied (record state { arrays = slice_set state.arrays slot elements }) ≡ emptied state
emptied_array state slot elements same = ap (λ (l : List (List ℤ)). bare (zeroed state.counters) l) (all_zeroed_set state.arrays slot elements same)

pub shaped_array : (names : List Decl) (state : State) (slot : ℕ) (elements : List ℤ) → length elements ≡ length (get_or state.arrays slot []) → IsShaped names state
    → IsShaped names (record state { arrays = slice_set state.arrays slot elements })
shaped_array names state slot elements same shaped = emptied_array state slot elements same ∙ shaped

pub shaped_callback : (names : List Decl) (state : State) (name : List ℕ) → IsShaped names state → IsShaped names (with_callback state name)
shaped_callback names state name shaped = shaped

-- ---- its arrays are as long as they are declared

length-zeroed : (ns : List ℤ) → length (zeroed ns) ≡ length ns
length-zeroed [] = refl
length-zeroed (n ∷ ns) = ap suc (length-zeroed ns)

length-slot : (arrays : List (List ℤ)) (slot : ℕ) → length (get_or (map zeroed arrays) slot []) ≡ length (get_or arrays slot [])
length-slot [] slot = refl
length-slot (array ∷ arrays) zero = length-zeroed array
length-slot (array ∷ arrays) (suc slot) = length-slot arrays slot

pub shaped_length : (names : List Decl) (state : State) (slot : ℕ) → IsShaped names state → length (get_or state.arrays slot []) ≡ length (get_or (zero_arrays names) slot [])
shaped_length names state slot shaped = sym (length-slot state.arrays slot) ∙ ap (λ (s : State). length (get_or s.arrays slot [])) shaped

-- ---- what a role leaves

pub kept_at_init : (f : Facts) (r : Role) (state : State) → IsShaped f.names state → kept_by r state ≡ at_init f r state
kept_at_init f role.Survivor state shaped = ap (λ (s : State). record state { counters = s.counters }) shaped
kept_at_init f role.Initial state shaped = shaped
kept_at_init f role.Recovered state shaped = shaped

shaped_kept : (names : List Decl) (r : Role) (state : State) → IsShaped names state → IsShaped names (kept_by r state)
shaped_kept names role.Survivor state shaped =
    ap (λ (l : List ℤ). bare l (map zeroed state.arrays)) (zeroed_twice state.counters) ∙ shaped
shaped_kept names role.Initial state shaped =
    ap (λ (l : List ℤ). bare l (map zeroed (map zeroed state.arrays))) (zeroed_twice state.counters)
    ∙ ap (λ (l : List (List ℤ)). bare (zeroed state.counters) l) (all_zeroed_twice state.arrays) ∙ shaped
shaped_kept names role.Recovered state shaped =
    ap (λ (l : List ℤ). bare l (map zeroed (map zeroed state.arrays))) (zeroed_twice state.counters)
    ∙ ap (λ (l : List (List ℤ)). bare (zeroed state.counters) l) (all_zeroed_twice state.arrays) ∙ shaped

pub shaped_init : (f : Facts) (r : Role) (state : State) → IsShaped f.names state → IsShaped f.names (at_init f r state)
shaped_init f r state shaped = let P : State → Type 0 = λ s. IsShaped f.names s in subst P (kept_at_init f r state shaped) (shaped_kept f.names r state shaped)

-- ---- elements that are restored

over_or : (old : ℤ) (found : Option ℤ) → put_over old found ≡ value_or old found
over_or old None = refl
over_or old (Some element) = refl

restored_from-laid : (i : ℕ) (entries : FinMap nat_cmp ℤ) (olds : List ℤ) → laid_from (get entries) i olds ≡ restored_from i entries olds
restored_from-laid i entries [] = refl
restored_from-laid i entries (old ∷ olds) =
    ap (λ (n : ℤ). n ∷ laid_from (get entries) (i + 1) olds) (over_or old (get entries i)) ∙ ap (λ (l : List ℤ). value_or old (get entries i) ∷ l) (restored_from-laid (i + 1) entries olds)

-- what a map puts over an array is what a restore writes
pub scattered-restored : (entries : FinMap nat_cmp ℤ) (olds : List ℤ) → scattered entries olds ≡ restored_from 0 entries olds
scattered-restored entries olds = restored_from-laid 0 entries olds

-- ---- parts of states

abbrev pub with_arrays : State → List (List ℤ) → State
with_arrays state arrays = record state { arrays = arrays }

pub on_ok : {P Q : Type 0} (r : Result (Unit {0}) NoMemory) → (P → Q) → OnOk r P → OnOk r Q
on_ok (Ok u) gives fact = gives fact
on_ok (Err e) gives fact = tt
