-- Barriers, reductions and shifts: each place gives a part to each other, and all is done once all parts are there.
use Rattle.std.specs.Prelude.{ℕ, ◌+◌, ◌-◌, ◌%◌, ℤ, pos, Bool, ◌&&◌, if◌then◌else◌, ◌==◌, List, [], ◌∷◌, length, get_or, Option, Some, None, is_some, is_none, option_map, unwrap_or}
use Rattle.fx_base.specs.declared.names.Op.{Op}
use Rattle.std.specs.Option.{option_or}
use Rattle.fx_item.specs.declared.item.Item.TheVariants as item
use Rattle.fx_store.specs.Redundancy.{each_below}
use Rattle.fx_walk.specs.declared.wanted.Wanted.{Wanted}
use Rattle.fx_walk.specs.declared.wanted.Wanted.TheVariants as wanted
use Rattle.fx_walk.specs.Values.{reduced}
use Rattle.fx_walk.specs.Walk.{Walk, Reply, Nothing, Number, Elements}
use Rattle.fx_machine.specs.Nodes.{Node, Act, size, proc_at, my_place, goes_on, writing}
use Rattle.fx_machine.specs.Numbers.{proc, epoch_no, call_no, first_below, of_each_below}
use Rattle.fx_machine.specs.Reading.{first_read, only, part_in, has_left}
use Rattle.fx_machine.specs.Waits.{Error, ByLoss, ByLeaving, returns_error}

-- the place to which place x gives its elements in a shift among n places, and the one whose elements it takes
abbrev pub target_of : (n by x : ℕ) → ℕ
target_of n by x = (x + by) % n

abbrev pub source_of : (n by x : ℕ) → ℕ
source_of n by x = (x + (n - by % n)) % n

-- what one has for the call oneself: nothing in a barrier
abbrev pub own_part : Wanted → List ℤ
own_part (wanted.Reduce op n) = n ∷ []
own_part (wanted.Shift by elements) = elements
own_part other = []

-- how many numbers are due from place y to place x among n places: none in a barrier
abbrev pub due_from : Wanted → (n x y : ℕ) → ℕ
due_from (wanted.Reduce op own) n x y = 1
due_from (wanted.Shift by elements) n x y = if y == source_of n by x then length elements else 0
due_from other n x y = 0

-- the part of a place: one's own, or the first that was heard of the length that is due
abbrev pub part_of : Node → Wanted → ℕ → Option (List ℤ)
part_of n w x =
    if x == my_place n then Some (own_part w)
    else first_read (λ t. only (λ values. length values == due_from w (size n) (my_place n) x) (part_in n.epoch n.calls t)) (n.texts (proc_at n x))

-- the numbers of a place whose part is there
abbrev pub numbers_of : Node → Wanted → ℕ → List ℤ
numbers_of n w x = unwrap_or (part_of n w x) []

-- the reduction of the numbers of all places
abbrev pub total : Op → Node → Wanted → ℤ
total op n w = reduced op (of_each_below (size n) (λ x. get_or (numbers_of n w x) 0 (pos 0)))

-- a barrier passes
abbrev pub passes : Node → (Reply → Walk) → Act
passes n rest = writing (item.Passed (proc n.me) (epoch_no n.epoch) (call_no n.calls) ∷ []) (goes_on rest Nothing n)

-- a number is returned
abbrev pub returns_number : Node → (Reply → Walk) → ℤ → Act
returns_number n rest value = writing (item.Value (proc n.me) (epoch_no n.epoch) (call_no n.calls) value ∷ []) (goes_on rest (Number value) n)

-- elements are returned
abbrev pub returns_elements : Node → (Reply → Walk) → List ℤ → Act
returns_elements n rest elements = writing (item.Shifted (proc n.me) (epoch_no n.epoch) (call_no n.calls) elements ∷ []) (goes_on rest (Elements elements) n)

-- what is done once all parts are there
abbrev pub gathered : Node → Wanted → (Reply → Walk) → Option Act
gathered n wanted.Barrier rest = Some (passes n rest)
gathered n (wanted.Reduce op own) rest = Some (returns_number n rest (total op n (wanted.Reduce op own)))
gathered n (wanted.Shift by elements) rest = Some (returns_elements n rest (numbers_of n (wanted.Shift by elements) (source_of (size n) by (my_place n))))
gathered n other rest = None

-- the part of each place is there
abbrev pub are_gathered : Node → Wanted → Bool
are_gathered n w = each_below (size n) (λ x. is_some (part_of n w x))

-- the process of the least place that passes the test and whose part isn't there
abbrev pub missing : Node → Wanted → (ℕ → Bool) → Option ℕ
missing n w test = option_map (proc_at n) (first_below (size n) (λ x. is_none (part_of n w x) && test (proc_at n x)))

-- a missing one that is lost, else one that left
abbrev pub gathering_error : Node → Wanted → Option Error
gathering_error n w = option_or (option_map ByLoss (missing n w n.lost)) (option_map ByLeaving (missing n w (has_left n)))

-- the action while parts are awaited
abbrev pub in_gathering : Node → Wanted → (Reply → Walk) → Option Act
in_gathering n w rest = if are_gathered n w then gathered n w rest else option_map (returns_error n) (gathering_error n w)
