-- The work of statements bounds the actions of their walk, and plain statements ask nothing.
use Rattle.std.proofs.Common.{◌≡◌, ◌≤◌, ℕ, zero, suc, ◌+◌, ◌*◌, Bool, true, false, ◌&&◌, List, [], ◌∷◌, map, sum, Some, None, refl, sym, subst, arith}
use Rattle.std.specs.Prelude.{ℤ, pos, negsuc, get_or, if◌then◌else◌}
use Rattle.std.proofs.lemmas.List.Sums.{sum_by-cons}
use Rattle.fx_base.specs.declared.spot.Spot.{Spot}
use Rattle.fx_script.specs.declared.job.Stmt.{Stmt}
use Rattle.fx_script.specs.declared.job.Stmt.TheOpen.{Stmt-F}
use Rattle.fx_script.specs.declared.job.Stmt.TheViews.{roll-Stmt}
use Rattle.fx_script.specs.declared.job.Stmt.TheFolds.{fold-roll-Stmt, map-Stmt, ind-Stmt}
use Rattle.fx_check.specs.Facts.{Facts}
use Rattle.fx_check.specs.Rules.{count_of}
use Rattle.fx_check.specs.Work.{work_level, work_of_stmt, work_of, other_work}
use Rattle.fx_walk.specs.declared.action.View.{View}
use Rattle.fx_walk.specs.declared.printed.Printed.{Printed}
use Rattle.fx_walk.specs.declared.wanted.Wanted.{Wanted}
use Rattle.fx_walk.specs.declared.wanted.Wanted.TheVariants as wanted
use Rattle.fx_walk.specs.State.{State, elements_of, with_counter}
use Rattle.fx_walk.specs.Lengths.{IsWithin}
use Rattle.fx_walk.specs.Values.{sight, value_of, holds, reduced}
use Rattle.fx_walk.specs.Walk.{TextPlace, Given, Reply, Walk, Ends, Passes, Prints, Asks, Onward, Meaning, is_same_role, in_turn, looped, printed_of, turns_of, member_array, stored, group_id, member_id, stamp_at, sets_counter, sets_elements, sets_entries, unchanged, view_after, asks, walk_level, walk, walks, walk_of, ended}

-- ---- how long

more : (w : Walk) (n m : ℕ) → n ≤ m → IsWithin w n → IsWithin w m
more (Ends state) n m few is = is
more (Passes rest) zero m few is = absurd is
more (Passes rest) (suc n) zero few is = absurd (omega arith)
more (Passes rest) (suc n) (suc m) few is = more rest n m (omega arith) is
more (Prints printed rest) zero m few is = absurd is
more (Prints printed rest) (suc n) zero few is = absurd (omega arith)
more (Prints printed rest) (suc n) (suc m) few is = more rest n m (omega arith) is
more (Asks place wanted state rest) zero m few is = absurd is
more (Asks place wanted state rest) (suc n) zero few is = absurd (omega arith)
more (Asks place wanted state rest) (suc n) (suc m) few is = λ reply. more (rest reply) n m (omega arith) (is reply)

passes : (rest : Walk) (n m : ℕ) → 1 + n ≤ m → IsWithin rest n → IsWithin (Passes rest) m
passes rest n zero few is = absurd (omega arith)
passes rest n (suc m) few is = more rest n m (omega arith) is

prints : (printed : Printed) (rest : Walk) (n m : ℕ) → 1 + n ≤ m → IsWithin rest n → IsWithin (Prints printed rest) m
prints printed rest n zero few is = absurd (omega arith)
prints printed rest n (suc m) few is = more rest n m (omega arith) is

abbrev Within : Onward → ℕ → Type 0
Within k n = (view : View) (state : State) → IsWithin (k view state) n

asked : (spot : Spot) (wanted : Wanted) (made : Given → State) (inside : Bool) (k : Onward) (n m : ℕ) → 1 + n ≤ m → Within k n → (view : View) (state : State) → IsWithin (asks spot wanted made inside k view state) m
asked spot wanted made inside k n zero few is view state = absurd (omega arith)
asked spot wanted made inside k n (suc m) few is view state = λ reply. more (k (view_after view reply) (made reply.given)) n m (omega arith) (is (view_after view reply) (made reply.given))

abbrev HasWork : Facts → Stmt → Type 0
HasWork f s = (n m : ℕ) (k : Onward) → work_of_stmt s + n ≤ m → Within k n → (inside : Bool) → Within (walk f s inside k) m

work_rolled : (f : Facts) (x : Stmt-F Stmt)
    → ((n m : ℕ) (k : Onward) → work_level (map-Stmt Stmt ℕ work_of_stmt x) + n ≤ m → Within k n → (inside : Bool) → Within (walk_level f (map-Stmt Stmt Meaning (walk f) x) inside k) m)
    → HasWork f (roll-Stmt x)
work_rolled f x level n m k few is inside =
    subst (λ (t : Meaning). Within (t inside k) m) (sym (fold-roll-Stmt Meaning (walk_level f) x))
    (level n m k (subst (λ (w : ℕ). w + n ≤ m) (fold-roll-Stmt ℕ work_level x) few) is inside)

work_list : (f : Facts) (ts : List ((s : Stmt) × HasWork f s)) (n m : ℕ) (k : Onward) → sum (map work_of_stmt (map (λ t. t.0) ts)) + n ≤ m → Within k n
    → (inside : Bool) → Within (in_turn (map (walk f) (map (λ t. t.0) ts)) inside k) m
work_list f [] n m k few is inside view state = more (k view state) n m (omega arith) (is view state)
work_list f (t ∷ ts) n m k few is inside view state =
    let rest : ℕ = sum (map work_of_stmt (map (λ (t : (s : Stmt) × HasWork f s). t.0) ts)) in
    let split = sum_by-cons (λ (w : ℕ). w) (work_of_stmt t.0) (map work_of_stmt (map (λ (t : (s : Stmt) × HasWork f s). t.0) ts)) in
    let all : work_of_stmt t.0 + (rest + n) ≤ m = omega (arith, split) in
    t.1 (rest + n) m (in_turn (map (walk f) (map (λ (t : (s : Stmt) × HasWork f s). t.0) ts)) inside k) all (work_list f ts n (rest + n) k (omega arith) is inside) inside view state

either : (t : Bool) (x y : Walk) (m : ℕ) → IsWithin x m → IsWithin y m → IsWithin (if t then x else y) m
either true x y m one other = one
either false x y m one other = other

few_turns : (first last : ℤ) → turns_of first last ≤ count_of last + 1
few_turns first (pos last) = omega arith
few_turns first (negsuc last) = omega arith

turns_work : (f : Facts) (counter : List ℕ) (body : Meaning) (work : ℕ) → ((n m : ℕ) (k : Onward) → work + n ≤ m → Within k n → (inside : Bool) → Within (body inside k) m)
    → (turns value n m : ℕ) (k : Onward) → 1 + (turns * (1 + work) + n) ≤ m → Within k n → (inside : Bool) → Within (looped f counter body turns value inside k) m
turns_work f counter body work inner zero value n m k few is inside view state = passes (k view state) n m (omega arith) (is view state)
turns_work f counter body work inner (suc turns) value n m k few is inside view state =
    let left : ℕ = 1 + (turns * (1 + work) + n) in
    let each : 1 + (work + left) ≤ m = turn turns work n m few in
    passes _ (work + left) m each
    (inner left (work + left) (looped f counter body turns (value + 1) inside k) (omega arith) (turns_work f counter body work inner turns (value + 1) n left k (omega arith) is inside) inside view (with_counter f state counter (pos value)))
  where
    turn : (turns work n m : ℕ) → 1 + (suc turns * (1 + work) + n) ≤ m → 1 + (work + (1 + (turns * (1 + work) + n))) ≤ m
    turn turns work n m few = grind arith

less_times : (a b c : ℕ) → a ≤ b → a * c ≤ b * c
less_times a b zero few = omega arith
less_times a b (suc c) few =
    let ih = less_times a b c few in
    let one : a * suc c ≡ a * c + a = grind arith in
    let other : b * suc c ≡ b * c + b = grind arith in
    omega (arith, one, other, ih)

enough : (turns last body n m : ℕ) → turns ≤ last + 1 → (1 + (last + 1) * (1 + body)) + n ≤ m → 1 + (turns * (1 + body) + n) ≤ m
enough turns last body n m few all = let times = less_times turns (last + 1) (1 + body) few in omega (arith, times)

work_level_is : (f : Facts) (y : Stmt-F ((s : Stmt) × HasWork f s)) → HasWork f (roll-Stmt (map-Stmt ((s : Stmt) × HasWork f s) Stmt (λ t. t.0) y))
work_level_is f (Stmt-F.Let spot array value) = work_rolled f (Stmt-F.Let spot array value) (λ n m k few is inside view state. passes _ n m few (is view _))
work_level_is f (Stmt-F.Set spot counter value) = work_rolled f (Stmt-F.Set spot counter value) (λ n m k few is inside view state. passes _ n m few (is view _))
work_level_is f (Stmt-F.Print spot name) = work_rolled f (Stmt-F.Print spot name) (λ n m k few is inside view state. prints (printed_of f state name) (k view state) n m few (is view state))
work_level_is f (Stmt-F.Register spot name) = work_rolled f (Stmt-F.Register spot name) (λ n m k few is inside view state. passes _ n m few (is view _))
work_level_is f (Stmt-F.RoleOnly spot role ts) = work_rolled f (Stmt-F.RoleOnly spot role (map (λ t. t.0) ts))
    (λ n m k few is inside view state.
    let body : ℕ = sum (map work_of_stmt (map (λ (t : (s : Stmt) × HasWork f s). t.0) ts)) in
    passes _ (body + n) m (omega arith)
    (either (is_same_role role view.role) _ (k view state) (body + n) (work_list f ts n (body + n) k (omega arith) is true view state) (more (k view state) n (body + n) (omega arith) (is view state))))
work_level_is f (Stmt-F.Branch spot test left right ts None) = work_rolled f (Stmt-F.Branch spot test left right (map (λ t. t.0) ts) None)
    (λ n m k few is inside view state.
    let body : ℕ = sum (map work_of_stmt (map (λ (t : (s : Stmt) × HasWork f s). t.0) ts)) in
    passes _ (body + n) m (omega arith)
    (either (holds test (value_of f left (sight view state)) (value_of f right (sight view state))) _ (k view state) (body + n) (work_list f ts n (body + n) k (omega arith) is inside view state) (more (k view state) n (body + n) (omega arith) (is view state))))
work_level_is f (Stmt-F.Branch spot test left right ts (Some us)) = work_rolled f (Stmt-F.Branch spot test left right (map (λ t. t.0) ts) (Some (map (λ t. t.0) us)))
    (λ n m k few is inside view state.
    let one : ℕ = sum (map work_of_stmt (map (λ (t : (s : Stmt) × HasWork f s). t.0) ts)) in
    let other : ℕ = sum (map work_of_stmt (map (λ (t : (s : Stmt) × HasWork f s). t.0) us)) in
    passes _ (one + (other + n)) m (omega arith)
    (either (holds test (value_of f left (sight view state)) (value_of f right (sight view state))) _ _ (one + (other + n))
    (work_list f ts n (one + (other + n)) k (omega arith) is inside view state) (work_list f us n (one + (other + n)) k (omega arith) is inside view state)))
work_level_is f (Stmt-F.Loop spot counter first last ts) = work_rolled f (Stmt-F.Loop spot counter first last (map (λ t. t.0) ts))
    (λ n m k few is inside view state.
    let body : ℕ = sum (map work_of_stmt (map (λ (t : (s : Stmt) × HasWork f s). t.0) ts)) in
    let from = value_of f first (sight view state) in
    turns_work f counter (in_turn (map (walk f) (map (λ (t : (s : Stmt) × HasWork f s). t.0) ts))) body (λ n m k few is inside. work_list f ts n m k few is inside) (turns_of from last) (count_of from) n m k (enough (turns_of from last) (count_of last) body n m (few_turns from last) few) is inside view state)
work_level_is f (Stmt-F.Barrier spot) = work_rolled f (Stmt-F.Barrier spot)
    (λ n m k few is inside view state. asked spot wanted.Barrier (unchanged state) inside k n m few is view state)
work_level_is f (Stmt-F.Reduce spot o counter array) = work_rolled f (Stmt-F.Reduce spot o counter array)
    (λ n m k few is inside view state. asked spot (wanted.Reduce o (reduced o (elements_of f state array))) (sets_counter f counter state) inside k n m few is view state)
work_level_is f (Stmt-F.Agree spot counter array index) = work_rolled f (Stmt-F.Agree spot counter array index)
    (λ n m k few is inside view state. asked spot (wanted.Agree (get_or (elements_of f state array) (count_of index) (pos 0))) (sets_counter f counter state) inside k n m few is view state)
work_level_is f (Stmt-F.Shift spot source target by) = work_rolled f (Stmt-F.Shift spot source target by)
    (λ n m k few is inside view state. asked spot (wanted.Shift (count_of by) (elements_of f state source)) (sets_elements f target state) inside k n m few is view state)
work_level_is f (Stmt-F.Group spot group start depth) = work_rolled f (Stmt-F.Group spot group start depth)
    (λ n m k few is inside view state. asked spot (wanted.Group (group_id group) (stamp_at start) (count_of depth)) (unchanged state) inside k n m few is view state)
work_level_is f (Stmt-F.Member spot group member array) = work_rolled f (Stmt-F.Member spot group member array)
    (λ n m k few is inside view state. asked spot (wanted.Attach (group_id group) (member_id member)) (unchanged state) inside k n m few is view state)
work_level_is f (Stmt-F.Store spot group member subset) = work_rolled f (Stmt-F.Store spot group member subset)
    (λ n m k few is inside view state. asked spot (wanted.Store (group_id group) (member_id member) (stored subset (elements_of f state (member_array f group member)))) (unchanged state) inside k n m few is view state)
work_level_is f (Stmt-F.Commit spot group) = work_rolled f (Stmt-F.Commit spot group)
    (λ n m k few is inside view state. asked spot (wanted.Commit (group_id group)) (unchanged state) inside k n m few is view state)
work_level_is f (Stmt-F.CommitBarrier spot group) = work_rolled f (Stmt-F.CommitBarrier spot group)
    (λ n m k few is inside view state. asked spot (wanted.Close (group_id group)) (unchanged state) inside k n m few is view state)
work_level_is f (Stmt-F.Restore spot group member stamp) = work_rolled f (Stmt-F.Restore spot group member stamp)
    (λ n m k few is inside view state. asked spot (wanted.Restore (group_id group) (member_id member) (stamp_at (value_of f stamp (sight view state)))) (sets_entries f (member_array f group member) state) inside k n m few is view state)
work_level_is f (Stmt-F.Drop spot group stamp) = work_rolled f (Stmt-F.Drop spot group stamp)
    (λ n m k few is inside view state. asked spot (wanted.Delete (group_id group) (stamp_at (value_of f stamp (sight view state)))) (unchanged state) inside k n m few is view state)

all_have_work : (f : Facts) (s : Stmt) → HasWork f s
all_have_work f = ind-Stmt (HasWork f) (λ x y is. subst (λ x. HasWork f (roll-Stmt x)) is (work_level_is f y))

lists_have_work : (f : Facts) (ss : List Stmt) (n m : ℕ) (k : Onward) → work_of ss + n ≤ m → Within k n → (inside : Bool) → Within (walks f ss inside k) m
lists_have_work f [] n m k few is inside view state = more (k view state) n m (omega arith) (is view state)
lists_have_work f (s ∷ ss) n m k few is inside view state =
    let split = sum_by-cons (λ (w : ℕ). w) (work_of_stmt s) (map work_of_stmt ss) in
    let all : work_of_stmt s + (work_of ss + n) ≤ m = omega (arith, split) in
    all_have_work f s (work_of ss + n) m (walks f ss inside k) all (lists_have_work f ss n (work_of ss + n) k (omega arith) is inside) inside view state

pub is_within_its_work : (f : Facts) (ss : List Stmt) (view : View) (state : State) → IsWithin (walk_of f ss view state) (work_of ss)
is_within_its_work f ss view state = lists_have_work f ss 0 (work_of ss) ended (omega arith) (λ view state. tt) false view state
