-- The walk of a body that keeps the rules keeps the shape of the state.
use Rattle.std.proofs.Common.{◌≡◌, ℕ, zero, suc, ◌+◌, Bool, true, false, List, [], ◌∷◌, ◌++◌, map, length, get_or, replicate, Option, Some, None, refl, ap, sym, subst, ◌∙◌}
use Rattle.std.specs.Prelude.{ℤ, pos, if◌then◌else◌, is_some}
use Rattle.std.specs.FinMap.{FinMap}
use Rattle.std.specs.List.{AllByRecursion}
use Rattle.std.specs.Ordering.{nat_cmp}
use Rattle.std.specs.Str.{bytes_eq}
use Rattle.std.proofs.lemmas.Bool.{and_parts}
use Rattle.std.proofs.lemmas.Bool.Decides.{Decides-int_eq}
use Rattle.std.proofs.lemmas.List.{length-replicate}
use Rattle.fx_script.specs.declared.expr.Expr.{Expr}
use Rattle.fx_script.specs.declared.job.Decl.{Decl}
use Rattle.fx_script.specs.declared.job.Decl.TheVariants as decl
use Rattle.fx_script.specs.declared.job.Stmt.{Stmt}
use Rattle.fx_script.specs.declared.job.Stmt.TheOpen.{Stmt-F}
use Rattle.fx_script.specs.declared.job.Stmt.TheViews.{roll-Stmt}
use Rattle.fx_script.specs.declared.job.Stmt.TheFolds.{fold-roll-Stmt, map-Stmt, ind-Stmt}
use Rattle.fx_check.specs.declared.surroundings.Surroundings.{Surroundings}
use Rattle.fx_check.specs.Acceptance.{Line, lines_at, stmt_lines_level, stmt_lines, stmts_lines}
use Rattle.fx_check.specs.Facts.{Facts, array_in, is_array}
use Rattle.fx_check.specs.Parts.{KeepsRules, KeepRules}
use Rattle.fx_check.specs.Rules.{are_of_one_length, body_place, count_of, inside_when, inside_if, inside_for, is_between}
use Rattle.fx_walk.specs.declared.action.View.{View}
use Rattle.fx_walk.specs.declared.wanted.Wanted.TheVariants as wanted
use Rattle.fx_walk.specs.State.{State, array_slot, elements_of, restored_from, with_counter, zero_arrays}
use Rattle.fx_walk.specs.Values.{Sight, sight, value_of, values_from, holds}
use Rattle.fx_walk.specs.Walk.{Given, Nothing, Number, Elements, Entries, Walk, Onward, Meaning, in_turn, looped, turns_of, is_same_role, member_array, sets_counter, sets_elements, sets_entries, view_after, walk_level, walk, walks, walk_of, ended}
use Rattle.fx_value.specs.Shape.{Fits, IsShaped, StaysShaped}
use Rattle.fx_value.proofs.Shapes.{shaped_array, shaped_callback, shaped_counter, shaped_length}

-- ---- lines

all_front : (P : Line → Type 0) (a b : List Line) → AllByRecursion P (a ++ b) → AllByRecursion P a
all_front P [] b all = tt
all_front P (l ∷ a) b all = (all.0, all_front P a b all.1)

all_behind : (P : Line → Type 0) (a b : List Line) → AllByRecursion P (a ++ b) → AllByRecursion P b
all_behind P [] b all = all
all_behind P (l ∷ a) b all = all_behind P a b all.1

-- ---- lengths

length_by : (names : List Decl) (name : List ℕ) (own len : ℤ) (b : Bool)
    → (array_in names name ≡ Some len → length (get_or (zero_arrays names) (array_slot names name) []) ≡ count_of len)
    → (if b then Some own else array_in names name) ≡ Some len
    → length (get_or (replicate (count_of own) (pos 0) ∷ zero_arrays names) (if b then 0 else suc (array_slot names name)) []) ≡ count_of len
length_by names name own len true later is = let same : own ≡ len = cc in length-replicate (count_of own) (pos 0) ∙ ap count_of same
length_by names name own len false later is = later is

-- an array of zeros has the declared length
declared_length : (names : List Decl) (name : List ℕ) (len : ℤ) → array_in names name ≡ Some len → length (get_or (zero_arrays names) (array_slot names name) []) ≡ count_of len
declared_length [] name len is = absurd cc
declared_length (decl.Array spot own of ∷ names) name len is = length_by names name of len (bytes_eq own name) (declared_length names name len) is
declared_length (decl.Counter spot own ∷ names) name len is = declared_length names name len is

-- two that are declared with one length are as long as each other
same_declared : (names : List Decl) (one other : List ℕ) → is_array names one ≡ true → is_array names other ≡ true → are_of_one_length (array_in names one) (array_in names other) ≡ true
    → length (get_or (zero_arrays names) (array_slot names one) []) ≡ length (get_or (zero_arrays names) (array_slot names other) [])
same_declared names one other is_one is_other same = by_lengths (array_in names one) refl (array_in names other) refl is_one is_other same where
  by_lengths : (a : Option ℤ) → array_in names one ≡ a → (b : Option ℤ) → array_in names other ≡ b → is_some a ≡ true → is_some b ≡ true → are_of_one_length a b ≡ true
      → length (get_or (zero_arrays names) (array_slot names one) []) ≡ length (get_or (zero_arrays names) (array_slot names other) [])
  by_lengths None ea b eb is_a is_b same = absurd cc
  by_lengths (Some a) ea None eb is_a is_b same = absurd cc
  by_lengths (Some a) ea (Some b) eb is_a is_b same =
      declared_length names one a ea ∙ ap count_of ((Decides-int_eq a b).0 same) ∙ sym (declared_length names other b eb)

-- in a state of the declared shape they are too
same_elements : (f : Facts) (state : State) (one other : List ℕ) → IsShaped f.names state → is_array f.names one ≡ true → is_array f.names other ≡ true
    → are_of_one_length (array_in f.names one) (array_in f.names other) ≡ true → length (elements_of f state one) ≡ length (elements_of f state other)
same_elements f state one other shaped is_one is_other same =
    shaped_length f.names state (array_slot f.names one) shaped ∙ same_declared f.names one other is_one is_other same ∙ sym (shaped_length f.names state (array_slot f.names other) shaped)

pub length_values : (f : Facts) (value : Expr) (x : Sight) (i : ℕ) (olds : List ℤ) → length (values_from f value x i olds) ≡ length olds
length_values f value x i [] = refl
length_values f value x i (old ∷ olds) = ap suc (length_values f value x (i + 1) olds)

pub length_restored : (i : ℕ) (entries : FinMap nat_cmp ℤ) (olds : List ℤ) → length (restored_from i entries olds) ≡ length olds
length_restored i entries [] = refl
length_restored i entries (old ∷ olds) = ap suc (length_restored (i + 1) entries olds)

-- ---- what is given

number_kept : (f : Facts) (counter : List ℕ) (state : State) (given : Given) → IsShaped f.names state → IsShaped f.names (sets_counter f counter state given)
number_kept f counter state (Number n) shaped = shaped_counter f.names state _ n shaped
number_kept f counter state Nothing shaped = shaped
number_kept f counter state (Elements elements) shaped = shaped
number_kept f counter state (Entries entries) shaped = shaped

entries_kept : (f : Facts) (array : List ℕ) (state : State) (given : Given) → IsShaped f.names state → IsShaped f.names (sets_entries f array state given)
entries_kept f array state (Entries entries) shaped = shaped_array f.names state (array_slot f.names array) _ (length_restored 0 entries (elements_of f state array)) shaped
entries_kept f array state Nothing shaped = shaped
entries_kept f array state (Number n) shaped = shaped
entries_kept f array state (Elements elements) shaped = shaped

elements_kept : (f : Facts) (by : ℕ) (own : List ℤ) (array : List ℕ) (state : State) (given : Given) → length own ≡ length (elements_of f state array)
    → Fits (wanted.Shift by own) given → IsShaped f.names state → IsShaped f.names (sets_elements f array state given)
elements_kept f by own array state (Elements elements) same fits shaped = shaped_array f.names state (array_slot f.names array) elements (fits ∙ same) shaped
elements_kept f by own array state Nothing same fits shaped = shaped
elements_kept f by own array state (Number n) same fits shaped = shaped
elements_kept f by own array state (Entries entries) same fits shaped = shaped

-- ---- statements

abbrev Shaped : Facts → Onward → Type 0
Shaped f k = (view : View) (state : State) → IsShaped f.names state → StaysShaped f.names (k view state)

abbrev IsKeeping : Facts → Stmt → Type 0
IsKeeping f s = (p : Surroundings) → KeepRules (stmt_lines f s p) → (k : Onward) → Shaped f k → (inside : Bool) → Shaped f (walk f s inside k)

keeping_rolled : (f : Facts) (x : Stmt-F Stmt)
    → ((p : Surroundings) → KeepRules (stmt_lines_level f (map-Stmt Stmt (Surroundings → List Line) (stmt_lines f) x) p) → (k : Onward) → Shaped f k
    → (inside : Bool) → Shaped f (walk_level f (map-Stmt Stmt Meaning (walk f) x) inside k))
    → IsKeeping f (roll-Stmt x)
keeping_rolled f x level p keep k shaped inside =
    subst (λ (t : Meaning). Shaped f (t inside k)) (sym (fold-roll-Stmt Meaning (walk_level f) x))
    (level p (subst (λ (l : Surroundings → List Line). KeepRules (l p)) (fold-roll-Stmt (Surroundings → List Line) (stmt_lines_level f) x) keep) k shaped inside)

keeping_list : (f : Facts) (ts : List ((s : Stmt) × IsKeeping f s)) (p : Surroundings) → KeepRules (lines_at (map (stmt_lines f) (map (λ t. t.0) ts)) p)
    → (k : Onward) → Shaped f k → (inside : Bool) → Shaped f (in_turn (map (walk f) (map (λ t. t.0) ts)) inside k)
keeping_list f [] p keep k shaped inside = shaped
keeping_list f (t ∷ ts) p keep k shaped inside =
    let later = lines_at (map (stmt_lines f) (map (λ (t : (s : Stmt) × IsKeeping f s). t.0) ts)) p in
    t.1 p (all_front KeepsRules (stmt_lines f t.0 p) later keep) (in_turn (map (walk f) (map (λ (t : (s : Stmt) × IsKeeping f s). t.0) ts)) inside k)
    (keeping_list f ts p (all_behind KeepsRules (stmt_lines f t.0 p) later keep) k shaped inside) inside

either : (names : List Decl) (b : Bool) (x y : Walk) → StaysShaped names x → StaysShaped names y → StaysShaped names (if b then x else y)
either names true x y one other = one
either names false x y one other = other

keeping_turns : (f : Facts) (counter : List ℕ) (body : Meaning) → ((k : Onward) → Shaped f k → (inside : Bool) → Shaped f (body inside k))
    → (turns value : ℕ) (k : Onward) → Shaped f k → (inside : Bool) → Shaped f (looped f counter body turns value inside k)
keeping_turns f counter body inner zero value k shaped inside view state is = shaped view state is
keeping_turns f counter body inner (suc turns) value k shaped inside view state is =
    inner (looped f counter body turns (value + 1) inside k) (keeping_turns f counter body inner turns (value + 1) k shaped inside) inside view (with_counter f state counter (pos value))
    (shaped_counter f.names state _ (pos value) is)

keeping_level : (f : Facts) (y : Stmt-F ((s : Stmt) × IsKeeping f s)) → IsKeeping f (roll-Stmt (map-Stmt ((s : Stmt) × IsKeeping f s) Stmt (λ t. t.0) y))
keeping_level f (Stmt-F.Let spot array value) = keeping_rolled f (Stmt-F.Let spot array value)
    (λ p keep k shaped inside view state is. shaped view _ (shaped_array f.names state (array_slot f.names array) _ (length_values f value (sight view state) 0 (elements_of f state array)) is))
keeping_level f (Stmt-F.Set spot counter value) = keeping_rolled f (Stmt-F.Set spot counter value) (λ p keep k shaped inside view state is. shaped view _ (shaped_counter f.names state _ _ is))
keeping_level f (Stmt-F.Print spot name) = keeping_rolled f (Stmt-F.Print spot name) (λ p keep k shaped inside view state is. shaped view state is)
keeping_level f (Stmt-F.Register spot name) = keeping_rolled f (Stmt-F.Register spot name) (λ p keep k shaped inside view state is. shaped view _ (shaped_callback f.names state name is))
keeping_level f (Stmt-F.RoleOnly spot role ts) = keeping_rolled f (Stmt-F.RoleOnly spot role (map (λ t. t.0) ts))
    (λ p keep k shaped inside view state is.
    either f.names (is_same_role role view.role) _ (k view state) (keeping_list f ts (inside_when p) keep.1 k shaped true view state is) (shaped view state is))
keeping_level f (Stmt-F.Branch spot test left right ts None) = keeping_rolled f (Stmt-F.Branch spot test left right (map (λ t. t.0) ts) None)
    (λ p keep k shaped inside view state is.
    either f.names (holds test (value_of f left (sight view state)) (value_of f right (sight view state))) _ (k view state)
    (keeping_list f ts (inside_if p) (all_front KeepsRules _ [] keep.1) k shaped inside view state is) (shaped view state is))
keeping_level f (Stmt-F.Branch spot test left right ts (Some us)) = keeping_rolled f (Stmt-F.Branch spot test left right (map (λ t. t.0) ts) (Some (map (λ t. t.0) us)))
    (λ p keep k shaped inside view state is.
    either f.names (holds test (value_of f left (sight view state)) (value_of f right (sight view state))) _ _
    (keeping_list f ts (inside_if p) (all_front KeepsRules _ _ keep.1) k shaped inside view state is) (keeping_list f us (inside_if p) (all_behind KeepsRules _ _ keep.1) k shaped inside view state is))
keeping_level f (Stmt-F.Loop spot counter first last ts) = keeping_rolled f (Stmt-F.Loop spot counter first last (map (λ t. t.0) ts))
    (λ p keep k shaped inside view state is.
    keeping_turns f counter (in_turn (map (walk f) (map (λ (t : (s : Stmt) × IsKeeping f s). t.0) ts))) (λ k shaped inside. keeping_list f ts (inside_for p) keep.1 k shaped inside)
    (turns_of (value_of f first (sight view state)) last) (count_of (value_of f first (sight view state))) k shaped inside view state is)
keeping_level f (Stmt-F.Barrier spot) = keeping_rolled f (Stmt-F.Barrier spot) (λ p keep k shaped inside view state is. (is, λ reply fits. shaped (view_after view reply) state is))
keeping_level f (Stmt-F.Reduce spot o counter array) = keeping_rolled f (Stmt-F.Reduce spot o counter array)
    (λ p keep k shaped inside view state is. (is, λ reply fits. shaped (view_after view reply) _ (number_kept f counter state reply.given is)))
keeping_level f (Stmt-F.Agree spot counter array index) = keeping_rolled f (Stmt-F.Agree spot counter array index)
    (λ p keep k shaped inside view state is. (is, λ reply fits. shaped (view_after view reply) _ (number_kept f counter state reply.given is)))
keeping_level f (Stmt-F.Shift spot source target by) = keeping_rolled f (Stmt-F.Shift spot source target by)
    (λ p keep k shaped inside view state is.
    let arrays = and_parts (is_array f.names source) (is_array f.names target) keep.0.known in
    let range = and_parts (is_between 1 15 by) (are_of_one_length (array_in f.names source) (array_in f.names target)) keep.0.in_range in
    let same = same_elements f state source target is arrays.0 arrays.1 range.1 in
    (is, λ reply fits. shaped (view_after view reply) _ (elements_kept f (count_of by) (elements_of f state source) target state reply.given same fits is)))
keeping_level f (Stmt-F.Group spot group start depth) = keeping_rolled f (Stmt-F.Group spot group start depth) (λ p keep k shaped inside view state is. (is, λ reply fits. shaped (view_after view reply) state is))
keeping_level f (Stmt-F.Member spot group member array) = keeping_rolled f (Stmt-F.Member spot group member array) (λ p keep k shaped inside view state is. (is, λ reply fits. shaped (view_after view reply) state is))
keeping_level f (Stmt-F.Store spot group member subset) = keeping_rolled f (Stmt-F.Store spot group member subset) (λ p keep k shaped inside view state is. (is, λ reply fits. shaped (view_after view reply) state is))
keeping_level f (Stmt-F.Commit spot group) = keeping_rolled f (Stmt-F.Commit spot group) (λ p keep k shaped inside view state is. (is, λ reply fits. shaped (view_after view reply) state is))
keeping_level f (Stmt-F.CommitBarrier spot group) = keeping_rolled f (Stmt-F.CommitBarrier spot group) (λ p keep k shaped inside view state is. (is, λ reply fits. shaped (view_after view reply) state is))
keeping_level f (Stmt-F.Restore spot group member stamp) = keeping_rolled f (Stmt-F.Restore spot group member stamp)
    (λ p keep k shaped inside view state is. (is, λ reply fits. shaped (view_after view reply) _ (entries_kept f (member_array f group member) state reply.given is)))
keeping_level f (Stmt-F.Drop spot group stamp) = keeping_rolled f (Stmt-F.Drop spot group stamp) (λ p keep k shaped inside view state is. (is, λ reply fits. shaped (view_after view reply) state is))

all_keeping : (f : Facts) (s : Stmt) → IsKeeping f s
all_keeping f = ind-Stmt (IsKeeping f) (λ x y is. subst (λ x. IsKeeping f (roll-Stmt x)) is (keeping_level f y))

lists_keeping : (f : Facts) (ss : List Stmt) (p : Surroundings) → KeepRules (stmts_lines f ss p) → (k : Onward) → Shaped f k → (inside : Bool) → Shaped f (walks f ss inside k)
lists_keeping f [] p keep k shaped inside = shaped
lists_keeping f (s ∷ ss) p keep k shaped inside =
    all_keeping f s p (all_front KeepsRules (stmt_lines f s p) (stmts_lines f ss p) keep) (walks f ss inside k)
    (lists_keeping f ss p (all_behind KeepsRules (stmt_lines f s p) (stmts_lines f ss p) keep) k shaped inside) inside

-- the walk of a body that keeps the rules, from a state of the declared shape
pub stays_shaped : (f : Facts) (body : List Stmt) → KeepRules (stmts_lines f body body_place) → (state : State) → IsShaped f.names state → (view : View) → StaysShaped f.names (walk_of f body view state)
stays_shaped f body keep state is view = lists_keeping f body body_place keep ended (λ view state is. is) false view state is
