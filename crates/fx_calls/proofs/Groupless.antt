-- Statements on no data group that can be written ask nothing of one, and print under names.
use Rattle.std.proofs.Common.{◌≡◌, ℕ, zero, suc, ◌+◌, Bool, true, false, ◌&&◌, List, [], ◌∷◌, map, Some, None, sym, subst}
use Rattle.std.specs.Prelude.{pos, if◌then◌else◌}
use Rattle.std.specs.List.{list_all}
use Rattle.std.proofs.lemmas.Bool.{and_parts}
use Rattle.fx_script.specs.declared.job.Stmt.{Stmt}
use Rattle.fx_script.specs.declared.job.Stmt.TheOpen.{Stmt-F}
use Rattle.fx_script.specs.declared.job.Stmt.TheViews.{roll-Stmt}
use Rattle.fx_script.specs.declared.job.Stmt.TheFolds.{fold-roll-Stmt, map-Stmt, ind-Stmt}
use Rattle.fx_text.specs.Names.{is_name}
use Rattle.fx_script.specs.Spelling.{stmt_fits_level, stmt_fits, stmts_fit, list_fits}
use Rattle.fx_check.specs.Facts.{Facts}
use Rattle.fx_walk.specs.declared.action.View.{View}
use Rattle.fx_walk.specs.State.{State, with_counter}
use Rattle.fx_walk.specs.Lengths.{all_true}
use Rattle.fx_calls.specs.Bodies.{groupless_level, is_groupless, IsOfNoGroup, OnlyAsks}
use Rattle.fx_walk.specs.Values.{sight, value_of, holds}
use Rattle.fx_walk.specs.Walk.{Walk, Onward, Meaning, is_same_role, in_turn, looped, turns_of, walk_level, walk, walks, walk_of, ended}

abbrev OnlyCalls : Walk → Type 0
OnlyCalls w = OnlyAsks IsOfNoGroup w

abbrev Quiet : Onward → Type 0
Quiet k = (view : View) (state : State) → OnlyCalls (k view state)

abbrev IsQuiet : Facts → Stmt → Type 0
IsQuiet f s = (room : ℕ) (k : Onward) → stmt_fits s room ≡ true → is_groupless s ≡ true → Quiet k → (inside : Bool) → Quiet (walk f s inside k)

quiet_rolled : (f : Facts) (x : Stmt-F Stmt)
    → ((room : ℕ) (k : Onward) → stmt_fits_level (map-Stmt Stmt (ℕ → Bool) stmt_fits x) room ≡ true → groupless_level (map-Stmt Stmt Bool (is_groupless) x) ≡ true → Quiet k
    → (inside : Bool) → Quiet (walk_level f (map-Stmt Stmt Meaning (walk f) x) inside k))
    → IsQuiet f (roll-Stmt x)
quiet_rolled f x level room k fits plain quiet inside =
    subst (λ (t : Meaning). Quiet (t inside k)) (sym (fold-roll-Stmt Meaning (walk_level f) x))
    (level room k (subst (λ (t : ℕ → Bool). t room ≡ true) (fold-roll-Stmt (ℕ → Bool) stmt_fits_level x) fits) (subst (λ (b : Bool). b ≡ true) (fold-roll-Stmt Bool (groupless_level) x) plain) quiet inside)

quiet_list : (f : Facts) (ts : List ((s : Stmt) × IsQuiet f s)) (room : ℕ) (k : Onward) → list_fits (map stmt_fits (map (λ t. t.0) ts)) room ≡ true → all_true (map (is_groupless) (map (λ t. t.0) ts)) ≡ true
    → Quiet k → (inside : Bool) → Quiet (in_turn (map (walk f) (map (λ t. t.0) ts)) inside k)
quiet_list f ts zero k fits plain quiet inside = absurd cc
quiet_list f [] (suc room) k fits plain quiet inside = quiet
quiet_list f (t ∷ ts) (suc room) k fits plain quiet inside =
    let one = and_parts (stmt_fits t.0 room) (list_all (λ (fits : ℕ → Bool). fits room) (map stmt_fits (map (λ (t : (s : Stmt) × IsQuiet f s). t.0) ts))) fits in
    let two = and_parts (is_groupless t.0) (all_true (map (is_groupless) (map (λ (t : (s : Stmt) × IsQuiet f s). t.0) ts))) plain in
    t.1 room (in_turn (map (walk f) (map (λ (t : (s : Stmt) × IsQuiet f s). t.0) ts)) inside k) one.0 two.0 (quiet_list f ts (suc room) k one.1 two.1 quiet inside) inside

either : (t : Bool) (x y : Walk) → OnlyCalls x → OnlyCalls y → OnlyCalls (if t then x else y)
either true x y one other = one
either false x y one other = other

quiet_turns : (f : Facts) (counter : List ℕ) (body : Meaning) → ((k : Onward) → Quiet k → (inside : Bool) → Quiet (body inside k))
    → (turns value : ℕ) (k : Onward) → Quiet k → (inside : Bool) → Quiet (looped f counter body turns value inside k)
quiet_turns f counter body inner zero value k quiet inside view state = quiet view state
quiet_turns f counter body inner (suc turns) value k quiet inside view state =
    inner (looped f counter body turns (value + 1) inside k) (quiet_turns f counter body inner turns (value + 1) k quiet inside) inside view (with_counter f state counter (pos value))

quiet_level : (f : Facts) (y : Stmt-F ((s : Stmt) × IsQuiet f s)) → IsQuiet f (roll-Stmt (map-Stmt ((s : Stmt) × IsQuiet f s) Stmt (λ t. t.0) y))
quiet_level f (Stmt-F.Let spot array value) = quiet_rolled f (Stmt-F.Let spot array value) (λ room k fits plain quiet inside view state. quiet view _)
quiet_level f (Stmt-F.Set spot counter value) = quiet_rolled f (Stmt-F.Set spot counter value) (λ room k fits plain quiet inside view state. quiet view _)
quiet_level f (Stmt-F.Print spot name) = quiet_rolled f (Stmt-F.Print spot name) (λ room k fits plain quiet inside view state. ((and_parts (is_name name) true fits).0, quiet view state))
quiet_level f (Stmt-F.Register spot name) = quiet_rolled f (Stmt-F.Register spot name) (λ room k fits plain quiet inside view state. quiet view _)
quiet_level f (Stmt-F.RoleOnly spot role ts) = quiet_rolled f (Stmt-F.RoleOnly spot role (map (λ t. t.0) ts))
    (λ room k fits plain quiet inside view state. either (is_same_role role view.role) _ (k view state) (quiet_list f ts room k fits plain quiet true view state) (quiet view state))
quiet_level f (Stmt-F.Branch spot test left right ts None) = quiet_rolled f (Stmt-F.Branch spot test left right (map (λ t. t.0) ts) None)
    (λ room k fits plain quiet inside view state.
    let list = list_fits (map stmt_fits (map (λ (t : (s : Stmt) × IsQuiet f s). t.0) ts)) room in
    either (holds test (value_of f left (sight view state)) (value_of f right (sight view state))) _ (k view state)
    (quiet_list f ts room k (and_parts list true (and_parts _ (list && true) fits).1).0 (and_parts (all_true (map (is_groupless) (map (λ (t : (s : Stmt) × IsQuiet f s). t.0) ts))) true plain).0 quiet inside view state) (quiet view state))
quiet_level f (Stmt-F.Branch spot test left right ts (Some us)) = quiet_rolled f (Stmt-F.Branch spot test left right (map (λ t. t.0) ts) (Some (map (λ t. t.0) us)))
    (λ room k fits plain quiet inside view state.
    let lists = and_parts (list_fits (map stmt_fits (map (λ (t : (s : Stmt) × IsQuiet f s). t.0) ts)) room) (list_fits (map stmt_fits (map (λ (t : (s : Stmt) × IsQuiet f s). t.0) us)) room) (and_parts _ _ fits).1 in
    let plains = and_parts (all_true (map (is_groupless) (map (λ (t : (s : Stmt) × IsQuiet f s). t.0) ts))) (all_true (map (is_groupless) (map (λ (t : (s : Stmt) × IsQuiet f s). t.0) us))) plain in
    either (holds test (value_of f left (sight view state)) (value_of f right (sight view state))) _ _
    (quiet_list f ts room k lists.0 plains.0 quiet inside view state) (quiet_list f us room k lists.1 plains.1 quiet inside view state))
quiet_level f (Stmt-F.Loop spot counter first last ts) = quiet_rolled f (Stmt-F.Loop spot counter first last (map (λ t. t.0) ts))
    (λ room k fits plain quiet inside view state.
    quiet_turns f counter (in_turn (map (walk f) (map (λ (t : (s : Stmt) × IsQuiet f s). t.0) ts))) (λ k quiet inside. quiet_list f ts room k (and_parts _ _ fits).1 plain quiet inside)
    (turns_of (value_of f first (sight view state)) last) (Rattle.fx_check.specs.Rules.count_of (value_of f first (sight view state))) k quiet inside view state)
quiet_level f (Stmt-F.Barrier spot) = quiet_rolled f (Stmt-F.Barrier spot) (λ room k fits plain quiet inside view state. (tt, λ reply. quiet _ _))
quiet_level f (Stmt-F.Reduce spot o counter array) = quiet_rolled f (Stmt-F.Reduce spot o counter array) (λ room k fits plain quiet inside view state. (tt, λ reply. quiet _ _))
quiet_level f (Stmt-F.Agree spot counter array index) = quiet_rolled f (Stmt-F.Agree spot counter array index) (λ room k fits plain quiet inside view state. (tt, λ reply. quiet _ _))
quiet_level f (Stmt-F.Shift spot source target by) = quiet_rolled f (Stmt-F.Shift spot source target by) (λ room k fits plain quiet inside view state. (tt, λ reply. quiet _ _))
quiet_level f (Stmt-F.Group spot group start depth) = quiet_rolled f (Stmt-F.Group spot group start depth) (λ room k fits plain quiet inside. absurd cc)
quiet_level f (Stmt-F.Member spot group member array) = quiet_rolled f (Stmt-F.Member spot group member array) (λ room k fits plain quiet inside. absurd cc)
quiet_level f (Stmt-F.Store spot group member subset) = quiet_rolled f (Stmt-F.Store spot group member subset) (λ room k fits plain quiet inside. absurd cc)
quiet_level f (Stmt-F.Commit spot group) = quiet_rolled f (Stmt-F.Commit spot group) (λ room k fits plain quiet inside. absurd cc)
quiet_level f (Stmt-F.CommitBarrier spot group) = quiet_rolled f (Stmt-F.CommitBarrier spot group) (λ room k fits plain quiet inside. absurd cc)
quiet_level f (Stmt-F.Restore spot group member stamp) = quiet_rolled f (Stmt-F.Restore spot group member stamp) (λ room k fits plain quiet inside. absurd cc)
quiet_level f (Stmt-F.Drop spot group stamp) = quiet_rolled f (Stmt-F.Drop spot group stamp) (λ room k fits plain quiet inside. absurd cc)

all_quiet : (f : Facts) (s : Stmt) → IsQuiet f s
all_quiet f = ind-Stmt (IsQuiet f) (λ x y is. subst (λ x. IsQuiet f (roll-Stmt x)) is (quiet_level f y))

lists_quiet : (f : Facts) (ss : List Stmt) (room : ℕ) (k : Onward) → stmts_fit ss room ≡ true → list_all (is_groupless) ss ≡ true → Quiet k → (inside : Bool) → Quiet (walks f ss inside k)
lists_quiet f [] room k fits plain quiet inside = quiet
lists_quiet f (s ∷ ss) room k fits plain quiet inside =
    let one = and_parts (stmt_fits s room) (stmts_fit ss room) fits in
    let two = and_parts (is_groupless s) (list_all (is_groupless) ss) plain in
    all_quiet f s room (walks f ss inside k) one.0 two.0 (lists_quiet f ss room k one.1 two.1 quiet inside) inside

-- the walk of such statements
pub groupless_calls : (f : Facts) (ss : List Stmt) (room : ℕ) → stmts_fit ss room ≡ true → list_all (is_groupless) ss ≡ true → (view : View) (state : State) → OnlyCalls (walk_of f ss view state)
groupless_calls f ss room fits plain = lists_quiet f ss room ended fits plain (λ view state. tt) false
