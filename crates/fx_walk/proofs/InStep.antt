-- Each rank's walk of a body that keeps the rules keeps to one plan.
use Rattle.std.proofs.Common.{◌≡◌, ℕ, zero, suc, ◌+◌, Bool, true, false, not, ◌&&◌, List, [], ◌∷◌, ◌++◌, map, Some, None, refl, ap, sym, subst, ◌∙◌}
use Rattle.std.specs.Prelude.{ℤ, pos, if◌then◌else◌}
use Rattle.std.specs.List.{AllByRecursion}
use Rattle.std.proofs.lemmas.Bool.{and_parts}
use Rattle.fx_script.specs.declared.job.Stmt.{Stmt}
use Rattle.fx_script.specs.declared.job.Stmt.TheOpen.{Stmt-F}
use Rattle.fx_script.specs.declared.job.Stmt.TheViews.{roll-Stmt}
use Rattle.fx_script.specs.declared.job.Stmt.TheFolds.{fold-roll-Stmt, map-Stmt, ind-Stmt}
use Rattle.fx_script.specs.declared.job.Test.{Test}
use Rattle.fx_check.specs.declared.surroundings.Surroundings.{Surroundings}
use Rattle.fx_check.specs.Acceptance.{Line, lines_at, stmt_lines_level, stmt_lines, stmts_lines}
use Rattle.fx_check.specs.Facts.{Facts}
use Rattle.fx_check.specs.Parts.{KeepsRules, KeepRules}
use Rattle.fx_check.specs.Rules.{body_place, inside_when, inside_if, inside_for, expr_uniform, count_of}
use Rattle.fx_walk.specs.declared.action.View.{View}
use Rattle.fx_walk.specs.State.{State, with_counter}
use Rattle.fx_walk.specs.Values.{sight, value_of, holds}
use Rattle.fx_walk.specs.Walk.{Given, Nothing, Number, Elements, Entries, Reply, Walk, Onward, Meaning, in_turn, looped, turns_of, is_same_role, member_array, sets_counter, sets_elements, sets_entries, view_after, walk_level, walk, walks, walk_of, ended, group_id, member_id, stamp_at}
use Rattle.fx_walk.specs.Plan.{Shared, shared_of, shared_sight, Restore, Delete, number_of, Plan, PlanOnward, PlanMeaning, planned, plan_looped, set_to, set_if, plan_level, plan, plans, plan_of, Keeps}
use Rattle.fx_walk.proofs.Shared.{uniform_value}

-- ---- lines

all_front : (P : Line → Type 0) (a b : List Line) → AllByRecursion P (a ++ b) → AllByRecursion P a
all_front P [] b all = tt
all_front P (l ∷ a) b all = (all.0, all_front P a b all.1)

all_behind : (P : Line → Type 0) (a b : List Line) → AllByRecursion P (a ++ b) → AllByRecursion P b
all_behind P [] b all = all
all_behind P (l ∷ a) b all = all_behind P a b all.1

-- ---- what is given

counters_as_given : (f : Facts) (counter : List ℕ) (view : View) (state : State) (g : Given) → set_if f counter (shared_of view state) (number_of g) ≡ shared_of view (sets_counter f counter state g)
counters_as_given f counter view state Nothing = refl
counters_as_given f counter view state (Number n) = refl
counters_as_given f counter view state (Elements elements) = refl
counters_as_given f counter view state (Entries entries) = refl

elements_aside : (f : Facts) (array : List ℕ) (state : State) (g : Given) → (sets_elements f array state g).counters ≡ state.counters
elements_aside f array state Nothing = refl
elements_aside f array state (Number n) = refl
elements_aside f array state (Elements elements) = refl
elements_aside f array state (Entries entries) = refl

entries_aside : (f : Facts) (array : List ℕ) (state : State) (g : Given) → (sets_entries f array state g).counters ≡ state.counters
entries_aside f array state Nothing = refl
entries_aside f array state (Number n) = refl
entries_aside f array state (Elements elements) = refl
entries_aside f array state (Entries entries) = refl

-- ---- inside `when`

-- what comes then keeps to this plan, from any state with these counters
abbrev Rests : Onward → Plan → View → List ℤ → Type 0
Rests k u view cs = (state : State) → state.counters ≡ cs → Keeps (k view state) u view.latest

abbrev IsQuiet : Facts → Stmt → Type 0
IsQuiet f s = (p : Surroundings) → p.in_when ≡ true → KeepRules (stmt_lines f s p) → (k : Onward) (u : Plan) (view : View) (cs : List ℤ) → Rests k u view cs → Rests (walk f s true k) u view cs

quiet_rolled : (f : Facts) (x : Stmt-F Stmt)
    → ((p : Surroundings) → p.in_when ≡ true → KeepRules (stmt_lines_level f (map-Stmt Stmt (Surroundings → List Line) (stmt_lines f) x) p) → (k : Onward) (u : Plan) (view : View) (cs : List ℤ) → Rests k u view cs
    → Rests (walk_level f (map-Stmt Stmt Meaning (walk f) x) true k) u view cs)
    → IsQuiet f (roll-Stmt x)
quiet_rolled f x level p inside keep k u view cs rests =
    subst (λ (t : Meaning). Rests (t true k) u view cs) (sym (fold-roll-Stmt Meaning (walk_level f) x))
    (level p inside (subst (λ (l : Surroundings → List Line). KeepRules (l p)) (fold-roll-Stmt (Surroundings → List Line) (stmt_lines_level f) x) keep) k u view cs rests)

not_true : (b : Bool) → b ≡ true → not b ≡ true → ⊥
not_true true h n = absurd cc
not_true false h n = absurd cc

not_for_all : (b c : Bool) → b ≡ true → (not (b && true) && c) ≡ true → ⊥
not_for_all true c h n = absurd cc
not_for_all false c h n = absurd cc

either_way : (b : Bool) (x y : Walk) (u : Plan) (latest : List ℤ) → Keeps x u latest → Keeps y u latest → Keeps (if b then x else y) u latest
either_way true x y u latest one other = one
either_way false x y u latest one other = other

quiet_list : (f : Facts) (ts : List ((s : Stmt) × IsQuiet f s)) (p : Surroundings) → p.in_when ≡ true → KeepRules (lines_at (map (stmt_lines f) (map (λ t. t.0) ts)) p)
    → (k : Onward) (u : Plan) (view : View) (cs : List ℤ) → Rests k u view cs → Rests (in_turn (map (walk f) (map (λ t. t.0) ts)) true k) u view cs
quiet_list f [] p inside keep k u view cs rests = rests
quiet_list f (t ∷ ts) p inside keep k u view cs rests =
    let later = lines_at (map (stmt_lines f) (map (λ (t : (s : Stmt) × IsQuiet f s). t.0) ts)) p in
    t.1 p inside (all_front KeepsRules (stmt_lines f t.0 p) later keep) (in_turn (map (walk f) (map (λ (t : (s : Stmt) × IsQuiet f s). t.0) ts)) true k) u view cs
    (quiet_list f ts p inside (all_behind KeepsRules (stmt_lines f t.0 p) later keep) k u view cs rests)

quiet_level : (f : Facts) (y : Stmt-F ((s : Stmt) × IsQuiet f s)) → IsQuiet f (roll-Stmt (map-Stmt ((s : Stmt) × IsQuiet f s) Stmt (λ t. t.0) y))
quiet_level f (Stmt-F.Let spot array value) = quiet_rolled f (Stmt-F.Let spot array value) (λ p inside keep k u view cs rests v e. rests _ e)
quiet_level f (Stmt-F.Set spot counter value) = quiet_rolled f (Stmt-F.Set spot counter value) (λ p inside keep k u view cs rests v e. absurd (not_true p.in_when inside (and_parts (not p.in_when) (expr_uniform f value) keep.0.uniform).0))
quiet_level f (Stmt-F.Print spot name) = quiet_rolled f (Stmt-F.Print spot name) (λ p inside keep k u view cs rests v e. rests v e)
quiet_level f (Stmt-F.Register spot name) = quiet_rolled f (Stmt-F.Register spot name) (λ p inside keep k u view cs rests v e. rests _ e)
quiet_level f (Stmt-F.RoleOnly spot role ts) = quiet_rolled f (Stmt-F.RoleOnly spot role (map (λ t. t.0) ts))
    (λ p inside keep k u view cs rests v e. either_way (is_same_role role view.role) _ _ u view.latest (quiet_list f ts (inside_when p) refl keep.1 k u view cs rests v e) (rests v e))
quiet_level f (Stmt-F.Branch spot test left right ts None) = quiet_rolled f (Stmt-F.Branch spot test left right (map (λ t. t.0) ts) None)
    (λ p inside keep k u view cs rests v e. either_way (holds test (value_of f left (sight view v)) (value_of f right (sight view v))) (in_turn (map (walk f) (map (λ t. t.0) ts)) true k view v) (k view v) u view.latest
    (quiet_list f ts (inside_if p) inside (all_front KeepsRules _ [] keep.1) k u view cs rests v e) (rests v e))
quiet_level f (Stmt-F.Branch spot test left right ts (Some us)) = quiet_rolled f (Stmt-F.Branch spot test left right (map (λ t. t.0) ts) (Some (map (λ t. t.0) us)))
    (λ p inside keep k u view cs rests v e. either_way (holds test (value_of f left (sight view v)) (value_of f right (sight view v))) (in_turn (map (walk f) (map (λ t. t.0) ts)) true k view v) (in_turn (map (walk f) (map (λ t. t.0) us)) true k view v) u view.latest
    (quiet_list f ts (inside_if p) inside (all_front KeepsRules _ _ keep.1) k u view cs rests v e)
    (quiet_list f us (inside_if p) inside (all_behind KeepsRules _ _ keep.1) k u view cs rests v e))
quiet_level f (Stmt-F.Loop spot counter first last ts) = quiet_rolled f (Stmt-F.Loop spot counter first last (map (λ t. t.0) ts)) (λ p inside keep k u view cs rests v e. absurd (not_true p.in_when inside (and_parts (not p.in_when) (expr_uniform f first) keep.0.uniform).0))
quiet_level f (Stmt-F.Barrier spot) = quiet_rolled f (Stmt-F.Barrier spot) (λ p inside keep k u view cs rests v e. absurd (not_for_all p.in_when _ inside keep.0.placed))
quiet_level f (Stmt-F.Reduce spot o counter array) = quiet_rolled f (Stmt-F.Reduce spot o counter array) (λ p inside keep k u view cs rests v e. absurd (not_for_all p.in_when _ inside keep.0.placed))
quiet_level f (Stmt-F.Agree spot counter array index) = quiet_rolled f (Stmt-F.Agree spot counter array index) (λ p inside keep k u view cs rests v e. absurd (not_for_all p.in_when _ inside keep.0.placed))
quiet_level f (Stmt-F.Shift spot source target by) = quiet_rolled f (Stmt-F.Shift spot source target by) (λ p inside keep k u view cs rests v e. absurd (not_for_all p.in_when _ inside keep.0.placed))
quiet_level f (Stmt-F.Group spot group start depth) = quiet_rolled f (Stmt-F.Group spot group start depth) (λ p inside keep k u view cs rests v e. absurd (not_for_all p.in_when _ inside keep.0.placed))
quiet_level f (Stmt-F.Member spot group member array) = quiet_rolled f (Stmt-F.Member spot group member array) (λ p inside keep k u view cs rests v e. (refl, λ g. rests v e))
quiet_level f (Stmt-F.Store spot group member subset) = quiet_rolled f (Stmt-F.Store spot group member subset) (λ p inside keep k u view cs rests v e. (refl, λ g. rests v e))
quiet_level f (Stmt-F.Commit spot group) = quiet_rolled f (Stmt-F.Commit spot group) (λ p inside keep k u view cs rests v e. absurd (not_for_all p.in_when _ inside keep.0.placed))
quiet_level f (Stmt-F.CommitBarrier spot group) = quiet_rolled f (Stmt-F.CommitBarrier spot group) (λ p inside keep k u view cs rests v e. absurd (not_for_all p.in_when _ inside keep.0.placed))
quiet_level f (Stmt-F.Restore spot group member stamp) = quiet_rolled f (Stmt-F.Restore spot group member stamp)
    (λ p inside keep k u view cs rests v e. (refl, λ g. rests _ (entries_aside f (member_array f group member) v g ∙ e)))
quiet_level f (Stmt-F.Drop spot group stamp) = quiet_rolled f (Stmt-F.Drop spot group stamp) (λ p inside keep k u view cs rests v e. absurd (not_for_all p.in_when _ inside keep.0.placed))

quiet : (f : Facts) (s : Stmt) → IsQuiet f s
quiet f = ind-Stmt (IsQuiet f) (λ x y is. subst (λ x. IsQuiet f (roll-Stmt x)) is (quiet_level f y))

quiets : (f : Facts) (ss : List Stmt) (p : Surroundings) → p.in_when ≡ true → KeepRules (lines_at (map (stmt_lines f) ss) p)
    → (k : Onward) (u : Plan) (view : View) (cs : List ℤ) → Rests k u view cs → Rests (in_turn (map (walk f) ss) true k) u view cs
quiets f [] p inside keep k u view cs rests = rests
quiets f (s ∷ ss) p inside keep k u view cs rests =
    let later = lines_at (map (stmt_lines f) ss) p in
    quiet f s p inside (all_front KeepsRules (stmt_lines f s p) later keep) (in_turn (map (walk f) ss) true k) u view cs (quiets f ss p inside (all_behind KeepsRules (stmt_lines f s p) later keep) k u view cs rests)

-- ---- outside `when`

abbrev Alike : Onward → PlanOnward → Type 0
Alike k pk = (view : View) (state : State) → Keeps (k view state) (pk (shared_of view state)) view.latest

abbrev IsPlanned : Facts → Stmt → Type 0
IsPlanned f s = (p : Surroundings) → p.in_when ≡ false → KeepRules (stmt_lines f s p) → (k : Onward) (pk : PlanOnward) → Alike k pk → Alike (walk f s false k) (plan f s pk)

planned_rolled : (f : Facts) (x : Stmt-F Stmt)
    → ((p : Surroundings) → p.in_when ≡ false → KeepRules (stmt_lines_level f (map-Stmt Stmt (Surroundings → List Line) (stmt_lines f) x) p) → (k : Onward) (pk : PlanOnward) → Alike k pk
    → Alike (walk_level f (map-Stmt Stmt Meaning (walk f) x) false k) (plan_level f (map-Stmt Stmt PlanMeaning (plan f) x) pk))
    → IsPlanned f (roll-Stmt x)
planned_rolled f x level p inside keep k pk alike =
    subst (λ (t : Meaning). Alike (t false k) (plan f (roll-Stmt x) pk)) (sym (fold-roll-Stmt Meaning (walk_level f) x))
    (subst (λ (t : PlanMeaning). Alike (walk_level f (map-Stmt Stmt Meaning (walk f) x) false k) (t pk)) (sym (fold-roll-Stmt PlanMeaning (plan_level f) x))
    (level p inside (subst (λ (l : Surroundings → List Line). KeepRules (l p)) (fold-roll-Stmt (Surroundings → List Line) (stmt_lines_level f) x) keep) k pk alike))

planned_list : (f : Facts) (ts : List ((s : Stmt) × IsPlanned f s)) (p : Surroundings) → p.in_when ≡ false → KeepRules (lines_at (map (stmt_lines f) (map (λ t. t.0) ts)) p)
    → (k : Onward) (pk : PlanOnward) → Alike k pk → Alike (in_turn (map (walk f) (map (λ t. t.0) ts)) false k) (planned (map (plan f) (map (λ t. t.0) ts)) pk)
planned_list f [] p inside keep k pk alike = alike
planned_list f (t ∷ ts) p inside keep k pk alike =
    let ss = map (λ (t : (s : Stmt) × IsPlanned f s). t.0) ts in
    let later = lines_at (map (stmt_lines f) ss) p in
    t.1 p inside (all_front KeepsRules (stmt_lines f t.0 p) later keep) (in_turn (map (walk f) ss) false k) (planned (map (plan f) ss) pk)
    (planned_list f ts p inside (all_behind KeepsRules (stmt_lines f t.0 p) later keep) k pk alike)

-- the two sides of a test that is the same
tested : (test : Test) (a b c d : ℤ) → a ≡ c → b ≡ d → (x y : Walk) (m n : Plan) (latest : List ℤ) → Keeps x m latest → Keeps y n latest → Keeps (if holds test a b then x else y) (if holds test c d then m else n) latest
tested test a b c d e g x y m n latest one other = subst (λ (t : Bool). Keeps (if holds test a b then x else y) (if t then m else n) latest) (ap (λ (z : ℤ). holds test z b) e ∙ ap (λ (z : ℤ). holds test c z) g) (sides (holds test a b)) where
  sides : (t : Bool) → Keeps (if t then x else y) (if t then m else n) latest
  sides true = one
  sides false = other

turns_planned : (f : Facts) (counter : List ℕ) (body : Meaning) (plan_body : PlanMeaning) → ((k : Onward) (pk : PlanOnward) → Alike k pk → Alike (body false k) (plan_body pk))
    → (n value : ℕ) (k : Onward) (pk : PlanOnward) → Alike k pk → Alike (looped f counter body n value false k) (plan_looped f counter plan_body n value pk)
turns_planned f counter body plan_body inner zero value k pk alike view state = alike view state
turns_planned f counter body plan_body inner (suc n) value k pk alike view state =
    inner (looped f counter body n (value + 1) false k) (plan_looped f counter plan_body n (value + 1) pk) (turns_planned f counter body plan_body inner n (value + 1) k pk alike) view (with_counter f state counter (pos value))

-- what comes after a statement that leaves the counters
after_same : (k : Onward) (pk : PlanOnward) → Alike k pk → (view : View) (shared : Shared) (state : State) → state.counters ≡ shared.counters → shared.size ≡ view.size → (latest : List ℤ)
    → Keeps (k (record view { latest = latest }) state) (pk (record { size = view.size; latest = latest; counters = shared.counters })) latest
after_same k pk alike view shared state e s latest = subst (λ (cs : List ℤ). Keeps (k (record view { latest = latest }) state) (pk (record { size = view.size; latest = latest; counters = cs })) latest) e (alike (record view { latest = latest }) state)

-- what comes after one that sets a counter
after_number : (f : Facts) (counter : List ℕ) (k : Onward) (pk : PlanOnward) → Alike k pk → (view : View) (state : State) (reply : Reply)
    → Keeps (k (view_after view reply) (sets_counter f counter state reply.given)) (pk (record (set_if f counter (shared_of view state) (number_of reply.given)) { latest = reply.latest })) reply.latest
after_number f counter k pk alike view state reply =
    subst (λ (shared : Shared). Keeps (k (view_after view reply) (sets_counter f counter state reply.given)) (pk (record shared { latest = reply.latest })) reply.latest)
    (sym (counters_as_given f counter view state reply.given)) (alike (view_after view reply) (sets_counter f counter state reply.given))

planned_level : (f : Facts) (y : Stmt-F ((s : Stmt) × IsPlanned f s)) → IsPlanned f (roll-Stmt (map-Stmt ((s : Stmt) × IsPlanned f s) Stmt (λ t. t.0) y))
planned_level f (Stmt-F.Let spot array value) = planned_rolled f (Stmt-F.Let spot array value) (λ p inside keep k pk alike view state. alike view _)
planned_level f (Stmt-F.Set spot counter value) = planned_rolled f (Stmt-F.Set spot counter value) (λ p inside keep k pk alike view state.
    subst (λ (n : ℤ). Keeps (k view (with_counter f state counter (value_of f value (sight view state)))) (pk (set_to f counter (shared_of view state) n)) view.latest)
    (uniform_value f value (and_parts (not p.in_when) (expr_uniform f value) keep.0.uniform).1 view state) (alike view (with_counter f state counter (value_of f value (sight view state)))))
planned_level f (Stmt-F.Print spot name) = planned_rolled f (Stmt-F.Print spot name) (λ p inside keep k pk alike view state. alike view state)
planned_level f (Stmt-F.Register spot name) = planned_rolled f (Stmt-F.Register spot name) (λ p inside keep k pk alike view state. alike view _)
planned_level f (Stmt-F.RoleOnly spot role ts) = planned_rolled f (Stmt-F.RoleOnly spot role (map (λ t. t.0) ts))
    (λ p inside keep k pk alike view state. either_way (is_same_role role view.role) _ _ (pk (shared_of view state)) view.latest
    (quiets f (map (λ t. t.0) ts) (inside_when p) refl keep.1 k (pk (shared_of view state)) view state.counters
    (λ x e. subst (λ (cs : List ℤ). Keeps (k view x) (pk (record (shared_of view state) { counters = cs })) view.latest) e (alike view x)) state refl) (alike view state))
planned_level f (Stmt-F.Branch spot test left right ts None) = planned_rolled f (Stmt-F.Branch spot test left right (map (λ t. t.0) ts) None)
    (λ p inside keep k pk alike view state.
    let both = and_parts (expr_uniform f left) (expr_uniform f right) keep.0.uniform in
    let shared = shared_of view state in
    tested test (value_of f left (sight view state)) (value_of f right (sight view state)) (value_of f left (shared_sight shared)) (value_of f right (shared_sight shared))
    (uniform_value f left both.0 view state) (uniform_value f right both.1 view state)
    (in_turn (map (walk f) (map (λ t. t.0) ts)) false k view state) (k view state) (planned (map (plan f) (map (λ t. t.0) ts)) pk shared) (pk shared) view.latest
    (planned_list f ts (inside_if p) inside (all_front KeepsRules _ [] keep.1) k pk alike view state) (alike view state))
planned_level f (Stmt-F.Branch spot test left right ts (Some us)) = planned_rolled f (Stmt-F.Branch spot test left right (map (λ t. t.0) ts) (Some (map (λ t. t.0) us)))
    (λ p inside keep k pk alike view state.
    let both = and_parts (expr_uniform f left) (expr_uniform f right) keep.0.uniform in
    let shared = shared_of view state in
    tested test (value_of f left (sight view state)) (value_of f right (sight view state)) (value_of f left (shared_sight shared)) (value_of f right (shared_sight shared))
    (uniform_value f left both.0 view state) (uniform_value f right both.1 view state)
    (in_turn (map (walk f) (map (λ t. t.0) ts)) false k view state) (in_turn (map (walk f) (map (λ t. t.0) us)) false k view state)
    (planned (map (plan f) (map (λ t. t.0) ts)) pk shared) (planned (map (plan f) (map (λ t. t.0) us)) pk shared) view.latest
    (planned_list f ts (inside_if p) inside (all_front KeepsRules _ _ keep.1) k pk alike view state) (planned_list f us (inside_if p) inside (all_behind KeepsRules _ _ keep.1) k pk alike view state))
planned_level f (Stmt-F.Loop spot counter first last ts) = planned_rolled f (Stmt-F.Loop spot counter first last (map (λ t. t.0) ts))
    (λ p inside keep k pk alike view state.
    let body = in_turn (map (walk f) (map (λ (t : (s : Stmt) × IsPlanned f s). t.0) ts)) in
    let plan_body = planned (map (plan f) (map (λ (t : (s : Stmt) × IsPlanned f s). t.0) ts)) in
    let from = value_of f first (sight view state) in
    subst (λ (n : ℤ). Keeps (looped f counter body (turns_of from last) (count_of from) false k view state) (plan_looped f counter plan_body (turns_of n last) (count_of n) pk (shared_of view state)) view.latest)
    (uniform_value f first (and_parts (not p.in_when) (expr_uniform f first) keep.0.uniform).1 view state)
    (turns_planned f counter body plan_body (λ k pk alike. planned_list f ts (inside_for p) inside keep.1 k pk alike) (turns_of from last) (count_of from) k pk alike view state))
planned_level f (Stmt-F.Barrier spot) = planned_rolled f (Stmt-F.Barrier spot) (λ p inside keep k pk alike view state. (refl, refl, refl, tt, λ reply. alike (view_after view reply) state))
planned_level f (Stmt-F.Reduce spot o counter array) = planned_rolled f (Stmt-F.Reduce spot o counter array) (λ p inside keep k pk alike view state. (refl, refl, refl, tt, λ reply. after_number f counter k pk alike view state reply))
planned_level f (Stmt-F.Agree spot counter array index) = planned_rolled f (Stmt-F.Agree spot counter array index) (λ p inside keep k pk alike view state. (refl, refl, refl, tt, λ reply. after_number f counter k pk alike view state reply))
planned_level f (Stmt-F.Shift spot source target by) = planned_rolled f (Stmt-F.Shift spot source target by)
    (λ p inside keep k pk alike view state. (refl, refl, refl, refl, λ reply. after_same k pk alike view (shared_of view state) (sets_elements f target state reply.given) (elements_aside f target state reply.given) refl reply.latest))
planned_level f (Stmt-F.Group spot group start depth) = planned_rolled f (Stmt-F.Group spot group start depth) (λ p inside keep k pk alike view state. (refl, refl, refl, tt, λ reply. alike (view_after view reply) state))
planned_level f (Stmt-F.Member spot group member array) = planned_rolled f (Stmt-F.Member spot group member array) (λ p inside keep k pk alike view state. (refl, refl, refl, tt, λ reply. alike (view_after view reply) state))
planned_level f (Stmt-F.Store spot group member subset) = planned_rolled f (Stmt-F.Store spot group member subset) (λ p inside keep k pk alike view state. (refl, refl, refl, tt, λ reply. alike (view_after view reply) state))
planned_level f (Stmt-F.Commit spot group) = planned_rolled f (Stmt-F.Commit spot group) (λ p inside keep k pk alike view state. (refl, refl, refl, tt, λ reply. alike (view_after view reply) state))
planned_level f (Stmt-F.CommitBarrier spot group) = planned_rolled f (Stmt-F.CommitBarrier spot group) (λ p inside keep k pk alike view state. (refl, refl, refl, tt, λ reply. alike (view_after view reply) state))
planned_level f (Stmt-F.Restore spot group member stamp) = planned_rolled f (Stmt-F.Restore spot group member stamp)
    (λ p inside keep k pk alike view state. (
      refl,
      ap (λ (n : ℤ). Restore (group_id group) (member_id member) (stamp_at n)) (uniform_value f stamp keep.0.uniform view state),
      refl,
      tt,
      λ reply. after_same k pk alike view (shared_of view state) (sets_entries f (member_array f group member) state reply.given) (entries_aside f (member_array f group member) state reply.given) refl reply.latest,
    ))
planned_level f (Stmt-F.Drop spot group stamp) = planned_rolled f (Stmt-F.Drop spot group stamp)
    (λ p inside keep k pk alike view state. (refl, ap (λ (n : ℤ). Delete (group_id group) (stamp_at n)) (uniform_value f stamp keep.0.uniform view state), refl, tt, λ reply. alike (view_after view reply) state))

all_planned : (f : Facts) (s : Stmt) → IsPlanned f s
all_planned f = ind-Stmt (IsPlanned f) (λ x y is. subst (λ x. IsPlanned f (roll-Stmt x)) is (planned_level f y))

lists_planned : (f : Facts) (ss : List Stmt) (p : Surroundings) → p.in_when ≡ false → KeepRules (stmts_lines f ss p) → (k : Onward) (pk : PlanOnward) → Alike k pk → Alike (walks f ss false k) (plans f ss pk)
lists_planned f [] p inside keep k pk alike = alike
lists_planned f (s ∷ ss) p inside keep k pk alike =
    all_planned f s p inside (all_front KeepsRules (stmt_lines f s p) (stmts_lines f ss p) keep) (walks f ss false k) (plans f ss pk)
    (lists_planned f ss p inside (all_behind KeepsRules (stmt_lines f s p) (stmts_lines f ss p) keep) k pk alike)

-- each rank's walk of a body that keeps the rules keeps to the body's plan
pub keeps_to_plan : (f : Facts) (body : List Stmt) → KeepRules (stmts_lines f body body_place) → (view : View) (state : State) → Keeps (walk_of f body view state) (plan_of f body (shared_of view state)) view.latest
keeps_to_plan f body keep view state = lists_planned f body body_place refl keep ended _ (λ view state. refl) view state
