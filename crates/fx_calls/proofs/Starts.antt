-- A body begins with all counters at zero and in the declared shape, also behind callbacks.
use Rattle.std.proofs.Common.{◌≡◌, ℕ, ◌+◌, Bool, true, false, List, [], ◌∷◌, ◌++◌, map, Some, None, refl, sym, subst}
use Rattle.std.specs.Prelude.{ℤ, if◌then◌else◌}
use Rattle.std.specs.List.{AllByRecursion, find}
use Rattle.fx_base.specs.declared.names.Role.{Role}
use Rattle.fx_base.specs.declared.names.Role.TheVariants as role
use Rattle.fx_script.specs.declared.job.Callback.{Callback}
use Rattle.fx_script.specs.declared.job.Decl.{Decl}
use Rattle.fx_script.specs.declared.job.Job.{Job}
use Rattle.fx_script.specs.declared.job.Stmt.{Stmt}
use Rattle.fx_script.specs.declared.job.Stmt.TheOpen.{Stmt-F}
use Rattle.fx_script.specs.declared.job.Stmt.TheViews.{roll-Stmt}
use Rattle.fx_script.specs.declared.job.Stmt.TheFolds.{fold-roll-Stmt, map-Stmt, ind-Stmt}
use Rattle.fx_check.specs.declared.surroundings.Surroundings.{Surroundings}
use Rattle.fx_check.specs.Acceptance.{Line, stmt_lines_level, stmt_lines, callback_body_lines, callbacks_lines}
use Rattle.fx_check.specs.Facts.{Facts, facts_of, is_call_of}
use Rattle.fx_check.specs.Parts.{KeepsRules, KeepRules, KeepsByParts}
use Rattle.fx_check.specs.Rules.{callback_place}
use Rattle.fx_value.specs.Shape.{IsShaped, StaysShaped}
use Rattle.fx_value.proofs.Shapes.{shaped_array, shaped_init}
use Rattle.fx_value.proofs.Staying.{length_values}
use Rattle.fx_walk.specs.declared.action.View.{View}
use Rattle.fx_walk.specs.Along.{stop_of}
use Rattle.fx_walk.specs.Callbacks.{view_at_init, body_or_none, callback_body, state_at, state_behind, state_behind_all, body_start}
use Rattle.fx_walk.specs.State.{State, array_slot, elements_of, zero_counters, at_init}
use Rattle.fx_walk.specs.Values.{sight}
use Rattle.fx_walk.specs.Walk.{Walk, Ends, Passes, Prints, Asks, Onward, Meaning, walk_level, walk, walks, ended}

front : (P : Line → Type 0) (a b : List Line) → AllByRecursion P (a ++ b) → AllByRecursion P a
front P [] b all = tt
front P (l ∷ a) b all = (all.0, front P a b all.1)

behind : (P : Line → Type 0) (a b : List Line) → AllByRecursion P (a ++ b) → AllByRecursion P b
behind P [] b all = all
behind P (l ∷ a) b all = behind P a b all.1

-- a state of this shape with these counters
record IsLike (names : List Decl) (cs : List ℤ) (state : State) : Type 0 where
  counters : state.counters ≡ cs
  shaped : IsShaped names state

abbrev StopsWith : List Decl → List ℤ → Walk → Type 0
StopsWith names cs w = IsLike names cs (state_at (stop_of w []))

abbrev Leaves : List Decl → List ℤ → Onward → Type 0
Leaves names cs k = (view : View) (state : State) → IsLike names cs state → StopsWith names cs (k view state)

-- a statement of a callback leaves the counters, and the shape
abbrev IsStill : Facts → Stmt → Type 0
IsStill f s = (before : ℕ) → KeepRules (stmt_lines f s (callback_place before)) → (cs : List ℤ) (k : Onward) → Leaves f.names cs k → Leaves f.names cs (walk f s false k)

still_rolled : (f : Facts) (x : Stmt-F Stmt)
    → ((before : ℕ) → KeepRules (stmt_lines_level f (map-Stmt Stmt (Surroundings → List Line) (stmt_lines f) x) (callback_place before)) → (cs : List ℤ) (k : Onward) → Leaves f.names cs k
    → Leaves f.names cs (walk_level f (map-Stmt Stmt Meaning (walk f) x) false k))
    → IsStill f (roll-Stmt x)
still_rolled f x level before keep cs k leaves =
    subst (λ (t : Meaning). Leaves f.names cs (t false k)) (sym (fold-roll-Stmt Meaning (walk_level f) x))
    (level before (subst (λ (l : Surroundings → List Line). KeepRules (l (callback_place before))) (fold-roll-Stmt (Surroundings → List Line) (stmt_lines_level f) x) keep) cs k leaves)

clash : false ≡ true → ⊥
clash e = absurd cc

still_level : (f : Facts) (y : Stmt-F ((s : Stmt) × IsStill f s)) → IsStill f (roll-Stmt (map-Stmt ((s : Stmt) × IsStill f s) Stmt (λ t. t.0) y))
still_level f (Stmt-F.Let spot array value) = still_rolled f (Stmt-F.Let spot array value) (λ before keep cs k leaves view state e.
    leaves view _ (record { counters = e.counters; shaped = shaped_array f.names state (array_slot f.names array) _ (length_values f value (sight view state) 0 (elements_of f state array)) e.shaped }))
still_level f (Stmt-F.Print spot name) = still_rolled f (Stmt-F.Print spot name) (λ before keep cs k leaves view state e. leaves view state e)
still_level f (Stmt-F.Set spot counter value) = still_rolled f (Stmt-F.Set spot counter value) (λ before keep. absurd (clash keep.0.placed))
still_level f (Stmt-F.Register spot name) = still_rolled f (Stmt-F.Register spot name) (λ before keep. absurd (clash keep.0.placed))
still_level f (Stmt-F.RoleOnly spot role ts) = still_rolled f (Stmt-F.RoleOnly spot role (map (λ t. t.0) ts)) (λ before keep. absurd (clash keep.0.placed))
still_level f (Stmt-F.Branch spot test left right ts None) = still_rolled f (Stmt-F.Branch spot test left right (map (λ t. t.0) ts) None) (λ before keep. absurd (clash keep.0.placed))
still_level f (Stmt-F.Branch spot test left right ts (Some us)) = still_rolled f (Stmt-F.Branch spot test left right (map (λ t. t.0) ts) (Some (map (λ t. t.0) us))) (λ before keep. absurd (clash keep.0.placed))
still_level f (Stmt-F.Loop spot counter first last ts) = still_rolled f (Stmt-F.Loop spot counter first last (map (λ t. t.0) ts)) (λ before keep. absurd (clash keep.0.placed))
still_level f (Stmt-F.Barrier spot) = still_rolled f (Stmt-F.Barrier spot) (λ before keep. absurd (clash keep.0.placed))
still_level f (Stmt-F.Reduce spot o counter array) = still_rolled f (Stmt-F.Reduce spot o counter array) (λ before keep. absurd (clash keep.0.placed))
still_level f (Stmt-F.Agree spot counter array index) = still_rolled f (Stmt-F.Agree spot counter array index) (λ before keep. absurd (clash keep.0.placed))
still_level f (Stmt-F.Shift spot source target by) = still_rolled f (Stmt-F.Shift spot source target by) (λ before keep. absurd (clash keep.0.placed))
still_level f (Stmt-F.Group spot group start depth) = still_rolled f (Stmt-F.Group spot group start depth) (λ before keep. absurd (clash keep.0.placed))
still_level f (Stmt-F.Member spot group member array) = still_rolled f (Stmt-F.Member spot group member array) (λ before keep. absurd (clash keep.0.placed))
still_level f (Stmt-F.Store spot group member subset) = still_rolled f (Stmt-F.Store spot group member subset) (λ before keep. absurd (clash keep.0.placed))
still_level f (Stmt-F.Commit spot group) = still_rolled f (Stmt-F.Commit spot group) (λ before keep. absurd (clash keep.0.placed))
still_level f (Stmt-F.CommitBarrier spot group) = still_rolled f (Stmt-F.CommitBarrier spot group) (λ before keep. absurd (clash keep.0.placed))
still_level f (Stmt-F.Restore spot group member stamp) = still_rolled f (Stmt-F.Restore spot group member stamp) (λ before keep. absurd (clash keep.0.placed))
still_level f (Stmt-F.Drop spot group stamp) = still_rolled f (Stmt-F.Drop spot group stamp) (λ before keep. absurd (clash keep.0.placed))

all_still : (f : Facts) (s : Stmt) → IsStill f s
all_still f = ind-Stmt (IsStill f) (λ x y is. subst (λ x. IsStill f (roll-Stmt x)) is (still_level f y))

list_still : (f : Facts) (ss : List Stmt) (before : ℕ) → KeepRules (callback_body_lines f before ss) → (cs : List ℤ) (k : Onward) → Leaves f.names cs k → Leaves f.names cs (walks f ss false k)
list_still f [] before keep cs k leaves = leaves
list_still f (s ∷ ss) before keep cs k leaves =
    all_still f s before (front KeepsRules (stmt_lines f s (callback_place before)) _ keep) cs (walks f ss false k)
    (list_still f ss (before + 1) (behind KeepsRules (stmt_lines f s (callback_place before)) _ keep) cs k leaves)

-- ---- callbacks

abbrev CallbacksKeep : Facts → Type 0
CallbacksKeep f = (name : List ℕ) → KeepRules (callback_body_lines f 0 (callback_body f name))

callbacks_keep : (f : Facts) (before callbacks : List Callback) (name : List ℕ) → KeepRules (callbacks_lines f before callbacks) → KeepRules (callback_body_lines f 0 (body_or_none (find (is_call_of name) callbacks)))
callbacks_keep f before [] name keep = tt
callbacks_keep f before (c ∷ cs) name keep = of (callbacks_keep f (before ++ c ∷ []) cs name (behind KeepsRules (callback_body_lines f 0 c.body) _ keep.1)) (is_call_of name c)
  where
    of : KeepRules (callback_body_lines f 0 (body_or_none (find (is_call_of name) cs))) → (b : Bool) → KeepRules (callback_body_lines f 0 (body_or_none (if b then Some c else find (is_call_of name) cs)))
    of later true = front KeepsRules (callback_body_lines f 0 c.body) _ keep.1
    of later false = later

all_leave : (f : Facts) → CallbacksKeep f → (view : View) (names : List (List ℕ)) (cs : List ℤ) (state : State) → IsLike f.names cs state → IsLike f.names cs (state_behind_all f view state names)
all_leave f keep view [] cs state e = e
all_leave f keep view (name ∷ names) cs state e =
    all_leave f keep view names cs (state_behind f view state name) (list_still f (callback_body f name) 0 (keep name) cs ended (λ view state e. e) view state e)

begins_like : (job : Job) → KeepsByParts job → (r : Role) (rank size : ℕ) (before : State) → IsShaped job.names before → IsLike job.names (zero_counters job.names) (body_start (facts_of job) r rank size before)
begins_like job parts role.Initial rank size before shaped = record { counters = refl; shaped = shaped_init (facts_of job) role.Initial before shaped }
begins_like job parts role.Recovered rank size before shaped = record { counters = refl; shaped = shaped_init (facts_of job) role.Recovered before shaped }
begins_like job parts role.Survivor rank size before shaped =
    all_leave (facts_of job) (λ name. callbacks_keep (facts_of job) [] job.callbacks name parts.callbacks) (view_at_init role.Survivor rank size) before.callbacks (zero_counters (facts_of job).names) (at_init (facts_of job) role.Survivor before)
    (record { counters = refl; shaped = shaped_init (facts_of job) role.Survivor before shaped })

pub begins_at_zero : (job : Job) → KeepsByParts job → (r : Role) (rank size : ℕ) (before : State) → IsShaped job.names before → (body_start (facts_of job) r rank size before).counters ≡ zero_counters (facts_of job).names
begins_at_zero job parts r rank size before shaped = (begins_like job parts r rank size before shaped).counters

pub begins_shaped : (job : Job) → KeepsByParts job → (r : Role) (rank size : ℕ) (before : State) → IsShaped job.names before → IsShaped job.names (body_start (facts_of job) r rank size before)
begins_shaped job parts r rank size before shaped = (begins_like job parts r rank size before shaped).shaped

-- a walk that stops in states of the declared shape stops first in such a one
pub stop_shaped : (names : List Decl) (w : Walk) → StaysShaped names w → IsShaped names (state_at (stop_of w []))
stop_shaped names (Ends state) is = is
stop_shaped names (Passes rest) is = stop_shaped names rest is
stop_shaped names (Prints printed rest) is = stop_shaped names rest is
stop_shaped names (Asks place wanted state rest) is = is.0
