-- The body of a job whose lines can all be run asks nothing of data groups.
use Rattle.std.proofs.Common.{◌≡◌, Bool, true, false, if◌then◌else◌, List, [], ◌∷◌, ◌++◌, map, Option, Some, None, refl, sym, subst}
use Rattle.std.specs.List.{list_all}
use Rattle.fx_base.specs.declared.spot.Spot.{Spot}
use Rattle.fx_script.specs.declared.job.Job.{Job}
use Rattle.fx_script.specs.declared.job.Stmt.{Stmt}
use Rattle.fx_script.specs.declared.job.Stmt.TheOpen.{Stmt-F}
use Rattle.fx_script.specs.declared.job.Stmt.TheViews.{roll-Stmt}
use Rattle.fx_script.specs.declared.job.Stmt.TheFolds.{fold-roll-Stmt, map-Stmt, ind-Stmt}
use Rattle.fx_script.specs.Spelling.{IsWritable, chained}
use Rattle.fx_check.specs.Facts.{facts_of}
use Rattle.fx_walk.specs.declared.wanted.Wanted.{Wanted}
use Rattle.fx_walk.specs.declared.wanted.Wanted.TheVariants as wanted
use Rattle.fx_walk.specs.Lengths.{all_true}
use Rattle.fx_walk.specs.Walk.{Asks, Ends, Passes, Prints, Walk, walk_of}
use Rattle.fx_calls.specs.Bodies.{AsksNoGroups, IsOfNoGroup, OnlyAsks, groupless_level, is_groupless}
use Rattle.fx_calls.proofs.Groupless.{groupless_calls}
use Rattle.fx_node.specs.Asking.{AsksCarried, OnlyCarried, is_carried}
use Rattle.fx_cli.specs.Built.{Mark, first_in, stmt_marks_level, stmt_marks, body_marks, first_unbuilt}

-- a first line that can be run, and no other that can't
built_first : (built : Bool) (spot : Spot) (later : Option Spot) → (if built then later else Some spot) ≡ None → (built ≡ true) × (later ≡ None)
built_first true spot later e = (refl, e)
built_first false spot later e = absurd cc

both_built : (a b : List Mark) → first_in (a ++ b) ≡ None → (first_in a ≡ None) × (first_in b ≡ None)
both_built [] b e = (refl, e)
both_built (m ∷ a) b e =
    let first = built_first m.built m.spot (first_in (a ++ b)) e in
    let rest = both_built a b first.1 in
    (rw first.0 rest.0, rest.1)

-- ---- statements

abbrev IsGrouplessIfBuilt : Stmt → Type 0
IsGrouplessIfBuilt s = first_in (stmt_marks s) ≡ None → is_groupless s ≡ true

groupless_rolled : (x : Stmt-F Stmt) → (first_in (stmt_marks_level (map-Stmt Stmt (List Mark) stmt_marks x)) ≡ None → groupless_level (map-Stmt Stmt Bool is_groupless x) ≡ true) → IsGrouplessIfBuilt (roll-Stmt x)
groupless_rolled x level built =
    subst (λ (b : Bool). b ≡ true) (sym (fold-roll-Stmt Bool groupless_level x))
    (level (subst (λ (ms : List Mark). first_in ms ≡ None) (fold-roll-Stmt (List Mark) stmt_marks_level x) built))

groupless_list : (ts : List ((s : Stmt) × IsGrouplessIfBuilt s)) → first_in (chained (map stmt_marks (map (λ t. t.0) ts))) ≡ None → all_true (map is_groupless (map (λ t. t.0) ts)) ≡ true
groupless_list [] built = refl
groupless_list (t ∷ ts) built =
    let both = both_built (stmt_marks t.0) (chained (map stmt_marks (map (λ (t : (s : Stmt) × IsGrouplessIfBuilt s). t.0) ts))) built in
    rw (t.1 both.0, groupless_list ts both.1) refl

level_is : (y : Stmt-F ((s : Stmt) × IsGrouplessIfBuilt s)) → IsGrouplessIfBuilt (roll-Stmt (map-Stmt ((s : Stmt) × IsGrouplessIfBuilt s) Stmt (λ t. t.0) y))
level_is (Stmt-F.Let spot array value) = groupless_rolled (Stmt-F.Let spot array value) (λ built. refl)
level_is (Stmt-F.Set spot counter value) = groupless_rolled (Stmt-F.Set spot counter value) (λ built. refl)
level_is (Stmt-F.Print spot name) = groupless_rolled (Stmt-F.Print spot name) (λ built. refl)
level_is (Stmt-F.Register spot name) = groupless_rolled (Stmt-F.Register spot name) (λ built. refl)
level_is (Stmt-F.RoleOnly spot role ts) = groupless_rolled (Stmt-F.RoleOnly spot role (map (λ t. t.0) ts)) (λ built. groupless_list ts built)
level_is (Stmt-F.Branch spot test left right ts None) = groupless_rolled (Stmt-F.Branch spot test left right (map (λ t. t.0) ts) None)
    (λ built. rw (groupless_list ts (both_built (chained (map stmt_marks (map (λ (t : (s : Stmt) × IsGrouplessIfBuilt s). t.0) ts))) [] built).0) refl)
level_is (Stmt-F.Branch spot test left right ts (Some us)) = groupless_rolled (Stmt-F.Branch spot test left right (map (λ t. t.0) ts) (Some (map (λ t. t.0) us)))
    (λ built.
    let both = both_built (chained (map stmt_marks (map (λ (t : (s : Stmt) × IsGrouplessIfBuilt s). t.0) ts))) (chained (map stmt_marks (map (λ (t : (s : Stmt) × IsGrouplessIfBuilt s). t.0) us))) built in
    rw (groupless_list ts both.0, groupless_list us both.1) refl)
level_is (Stmt-F.Loop spot counter first last ts) = groupless_rolled (Stmt-F.Loop spot counter first last (map (λ t. t.0) ts)) (λ built. groupless_list ts built)
level_is (Stmt-F.Barrier spot) = groupless_rolled (Stmt-F.Barrier spot) (λ built. refl)
level_is (Stmt-F.Reduce spot o counter array) = groupless_rolled (Stmt-F.Reduce spot o counter array) (λ built. refl)
level_is (Stmt-F.Agree spot counter array index) = groupless_rolled (Stmt-F.Agree spot counter array index) (λ built. refl)
level_is (Stmt-F.Shift spot source target by) = groupless_rolled (Stmt-F.Shift spot source target by) (λ built. refl)
level_is (Stmt-F.Group spot group start depth) = groupless_rolled (Stmt-F.Group spot group start depth) (λ built. absurd cc)
level_is (Stmt-F.Member spot group member array) = groupless_rolled (Stmt-F.Member spot group member array) (λ built. absurd cc)
level_is (Stmt-F.Store spot group member subset) = groupless_rolled (Stmt-F.Store spot group member subset) (λ built. absurd cc)
level_is (Stmt-F.Commit spot group) = groupless_rolled (Stmt-F.Commit spot group) (λ built. absurd cc)
level_is (Stmt-F.CommitBarrier spot group) = groupless_rolled (Stmt-F.CommitBarrier spot group) (λ built. absurd cc)
level_is (Stmt-F.Restore spot group member stamp) = groupless_rolled (Stmt-F.Restore spot group member stamp) (λ built. absurd cc)
level_is (Stmt-F.Drop spot group stamp) = groupless_rolled (Stmt-F.Drop spot group stamp) (λ built. absurd cc)

all_groupless : (s : Stmt) → IsGrouplessIfBuilt s
all_groupless = ind-Stmt IsGrouplessIfBuilt (λ x y is. subst (λ x. IsGrouplessIfBuilt (roll-Stmt x)) is (level_is y))

groupless_body : (body : List Stmt) → first_in (body_marks body) ≡ None → list_all is_groupless body ≡ true
groupless_body [] built = refl
groupless_body (s ∷ body) built =
    let both = both_built (stmt_marks s) (body_marks body) built in
    rw (all_groupless s both.0, groupless_body body both.1) refl

-- ---- jobs

pub asks_no_groups : (job : Job) → IsWritable job → first_unbuilt job ≡ None → AsksNoGroups job
asks_no_groups job writable built view state = groupless_calls (facts_of job) job.body 64 writable.body (groupless_body job.body built) view state

-- all calls on no data group are carried out
call_is_carried : (w : Wanted) → IsOfNoGroup w → is_carried w ≡ true
call_is_carried wanted.Barrier is = refl
call_is_carried (wanted.Reduce op own) is = refl
call_is_carried (wanted.Shift by elements) is = refl
call_is_carried (wanted.Agree flag) is = refl
call_is_carried other is = absurd is

calls_carried : (walk : Walk) → OnlyAsks IsOfNoGroup walk → OnlyCarried walk
calls_carried (Ends state) only = tt
calls_carried (Passes rest) only = calls_carried rest only
calls_carried (Prints printed rest) only = (only.0, calls_carried rest only.1)
calls_carried (Asks place wanted state rest) only = (call_is_carried wanted only.0, λ reply. calls_carried (rest reply) (only.1 reply))

pub calls_are_carried : (job : Job) → AsksNoGroups job → AsksCarried job
calls_are_carried job asks view state = calls_carried (walk_of (facts_of job) job.body view state) (asks view state)
