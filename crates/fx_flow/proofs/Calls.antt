-- A callback that runs prints what its walk prints, and leaves the state that its walk leaves.
use Rattle.std.proofs.Common.{◌≡◌, ◌<◌, ℕ, ◌+◌, ◌-◌, Bool, true, false, cond, List, [], ◌∷◌, ◌++◌, length, drop, append_assoc, Option, Some, None, Result, Ok, Err, IfOk, OnOk, refl, ap, sym, subst, ◌∙◌, arith}
use Rattle.std.specs.List.{find}
use Rattle.std.specs.Str.{bytes_eq}
use Rattle.std.proofs.lemmas.List.{append-nil}
use Rattle.fx_base.specs.declared.memory.NoMemory.{NoMemory}
use Rattle.fx_script.specs.declared.job.Callback.{Callback}
use Rattle.fx_script.specs.declared.job.Job.{Job}
use Rattle.fx_script.specs.declared.job.Stmt.{Stmt}
use Rattle.fx_check.specs.Acceptance.{stmt_lines, callback_body_lines, callbacks_lines}
use Rattle.fx_check.specs.Facts.{Facts, facts_of, is_call_of}
use Rattle.fx_check.specs.Parts.{KeepRules}
use Rattle.fx_check.specs.Rules.{callback_place}
use Rattle.fx_walk.specs.declared.action.At.TheVariants as at
use Rattle.fx_walk.specs.declared.action.View.{View}
use Rattle.fx_walk.specs.declared.printed.Called.{Called}
use Rattle.fx_walk.specs.declared.printed.Printed.{Printed}
use Rattle.fx_walk.specs.Along.{outputs, stop_of}
use Rattle.fx_walk.specs.Callbacks.{body_or_none, callback_body, callback_run, called_of, calls_of, prints_of, state_at, state_behind, state_behind_all, state_behind_callbacks}
use Rattle.fx_walk.specs.InStep.{job_walk}
use Rattle.fx_walk.specs.State.{State}
use Rattle.fx_walk.specs.Walk.{Walk, walk_of, walks, ended}
use Rattle.fx_flow.specs.declared.instr.Instr.{Instr}
use Rattle.fx_flow.specs.declared.instr.Loop.{Loop}
use Rattle.fx_flow.specs.declared.instr.Routine.{Routine}
use Rattle.fx_flow.specs.Code.{Stand, Moves, acts, start, DeclaresMembers, Leads}
use Rattle.fx_flow.specs.Flowing.{Flowing, state_of, next_of, before, AreRoutines, DoesRest, IsAtBegin, IsRoutine, IsFlowOf, IsDue, Ran, is_routine_of, part_of}
use Rattle.fx_flow.specs.Stands.{moved_to}
use Rattle.fx_flow.proofs.Declared.{declares}
use Rattle.fx_flow.proofs.Following.{stand, lines_front, lines_behind}
use Rattle.fx_flow.proofs.Kept.{acted, from_begin}
use Rattle.fx_flow.proofs.Straight.{Takes, straight}
use Rattle.fx_flow.proofs.Went.{moves_plainly}

-- the statements that are left print what is left, and leave what all of them leave
pub record Running (f : Facts) (code : List Instr) (view : View) (whole rest : List Stmt) (from now : State) (prints : List Printed) (place : ℕ) : Type 0 where
  pub leads : Leads f code place rest 0
  pub before : ℕ
  pub rules : KeepRules (callback_body_lines f before rest)
  pub printed : prints ++ prints_of (outputs (walk_of f rest view now) []) ≡ prints_of (outputs (walk_of f whole view from) [])
  pub leaves : state_at (stop_of (walk_of f rest view now) []) ≡ state_at (stop_of (walk_of f whole view from) [])

abbrev pub told : Option Printed → List Printed
told None = []
told (Some printed) = printed ∷ []

prints_before : (printed : Option Printed) (rest : Walk) → prints_of (outputs (before printed rest) []) ≡ told printed ++ prints_of (outputs rest [])
prints_before None rest = refl
prints_before (Some printed) rest = refl

stop_before : (printed : Option Printed) (rest : Walk) → stop_of (before printed rest) [] ≡ stop_of rest []
stop_before None rest = refl
stop_before (Some printed) rest = refl

same_next : (a b : Option Printed) (c d : Stand) → Moves a c ≡ Moves b d → c ≡ d
same_next a b c d e = cc

same_told : (a b : Option Printed) (c d : Stand) → Moves a c ≡ Moves b d → a ≡ b
same_told a b c d e = cc

-- one statement more
pub ran_one : (f : Facts) (code : List Instr) (view : View) (whole rest : List Stmt) (s : Stmt) (from now : State) (prints : List Printed) (place : ℕ) (opened : List Loop) (printed : Option Printed) (next : Stand)
    → DeclaresMembers f → Running f code view whole (s ∷ rest) from now prints place → acts code view (stand place opened now) ≡ Moves printed next
    → (next.opened ≡ opened) × Running f code view whole rest from next.state (prints ++ told printed) next.place × (next.state.callbacks ≡ now.callbacks)
ran_one f code view whole rest s from now prints place opened printed next declares running is =
    let goes = straight f code declares running.leads running.before running.rules in
    let takes : Takes f code view s place goes.0 opened now = goes.2 view opened now in
    let moves : Moves takes.printed (stand goes.0 opened takes.now) ≡ Moves printed next = sym takes.is ∙ is in
    let there : stand goes.0 opened takes.now ≡ next = same_next takes.printed printed (stand goes.0 opened takes.now) next moves in
    let alike : takes.printed ≡ printed = same_told takes.printed printed (stand goes.0 opened takes.now) next moves in
    let onward = walks f rest false ended in
    let first : prints_of (outputs (walk_of f (s ∷ rest) view now) []) ≡ told takes.printed ++ prints_of (outputs (walk_of f rest view takes.now) []) =
    ap (λ (w : Walk). prints_of (outputs w [])) (takes.walks onward) ∙ prints_before takes.printed (walk_of f rest view takes.now) in
    let last : stop_of (walk_of f (s ∷ rest) view now) [] ≡ stop_of (walk_of f rest view takes.now) [] =
    ap (λ (w : Walk). stop_of w []) (takes.walks onward) ∙ stop_before takes.printed (walk_of f rest view takes.now) in
    let own : Running f code view whole rest from takes.now (prints ++ told takes.printed) goes.0 = record {
      leads = goes.1;
      before = running.before + 1;
      rules = lines_behind (stmt_lines f s (callback_place running.before)) (callback_body_lines f (running.before + 1) rest) running.rules;
      printed = append_assoc prints (told takes.printed) (prints_of (outputs (walk_of f rest view takes.now) [])) ∙ ap (λ (l : List Printed). prints ++ l) (sym first) ∙ running.printed;
      leaves = ap state_at (sym last) ∙ running.leaves;
    } in (
      ap (λ (c : Stand). c.opened) (sym there),
      subst (λ (c : Stand). Running f code view whole rest from c.state (prints ++ told printed) c.place) there
          (subst (λ (p : Option Printed). Running f code view whole rest from takes.now (prints ++ told p) goes.0) alike own),
      ap (λ (c : Stand). c.state.callbacks) (sym there) ∙ takes.kept,
    )

-- nothing is left
pub ran_all : (f : Facts) (code : List Instr) (view : View) (whole : List Stmt) (from now : State) (prints : List Printed) (place : ℕ) → Running f code view whole [] from now prints place
    → (prints ≡ prints_of (outputs (walk_of f whole view from) [])) × (now ≡ state_at (stop_of (walk_of f whole view from) []))
ran_all f code view whole from now prints place running = (sym (append-nil prints) ∙ running.printed, running.leaves)

-- at the beginning nothing is printed
pub ran_none : (f : Facts) (code : List Instr) (view : View) (whole : List Stmt) (from : State) (place : ℕ) → Leads f code place whole 0 → KeepRules (callback_body_lines f 0 whole)
    → Running f code view whole whole from from [] place
ran_none f code view whole from place leads rules = record { leads = leads; before = 0; rules = rules; printed = refl; leaves = refl }

-- ---- the statements of a callback one after another

-- so many statements are left of this body, and nothing but the place and the state changed
pub record Continues (job : Job) (view : View) (body : List Stmt) (old now : Flowing) (prints : List Printed) (left : ℕ) : Type 0 where
  pub rest : List Stmt
  pub counted : left ≡ length rest
  pub same : now ≡ record old { stand = record old.stand { place = now.stand.place; state = state_of now } }
  pub of_job : IsFlowOf job now
  pub registered : (state_of now).callbacks ≡ (state_of old).callbacks
  pub running : Running (facts_of job) now.code view body rest (state_of old) (state_of now) prints now.stand.place

-- at first all are left
pub all_left : (job : Job) (view : View) (body : List Stmt) (flow : Flowing) (count : ℕ) → IsDue job body count flow → Continues job view body flow flow [] count
all_left job view body flow count due = record {
  rest = body;
  counted = due.counted;
  same = refl;
  of_job = due.of_job;
  registered = refl;
  running = ran_none (facts_of job) flow.code view body (state_of flow) flow.stand.place due.leads due.keeps;
}

-- the flow changed in its place and its state alone
pub ran_so_far : (job : Job) (view : View) (body : List Stmt) (old now : Flowing) (prints : List Printed) (left : ℕ) → Continues job view body old now prints left → Ran job old now
ran_so_far job view body old now prints left on = record { same = on.same; shaped = on.of_job.shaped; registered = on.registered }

same_on : (old now next : Flowing) → now ≡ record old { stand = record old.stand { place = now.stand.place; state = state_of now } } → next ≡ record now { stand = next.stand }
    → next.stand.opened ≡ now.stand.opened → next ≡ record old { stand = record old.stand { place = next.stand.place; state = state_of next } }
same_on old now next same moved opened =
    let there : record now { stand = next.stand } ≡ record old { stand = next.stand } = ap (λ (f : Flowing). record f { stand = next.stand }) same in
    let loops : next.stand.opened ≡ old.stand.opened = opened ∙ ap (λ (f : Flowing). f.stand.opened) same in
    moved ∙ there ∙ ap (λ (os : List Loop). record old { stand = record { place = next.stand.place; opened = os; state = state_of next } }) loops

-- a statement that is left is a plain action
plain_by : (job : Job) (view : View) (body rest : List Stmt) (old now : Flowing) (prints : List Printed) → IsFlowOf job now
    → Running (facts_of job) now.code view body rest (state_of old) (state_of now) prints now.stand.place → 0 < length rest → next_of now ≡ at.Plain
plain_by job view body [] old now prints of running some = absurd (omega arith)
plain_by job view body (s ∷ rest) old now prints of running some =
    let goes = straight (facts_of job) now.code (declares job of.accepted) running.leads running.before running.rules in
    let takes = goes.2 view now.stand.opened (state_of now) in
    moves_plainly view now takes.printed (stand goes.0 now.stand.opened takes.now) takes.is

pub plain_where_left : (job : Job) (view : View) (body : List Stmt) (old now : Flowing) (prints : List Printed) (left : ℕ) → Continues job view body old now prints left → 0 < left → next_of now ≡ at.Plain
plain_where_left job view body old now prints left on some =
    plain_by job view body on.rest old now prints on.of_job on.running (subst (λ (n : ℕ). 0 < n) on.counted some)

continues_by : (job : Job) (view : View) (body rest : List Stmt) (old now next : Flowing) (prints : List Printed) (printed : Option Printed) → Continues job view body old now prints (length rest) → 0 < length rest
    → Running (facts_of job) now.code view body rest (state_of old) (state_of now) prints now.stand.place
    → next ≡ record now { stand = next.stand } → acts now.code view now.stand ≡ Moves printed next.stand → Continues job view body old next (prints ++ told printed) (length rest - 1)
continues_by job view body [] old now next prints printed on some running moved is = absurd (omega arith)
continues_by job view body (s ∷ rest) old now next prints printed on some running moved is =
    let f = facts_of job in
    let one = ran_one f now.code view body rest s (state_of old) (state_of now) prints now.stand.place now.stand.opened printed next.stand (declares job on.of_job.accepted) running is in
    let code : next.code ≡ now.code = ap (λ (g : Flowing). g.code) moved in
    record {
      rest = rest;
      counted = omega arith;
      same = same_on old now next on.same moved one.0;
      of_job = acted view now next printed moved is job on.of_job;
      registered = one.2 ∙ on.registered;
      running = subst (λ (c : List Instr). Running f c view body rest (state_of old) (state_of next) (prints ++ told printed) next.stand.place) (sym code) one.1;
    }

-- one action more
pub one_less : (job : Job) (view : View) (body : List Stmt) (old now next : Flowing) (prints : List Printed) (left : ℕ) (printed : Option Printed) → Continues job view body old now prints left → 0 < left
    → next ≡ record now { stand = next.stand } → acts now.code view now.stand ≡ Moves printed next.stand → Continues job view body old next (prints ++ told printed) (left - 1)
one_less job view body old now next prints left printed on some moved is =
    let long : length on.rest ≡ left = sym on.counted in
    subst (λ (n : ℕ). Continues job view body old next (prints ++ told printed) (n - 1)) long
    (continues_by job view body on.rest old now next prints printed (subst (Continues job view body old now prints) on.counted on) (subst (λ (n : ℕ). 0 < n) on.counted some) on.running moved is)

ends_by : (job : Job) (view : View) (body rest : List Stmt) (old now : Flowing) (prints : List Printed) → 0 ≡ length rest
    → Running (facts_of job) now.code view body rest (state_of old) (state_of now) prints now.stand.place
    → (prints ≡ prints_of (outputs (walk_of (facts_of job) body view (state_of old)) [])) × (state_of now ≡ state_at (stop_of (walk_of (facts_of job) body view (state_of old)) []))
ends_by job view body [] old now prints none running = ran_all (facts_of job) now.code view body (state_of old) (state_of now) prints now.stand.place running
ends_by job view body (s ∷ rest) old now prints none running = absurd (omega arith)

-- nothing is left
pub none_left : (job : Job) (view : View) (body : List Stmt) (old now : Flowing) (prints : List Printed) (left : ℕ) → Continues job view body old now prints left → left ≡ 0
    → (prints ≡ prints_of (outputs (walk_of (facts_of job) body view (state_of old)) [])) × (state_of now ≡ state_at (stop_of (walk_of (facts_of job) body view (state_of old)) []))
none_left job view body old now prints left on none = ends_by job view body on.rest old now prints (sym none ∙ on.counted) on.running

-- ---- the code of a callback

-- where the code of a body begins, and how many statements it has; a callback that isn't declared does nothing
abbrev pub IsPartOf : Facts → List Instr → List Stmt → Option (ℕ × ℕ) → Type 0
IsPartOf f code body None = body ≡ []
IsPartOf f code body (Some part) = Leads f code part.0 body 0 × KeepRules (callback_body_lines f 0 body) × (part.1 ≡ length body)

part_by : (f : Facts) (code : List Instr) (routine : Routine) (callback : Callback) (later : Option Routine) (more : Option Callback) (b : Bool) → IsRoutine f code routine callback
    → KeepRules (callback_body_lines f 0 callback.body) → IsPartOf f code (body_or_none more) (part_of later)
    → IsPartOf f code (body_or_none (cond b (Some callback) more)) (part_of (cond b (Some routine) later))
part_by f code routine callback later more true is keep behind = (is.is_code.leads, keep, is.same_count)
part_by f code routine callback later more false is keep behind = behind

-- the routine of a name has the code of the callback of that name
pub part_found : (f : Facts) (code : List Instr) (name : List ℕ) (before callbacks : List Callback) (routines : List Routine) → AreRoutines f code routines callbacks → KeepRules (callbacks_lines f before callbacks)
    → IsPartOf f code (body_or_none (find (is_call_of name) callbacks)) (part_of (find (is_routine_of name) routines))
part_found f code name before [] [] are keep = refl
part_found f code name before [] (routine ∷ routines) are keep = absurd are
part_found f code name before (callback ∷ callbacks) [] are keep = absurd are
part_found f code name before (callback ∷ callbacks) (routine ∷ routines) are keep =
    let lines = callbacks_lines f (before ++ callback ∷ []) callbacks in
    let behind = part_found f code name (before ++ callback ∷ []) callbacks routines are.1 (lines_behind (callback_body_lines f 0 callback.body) lines keep.1) in
    let both = part_by f code routine callback (find (is_routine_of name) routines) (find (is_call_of name) callbacks) (bytes_eq callback.name name) are.0 (lines_front (callback_body_lines f 0 callback.body) lines keep.1) behind in
    subst (λ (own : List ℕ). IsPartOf f code (body_or_none (cond (bytes_eq callback.name name) (Some callback) (find (is_call_of name) callbacks))) (part_of (cond (bytes_eq own name) (Some routine) (find (is_routine_of name) routines))))
    (sym are.0.same_name) both

-- ---- one callback

abbrev called : List ℕ → List Printed → Called
called name prints = record { name = name; prints = prints }

-- where the code of a callback begins its statements come next
call_due : (job : Job) (flow : Flowing) (c : Stand) (name : List ℕ) (part : ℕ × ℕ) → Some part ≡ part_of (find (is_routine_of name) flow.routines) → c ≡ moved_to part.0 flow.stand → IsFlowOf job flow
    → IsDue job (callback_body (facts_of job) name) part.1 (record flow { stand = c })
call_due job flow c name part is at of =
    let f = facts_of job in
    let found = part_found f flow.code name [] job.callbacks flow.routines of.are_routines of.accepted.callbacks in
    let here : IsPartOf f flow.code (callback_body f name) (Some part) = subst (IsPartOf f flow.code (callback_body f name)) (sym is) found in
    let due : IsDue job (callback_body f name) part.1 (record flow { stand = moved_to part.0 flow.stand }) = record {
      of_job = record { accepted = of.accepted; is_code = of.is_code; are_routines = of.are_routines; shaped = of.shaped };
      leads = here.0;
      keeps = here.1;
      counted = here.2;
    } in subst (λ (d : Stand). IsDue job (callback_body f name) part.1 (record flow { stand = d })) (sym at) due

pub call_prints : (r : Result (List Printed) NoMemory) (view : View) (flow : Flowing) (c : Stand) (name : List ℕ) (part : ℕ × ℕ) → Some part ≡ part_of (find (is_routine_of name) flow.routines)
    → c ≡ moved_to part.0 flow.stand
    → IfOk r (λ prints. (job : Job) (body : List Stmt) → IsDue job body part.1 (record flow { stand = c }) → prints ≡ prints_of (outputs (walk_of (facts_of job) body view c.state) []))
    → IfOk r (λ prints. (job : Job) → IsFlowOf job flow → record { name = name; prints = prints } ≡ called_of (facts_of job) view (state_of flow) name)
call_prints (Ok prints) view flow c name part is at told = λ job of.
    let body = callback_body (facts_of job) name in
    let same : prints ≡ prints_of (outputs (walk_of (facts_of job) body view (state_of flow)) []) =
    told job body (call_due job flow c name part is at of) ∙ ap (λ (d : Stand). prints_of (outputs (walk_of (facts_of job) body view d.state) [])) at in
    ap (λ (p : List Printed). called name p) same
call_prints (Err e) view flow c name part is at told = tt

pub call_leaves : (r : Result (List Printed) NoMemory) (view : View) (flow new : Flowing) (c : Stand) (name : List ℕ) (part : ℕ × ℕ) → Some part ≡ part_of (find (is_routine_of name) flow.routines)
    → c ≡ moved_to part.0 flow.stand
    → OnOk r ((job : Job) (body : List Stmt) → IsDue job body part.1 (record flow { stand = c }) → state_of new ≡ state_at (stop_of (walk_of (facts_of job) body view c.state) []))
    → OnOk r ((job : Job) → IsFlowOf job flow → state_of new ≡ state_behind (facts_of job) view (state_of flow) name)
call_leaves (Ok prints) view flow new c name part is at leaves = λ job of.
    let body = callback_body (facts_of job) name in
    leaves job body (call_due job flow c name part is at of) ∙ ap (λ (d : Stand). state_at (stop_of (walk_of (facts_of job) body view d.state) [])) at
call_leaves (Err e) view flow new c name part is at leaves = tt

pub call_stays : (flow new : Flowing) (c : Stand) (name : List ℕ) (part : ℕ × ℕ) → Some part ≡ part_of (find (is_routine_of name) flow.routines) → c ≡ moved_to part.0 flow.stand
    → ((job : Job) (body : List Stmt) → IsDue job body part.1 (record flow { stand = c }) → Ran job (record flow { stand = c }) new) → (job : Job) → IsFlowOf job flow → Ran job flow new
call_stays flow new c name part is at stays job of =
    let ran = stays job (callback_body (facts_of job) name) (call_due job flow c name part is at of) in
    record {
      same = ran.same ∙ ap (λ (d : Stand). record flow { stand = record d { place = new.stand.place; state = state_of new } }) at;
      shaped = ran.shaped;
      registered = ran.registered ∙ ap (λ (d : Stand). d.state.callbacks) at;
    }

-- a callback without code has no statements
no_body : (job : Job) (flow : Flowing) (name : List ℕ) → None ≡ part_of (find (is_routine_of name) flow.routines) → IsFlowOf job flow → callback_body (facts_of job) name ≡ []
no_body job flow name is of =
    let f = facts_of job in
    let found = part_found f flow.code name [] job.callbacks flow.routines of.are_routines of.accepted.callbacks in
    let here : IsPartOf f flow.code (callback_body f name) None = subst (IsPartOf f flow.code (callback_body f name)) (sym is) found in here

pub nothing_printed : (job : Job) (view : View) (flow : Flowing) (name : List ℕ) → None ≡ part_of (find (is_routine_of name) flow.routines) → IsFlowOf job flow
    → called name [] ≡ called_of (facts_of job) view (state_of flow) name
nothing_printed job view flow name is of =
    ap (λ (body : List Stmt). called name (prints_of (outputs (walk_of (facts_of job) body view (state_of flow)) []))) (sym (no_body job flow name is of))

pub nothing_left_behind : (job : Job) (view : View) (flow : Flowing) (name : List ℕ) → None ≡ part_of (find (is_routine_of name) flow.routines) → IsFlowOf job flow
    → state_of flow ≡ state_behind (facts_of job) view (state_of flow) name
nothing_left_behind job view flow name is of = ap (λ (body : List Stmt). state_at (stop_of (walk_of (facts_of job) body view (state_of flow)) [])) (sym (no_body job flow name is of))

-- ---- the callbacks one after another

-- those from this one on are left
pub record Calls (job : Job) (view : View) (old now : Flowing) (run : List Called) (at : ℕ) : Type 0 where
  pub ran : Ran job old now
  pub told : run ++ calls_of (facts_of job) view (state_of now) (drop at (state_of old).callbacks) ≡ callback_run (facts_of job) view (state_of old)
  pub leaves : state_behind_all (facts_of job) view (state_of now) (drop at (state_of old).callbacks) ≡ state_behind_callbacks (facts_of job) view (state_of old)

-- back at the beginning of the body the walk begins from the state that they leave
pub run_begins : (job : Job) (old now : Flowing) (c : Stand) (place : ℕ) → place ≡ old.stand.place → c ≡ moved_to place now.stand → Ran job old now → IsFlowOf job old → IsAtBegin old
    → (view : View) → DoesRest view (job_walk job view c.state) (record now { stand = c })
run_begins job old now c place same at ran of begins view =
    let there : Flowing = record old { stand = start old.begin (state_of now) } in
    let of_job : IsFlowOf job there = record { accepted = of.accepted; is_code = of.is_code; are_routines = of.are_routines; shaped = ran.shaped } in
    let back : record now { stand = c } ≡ there =
    ap (λ (d : Stand). record now { stand = d }) at ∙ ap (λ (p : ℕ). record now { stand = record now.stand { place = p } }) same
    ∙ ap (λ (f : Flowing). record f { stand = record f.stand { place = old.stand.place } }) ran.same ∙ ap (λ (d : Stand). record old { stand = record d { state = state_of now } }) begins in
    subst (λ (f : Flowing). DoesRest view (job_walk job view (state_of f)) f) (sym back) (from_begin job there (state_of now) of_job refl view)
