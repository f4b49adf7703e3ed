-- Flat code follows the walk of its statements.
use Rattle.std.proofs.Common.{◌≡◌, ℕ, zero, suc, ◌+◌, ◌-◌, Bool, true, false, List, [], ◌∷◌, ◌++◌, map, Some, None, refl, ap, sym, subst, ◌∙◌, arith, get_or}
use Rattle.std.specs.Prelude.{ℤ, pos, if◌then◌else◌, slice_get}
use Rattle.fx_script.specs.declared.expr.Expr.{Expr}
use Rattle.fx_script.specs.declared.job.Stmt.{Stmt}
use Rattle.fx_script.specs.declared.job.Stmt.TheVariants as stmt
use Rattle.fx_script.specs.declared.job.Stmt.TheOpen.{Stmt-F}
use Rattle.fx_script.specs.declared.job.Stmt.TheViews.{roll-Stmt}
use Rattle.fx_script.specs.declared.job.Stmt.TheFolds.{fold-roll-Stmt, map-Stmt}
use Rattle.fx_script.specs.declared.job.Test.{Test}
use Rattle.fx_check.specs.declared.surroundings.Surroundings.{Surroundings}
use Rattle.fx_check.specs.Acceptance.{Line, lines_at, stmt_line, stmt_lines_level, stmt_lines, stmts_lines}
use Rattle.fx_check.specs.Facts.{Facts, is_array}
use Rattle.fx_check.specs.Parts.{KeepsRules, KeepRules}
use Rattle.fx_check.specs.Rules.{count_of, inside_when, inside_if, inside_for, expr_groups_fit, is_between}
use Rattle.std.proofs.lemmas.Bool.{and_parts}
use Rattle.fx_walk.specs.declared.action.View.{View}
use Rattle.fx_walk.specs.State.{State, counter_slot, array_slot, with_counter, with_elements, with_callback, elements_of}
use Rattle.fx_walk.specs.Values.{sight, value_of, values_from, holds}
use Rattle.fx_walk.specs.Walk.{Walk, Passes, Onward, Meaning, looped, turns_of, printed_of, is_same_role, view_after, walk_level, walk, walks, walk_of, ended}
use Rattle.fx_value.specs.Terms.{term_of, term_value}
use Rattle.fx_flow.specs.declared.instr.Instr.{Instr}
use Rattle.fx_flow.specs.declared.instr.Instr.TheVariants as instr
use Rattle.fx_flow.specs.declared.instr.Variable.TheVariants as variable
use Rattle.fx_flow.specs.declared.instr.Loop.{Loop}
use Rattle.fx_flow.specs.Code.{Stand, Moves, goes, tests, values_at, acts_on, acts, takes_on, Follows, start, variable_of, DeclaresMembers, Leads, Nothing, DoesLet, DoesSet, DoesPrint, DoesRegister, DoesWhen, DoesIf, DoesIfAlone, DoesFor, DoesOutward, IsCode}
use Rattle.fx_flow.specs.Outward.{taken_by}
use Rattle.fx_value.proofs.TermLemmas.{term_value-term_of, term_values-term_of}

-- ---- lines

pub lines_front : (a b : List Line) → KeepRules (a ++ b) → KeepRules a
lines_front [] b keep = tt
lines_front (l ∷ a) b keep = (keep.0, lines_front a b keep.1)

pub lines_behind : (a b : List Line) → KeepRules (a ++ b) → KeepRules b
lines_behind [] b keep = keep
lines_behind (l ∷ a) b keep = lines_behind a b keep.1

-- the rules of a statement are those of its first line and of the lines in it
pub lines_opened : (f : Facts) (x : Stmt-F Stmt) (s : Stmt) → roll-Stmt x ≡ s → (p : Surroundings) → KeepRules (stmt_lines f s p)
    → KeepRules (stmt_lines_level f (map-Stmt Stmt (Surroundings → List Line) (stmt_lines f) x) p)
lines_opened f x s is p keep =
    subst (λ (l : Surroundings → List Line). KeepRules (l p)) (ap (stmt_lines f) (sym is) ∙ fold-roll-Stmt (Surroundings → List Line) (stmt_lines_level f) x) keep

-- the first line of a statement says nothing of the statements in it
line_mapped : (f : Facts) (p : Surroundings) (x : Stmt-F Stmt) → stmt_line f p (map-Stmt Stmt (Surroundings → List Line) (stmt_lines f) x) ≡ stmt_line f p x
line_mapped f p (Stmt-F.Barrier spot) = refl
line_mapped f p other = refl

pub first_line : (f : Facts) (x : Stmt-F Stmt) (s : Stmt) → roll-Stmt x ≡ s → (p : Surroundings) → KeepRules (stmt_lines f s p) → KeepsRules (stmt_line f p x)
first_line f x s is p keep = subst KeepsRules (line_mapped f p x) (lines_opened f x s is p keep).0

-- ---- steps

abbrev pub stand : ℕ → List Loop → State → Stand
stand p os state = record { place = p; opened = os; state = state }

-- from this place, with these loops open, the code does what comes then
abbrev pub From : List Instr → Onward → ℕ → List Loop → Type 0
From code k p os = (view : View) (state : State) → Follows code (k view state) view (stand p os state)

-- the statement in front is opened
opened : (f : Facts) (code : List Instr) (x : Stmt-F Stmt) (s : Stmt) → roll-Stmt x ≡ s → (inside : Bool) (k : Onward) (p : ℕ) (os : List Loop)
    → From code (walk_level f (map-Stmt Stmt Meaning (walk f) x) inside k) p os → From code (walk f s inside k) p os
opened f code x s is inside k p os from =
    subst (λ (m : Meaning). From code (m inside k) p os) (sym (ap (walk f) (sym is) ∙ fold-roll-Stmt Meaning (walk_level f) x)) from

-- what the instruction here does
pub does : (code : List Instr) (view : View) (c : Stand) (i : Instr) → slice_get code c.place ≡ Some i → acts code view c ≡ acts_on view c (Some i)
does code view c i is = ap (acts_on view c) is

-- an action that leads to another stand goes on from there
moved : (code : List Instr) (rest : Walk) (view : View) (c next : Stand) → acts code view c ≡ Moves None next → Follows code rest view next → Follows code (Passes rest) view c
moved code rest view c next is follows = (next, is, follows)

-- either side of a test
chosen : (code : List Instr) (b : Bool) (x y : Onward) (p q : ℕ) (os : List Loop) → From code x p os → From code y q os
    → (view : View) (state : State) → Follows code (if b then x view state else y view state) view (stand (if b then p else q) os state)
chosen code true x y p q os one other view state = one view state
chosen code false x y p q os one other view state = other view state

-- what is printed
pub printed_same : (f : Facts) (state : State) (name : List ℕ) → values_at state (variable_of f name) ≡ (printed_of f state name).values
printed_same f state name = by_kind (is_array f.names name) (array_slot f.names name) (counter_slot f.names name) where
  by_kind : (b : Bool) (i j : ℕ) → values_at state (if b then variable.Array i else variable.Counter j) ≡ (if b then get_or state.arrays i [] else get_or state.counters j (pos 0) ∷ [])
  by_kind true i j = refl
  by_kind false i j = refl

-- the test of a branch
tested : (f : Facts) (code : List Instr) (test : Test) (left right : Expr) (p q : ℕ) (os : List Loop) (view : View) (state : State)
    → goes (if holds test (term_value (term_of f.names left) (sight view state)) (term_value (term_of f.names right) (sight view state)) then p else q) os state
    ≡ goes (if holds test (value_of f left (sight view state)) (value_of f right (sight view state)) then p else q) os state
tested f code test left right p q os view state =
    ap (λ (n : ℤ). goes (if holds test n (term_value (term_of f.names right) (sight view state)) then p else q) os state) (term_value-term_of f left (sight view state))
    ∙ ap (λ (n : ℤ). goes (if holds test (value_of f left (sight view state)) n then p else q) os state) (term_value-term_of f right (sight view state))

-- ---- loops

-- the turns of a loop that are left, where the next one has the value that leaves the others up to the last
turning : (f : Facts) (code : List Instr) (counter : List ℕ) (last : ℕ) (body : Meaning) (inside : Bool) (k : Onward) (a m : ℕ) (os : List Loop)
    → slice_get code 0 ≡ Some instr.End
    → ((k : Onward) (os : List Loop) → From code k 0 os → From code (body inside k) a os)
    → From code k m os
    → (n value : ℕ) → ((left : ℕ) → n ≡ suc left → value + left ≡ last) → (view : View) (state : State) (c : Stand)
    → acts code view c ≡ tests (counter_slot f.names counter) last a m n os state
    → Follows code (looped f counter body n value inside k view state) view c
turning f code counter last body inside k a m os end inner after zero value due view state c is = (stand m os state, is, after view state)
turning f code counter last body inside k a m os end inner after (suc n) value due view state c is =
    let loop : Loop = record { counter = counter_slot f.names counter; last = last; inside = a; next = m; turns = n } in
    let sum : value + n ≡ last = due n refl in
    let here : last - n ≡ value = omega (arith, sum) in
    let more : (left : ℕ) → n ≡ suc left → (value + 1) + left ≡ last = λ left e. omega (arith, sum, e) in
    let back : From code (looped f counter body n (value + 1) inside k) 0 (loop ∷ os) =
    (λ view state. turning f code counter last body inside k a m os end inner after n (value + 1) more view state (stand 0 (loop ∷ os) state) (does code view (stand 0 (loop ∷ os) state) instr.End end)) in (
      stand a (loop ∷ os) (with_counter f state counter (pos value)),
      is ∙ ap (λ (v : ℕ). goes a (loop ∷ os) (with_counter f state counter (pos v))) here,
      inner (looped f counter body n (value + 1) inside k) (loop ∷ os) back view (with_counter f state counter (pos value)),
    )

-- with the turns of the statement the last one has the last value
turns_due : (first last : ℕ) (left : ℕ) → suc last - first ≡ suc left → first + left ≡ last
turns_due first last left e = omega (arith, e)

-- ---- statements

same_lines : (f : Facts) (ss : List Stmt) (p : Surroundings) → stmts_lines f ss p ≡ lines_at (map (stmt_lines f) ss) p
same_lines f [] p = refl
same_lines f (s ∷ ss) p = ap (λ (l : List Line). stmt_lines f s p ++ l) (same_lines f ss p)

pub leads : (f : Facts) (code : List Instr) → slice_get code 0 ≡ Some instr.End → DeclaresMembers f → {p q : ℕ} {ss : List Stmt} → Leads f code p ss q → (place : Surroundings) → KeepRules (lines_at (map (stmt_lines f) ss) place)
    → (inside : Bool) (k : Onward) (os : List Loop) → From code k q os → From code (walks f ss inside k) p os
leads f code end declares Nothing place keep inside k os from = from
leads f code end declares (DoesLet {p} {m} {q} {ss} spot array value is next) place keep inside k os from =
    let s = stmt.Let spot array value in
    let rest = leads f code end declares next place (lines_behind (stmt_lines f s place) (lines_at (map (stmt_lines f) ss) place) keep) inside k os from in
    opened f code (Stmt-F.Let spot array value) s (stmt.rolls-Let spot array value) inside (walks f ss inside k) p os
    (λ view state. (
      _,
      does code view (stand p os state) _ is ∙ ap (λ (elements : List ℤ). goes m os (with_elements f state array elements)) (term_values-term_of f value (sight view state) 0 (elements_of f state array)),
      rest view (with_elements f state array (values_from f value (sight view state) 0 (elements_of f state array))),
    ))
leads f code end declares (DoesSet {p} {m} {q} {ss} spot counter value is next) place keep inside k os from =
    let s = stmt.Set spot counter value in
    let rest = leads f code end declares next place (lines_behind (stmt_lines f s place) (lines_at (map (stmt_lines f) ss) place) keep) inside k os from in
    opened f code (Stmt-F.Set spot counter value) s (stmt.rolls-Set spot counter value) inside (walks f ss inside k) p os
    (λ view state. (
      _,
      does code view (stand p os state) _ is ∙ ap (λ (n : ℤ). goes m os (with_counter f state counter n)) (term_value-term_of f value (sight view state)),
      rest view (with_counter f state counter (value_of f value (sight view state))),
    ))
leads f code end declares (DoesPrint {p} {m} {q} {ss} spot name is next) place keep inside k os from =
    let s = stmt.Print spot name in
    let rest = leads f code end declares next place (lines_behind (stmt_lines f s place) (lines_at (map (stmt_lines f) ss) place) keep) inside k os from in
    opened f code (Stmt-F.Print spot name) s (stmt.rolls-Print spot name) inside (walks f ss inside k) p os
    (λ view state. (
      _,
      does code view (stand p os state) _ is ∙ ap (λ (values : List ℤ). Moves (Some (record { name = name; values = values })) (stand m os state)) (printed_same f state name),
      rest view state,
    ))
leads f code end declares (DoesRegister {p} {m} {q} {ss} spot name is next) place keep inside k os from =
    let s = stmt.Register spot name in
    let rest = leads f code end declares next place (lines_behind (stmt_lines f s place) (lines_at (map (stmt_lines f) ss) place) keep) inside k os from in
    opened f code (Stmt-F.Register spot name) s (stmt.rolls-Register spot name) inside (walks f ss inside k) p os
    (λ view state. (_, does code view (stand p os state) _ is, rest view (with_callback state name)))
leads f code end declares (DoesWhen {p} {a} {m} {q} {ss} spot role body is within next) place keep inside k os from =
    let s = stmt.RoleOnly spot role body in
    let is_rolled = stmt.rolls-RoleOnly spot role body in
    let rest = leads f code end declares next place (lines_behind (stmt_lines f s place) (lines_at (map (stmt_lines f) ss) place) keep) inside k os from in
    let own = lines_opened f (Stmt-F.RoleOnly spot role body) s is_rolled place (lines_front (stmt_lines f s place) (lines_at (map (stmt_lines f) ss) place) keep) in
    opened f code (Stmt-F.RoleOnly spot role body) s is_rolled inside (walks f ss inside k) p os
    (λ view state. (
      _,
      does code view (stand p os state) _ is,
      chosen code (is_same_role role view.role) (walks f body true (walks f ss inside k)) (walks f ss inside k) a m os
          (leads f code end declares within (inside_when place) own.1 true (walks f ss inside k) os rest) rest view state,
    ))
leads f code end declares (DoesIf {p} {a} {b} {m} {q} {ss} spot test left right body other is within outside next) place keep inside k os from =
    let s = stmt.Branch spot test left right body (Some other) in
    let is_rolled = stmt.rolls-Branch spot test left right body (Some other) in
    let rest = leads f code end declares next place (lines_behind (stmt_lines f s place) (lines_at (map (stmt_lines f) ss) place) keep) inside k os from in
    let own = lines_opened f (Stmt-F.Branch spot test left right body (Some other)) s is_rolled place (lines_front (stmt_lines f s place) (lines_at (map (stmt_lines f) ss) place) keep) in
    opened f code (Stmt-F.Branch spot test left right body (Some other)) s is_rolled inside (walks f ss inside k) p os
    (λ view state. (
      _,
      does code view (stand p os state) _ is ∙ tested f code test left right a b os view state,
      chosen code (holds test (value_of f left (sight view state)) (value_of f right (sight view state))) (walks f body inside (walks f ss inside k)) (walks f other inside (walks f ss inside k)) a b os
          (leads f code end declares within (inside_if place) (lines_front _ _ own.1) inside (walks f ss inside k) os rest)
          (leads f code end declares outside (inside_if place) (lines_behind _ _ own.1) inside (walks f ss inside k) os rest) view state,
    ))
leads f code end declares (DoesIfAlone {p} {a} {m} {q} {ss} spot test left right body is within next) place keep inside k os from =
    let s = stmt.Branch spot test left right body None in
    let is_rolled = stmt.rolls-Branch spot test left right body None in
    let rest = leads f code end declares next place (lines_behind (stmt_lines f s place) (lines_at (map (stmt_lines f) ss) place) keep) inside k os from in
    let own = lines_opened f (Stmt-F.Branch spot test left right body None) s is_rolled place (lines_front (stmt_lines f s place) (lines_at (map (stmt_lines f) ss) place) keep) in
    opened f code (Stmt-F.Branch spot test left right body None) s is_rolled inside (walks f ss inside k) p os
    (λ view state. (
      _,
      does code view (stand p os state) _ is ∙ tested f code test left right a m os view state,
      chosen code (holds test (value_of f left (sight view state)) (value_of f right (sight view state))) (walks f body inside (walks f ss inside k)) (walks f ss inside k) a m os
          (leads f code end declares within (inside_if place) (lines_front _ [] own.1) inside (walks f ss inside k) os rest) rest view state,
    ))
leads f code end declares (DoesFor {p} {a} {m} {q} {ss} spot counter first last body greatest is fits within next) place keep inside k os from =
    let s = stmt.Loop spot counter first last body in
    let is_rolled = stmt.rolls-Loop spot counter first last body in
    let rest = leads f code end declares next place (lines_behind (stmt_lines f s place) (lines_at (map (stmt_lines f) ss) place) keep) inside k os from in
    let own = lines_opened f (Stmt-F.Loop spot counter first last body) s is_rolled place (lines_front (stmt_lines f s place) (lines_at (map (stmt_lines f) ss) place) keep) in
    let is_last : last ≡ pos greatest = fits (and_parts (expr_groups_fit first) (is_between 0 9999 last) own.0.in_range).1 in
    opened f code (Stmt-F.Loop spot counter first last body) s is_rolled inside (walks f ss inside k) p os
    (λ view state.
    let from_value = value_of f first (sight view state) in
    subst (λ (l : ℤ). Follows code (looped f counter (walks f body) (turns_of from_value l) (count_of from_value) inside (walks f ss inside k) view state) view (stand p os state)) (sym is_last)
    (turning f code counter greatest (walks f body) inside (walks f ss inside k) a m os end (λ k os from. leads f code end declares within (inside_for place) own.1 inside k os from) rest
    (suc greatest - count_of from_value) (count_of from_value) (turns_due (count_of from_value) greatest) view state (stand p os state)
    (does code view (stand p os state) _ is ∙ ap (λ (n : ℤ). tests (counter_slot f.names counter) greatest a m (suc greatest - count_of n) os state) (term_value-term_of f first (sight view state)))))
leads f code end declares (DoesOutward {p} {m} {q} {ss} spot x s what is_rolled asks is next) place keep inside k os from =
    let rest = leads f code end declares next place (lines_behind (stmt_lines f s place) (lines_at (map (stmt_lines f) ss) place) keep) inside k os from in
    let own = first_line f x s is_rolled place (lines_front (stmt_lines f s place) (lines_at (map (stmt_lines f) ss) place) keep) in
    opened f code x s is_rolled inside (walks f ss inside k) p os
    (λ view state. subst (λ (w : Walk). Follows code w view (stand p os state)) (sym (asks declares place own inside (walks f ss inside k) view state)) (
      does code view (stand p os state) _ is,
      refl,
      λ reply.
          subst (λ (c : Stand). Follows code (walks f ss inside k (view_after view reply) (taken_by what state reply.given)) (view_after view reply) c) (sym (ap (takes_on (stand p os state) reply.given) is))
          (rest (view_after view reply) (taken_by what state reply.given)),
    ))

-- from its beginning the code of a body follows the body's walk
pub begins : (f : Facts) (code : List Instr) (begin : ℕ) (body : List Stmt) → IsCode f code begin body → DeclaresMembers f → (place : Surroundings) → KeepRules (stmts_lines f body place) → (view : View) (state : State)
    → Follows code (walk_of f body view state) view (start begin state)
begins f code begin body is declares place keep view state =
    leads f code is.ends declares is.leads place (subst KeepRules (same_lines f body place) keep) false ended [] (λ view state. (does code view (stand 0 [] state) instr.End is.ends, refl)) view state
