-- The code of a callback goes straight through its statements, which are lets and prints.
use Rattle.std.proofs.Common.{◌≡◌, ℕ, ◌+◌, Bool, true, false, not, List, [], ◌∷◌, ◌++◌, Option, Some, None, refl, ap, sym, ◌∙◌}
use Rattle.std.specs.Prelude.{ℤ}
use Rattle.fx_script.specs.declared.job.Stmt.{Stmt}
use Rattle.fx_script.specs.declared.job.Stmt.TheVariants as stmt
use Rattle.fx_script.specs.declared.job.Stmt.TheOpen.{Stmt-F}
use Rattle.fx_script.specs.declared.job.Stmt.TheViews.{roll-Stmt}
use Rattle.fx_script.specs.declared.job.Stmt.TheFolds.{fold-roll-Stmt, map-Stmt}
use Rattle.fx_check.specs.Acceptance.{Line, stmt_line, stmt_lines, callback_body_lines}
use Rattle.fx_check.specs.Facts.{Facts}
use Rattle.fx_check.specs.Parts.{KeepsRules, KeepRules}
use Rattle.fx_check.specs.declared.surroundings.Surroundings.{Surroundings}
use Rattle.fx_base.specs.declared.spot.Spot.{Spot}
use Rattle.fx_check.specs.Rules.{callback_place, may_stand_in_callback}
use Rattle.fx_walk.specs.declared.action.View.{View}
use Rattle.fx_walk.specs.declared.printed.Printed.{Printed}
use Rattle.fx_walk.specs.State.{State, with_elements, elements_of}
use Rattle.fx_walk.specs.Values.{sight, values_from}
use Rattle.fx_walk.specs.Walk.{Ends, Passes, Prints, Asks, Onward, Meaning, printed_of, walk_level, walk, ended}
use Rattle.fx_flow.specs.declared.instr.Instr.{Instr}
use Rattle.fx_flow.specs.declared.instr.Loop.{Loop}
use Rattle.fx_flow.specs.Code.{Moves, goes, acts, DeclaresMembers, AsksAs, Leads, Nothing, DoesLet, DoesSet, DoesPrint, DoesRegister, DoesWhen, DoesIf, DoesIfAlone, DoesFor, DoesOutward}
use Rattle.fx_flow.specs.declared.instr.Outward.{Outward}
use Rattle.fx_flow.specs.Outward.{wanted_by, taken_by}
use Rattle.fx_flow.specs.Flowing.{before}
use Rattle.fx_flow.proofs.Following.{lines_front, first_line, printed_same, does, stand}
use Rattle.fx_value.proofs.TermLemmas.{term_values-term_of}

-- one action of the code is the statement, from any state and with any loops open
pub record Takes (f : Facts) (code : List Instr) (view : View) (s : Stmt) (p m : ℕ) (opened : List Loop) (state : State) : Type 0 where
  pub printed : Option Printed
  pub now : State
  pub is : acts code view (stand p opened state) ≡ Moves printed (stand m opened now)
  pub kept : now.callbacks ≡ state.callbacks
  pub walks : (k : Onward) → walk f s false k view state ≡ before printed (k view now)

-- the code takes one statement after another
abbrev pub GoesStraight : Facts → List Instr → ℕ → List Stmt → ℕ → Type 0
GoesStraight f code p [] q = Unit {0}
GoesStraight f code p (s ∷ ss) q = (m : ℕ) × Leads f code m ss q × ((view : View) (opened : List Loop) (state : State) → Takes f code view s p m opened state)

opened_walk : (f : Facts) (x : Stmt-F Stmt) (s : Stmt) → roll-Stmt x ≡ s → (k : Onward) (view : View) (state : State) → walk f s false k view state ≡ walk_level f (map-Stmt Stmt Meaning (walk f) x) false k view state
opened_walk f x s is k view state = ap (λ (m : Meaning). m false k view state) (ap (walk f) (sym is) ∙ fold-roll-Stmt Meaning (walk_level f) x)

-- a statement of a callback is one that it may have
may_stand : (f : Facts) (x : Stmt-F Stmt) (s : Stmt) → roll-Stmt x ≡ s → (n : ℕ) (behind : List Line) → KeepRules (stmt_lines f s (callback_place n) ++ behind) → may_stand_in_callback x ≡ true
may_stand f x s is n behind keep =
    not_not (may_stand_in_callback x) (first_line f x s is (callback_place n) (lines_front (stmt_lines f s (callback_place n)) behind keep)).placed where
      not_not : (b : Bool) → not (not b) ≡ true → b ≡ true
      not_not true h = refl
      not_not false h = absurd cc

-- a let and a print ask nothing
no_outward : (f : Facts) (x : Stmt-F Stmt) (spot : Spot) (what : Outward) → DeclaresMembers f → AsksAs f x spot what → (p : Surroundings) → KeepsRules (stmt_line f p x) → may_stand_in_callback x ≡ true → View → State → ⊥
no_outward f (Stmt-F.Let at array value) spot what declares asks p keeps may view state =
    let e : Passes (Ends (with_elements f state array (values_from f value (sight view state) 0 (elements_of f state array)))) ≡ Asks (record { spot = spot; in_when = false }) (wanted_by what view state) state (λ reply. Ends (taken_by what state reply.given)) =
    asks declares p keeps false ended view state in cc
no_outward f (Stmt-F.Print at name) spot what declares asks p keeps may view state =
    let e : Prints (printed_of f state name) (Ends state) ≡ Asks (record { spot = spot; in_when = false }) (wanted_by what view state) state (λ reply. Ends (taken_by what state reply.given)) =
    asks declares p keeps false ended view state in cc
no_outward f other spot what declares asks p keeps may view state = absurd cc

pub straight : (f : Facts) (code : List Instr) → DeclaresMembers f → {p q : ℕ} {ss : List Stmt} → Leads f code p ss q → (n : ℕ) → KeepRules (callback_body_lines f n ss) → GoesStraight f code p ss q
straight f code declares Nothing n keep = tt
straight f code declares (DoesLet {p} {m} {q} {ss} spot array value is next) n keep = (
  m,
  next,
  λ view opened state. record {
    printed = None;
    now = with_elements f state array (values_from f value (sight view state) 0 (elements_of f state array));
    is = does code view (stand p opened state) _ is ∙ ap (λ (elements : List ℤ). goes m opened (with_elements f state array elements)) (term_values-term_of f value (sight view state) 0 (elements_of f state array));
    kept = refl;
    walks = λ k. opened_walk f (Stmt-F.Let spot array value) _ (stmt.rolls-Let spot array value) k view state;
  },
)
straight f code declares (DoesPrint {p} {m} {q} {ss} spot name is next) n keep = (
  m,
  next,
  λ view opened state. record {
    printed = Some (printed_of f state name);
    now = state;
    is = does code view (stand p opened state) _ is ∙ ap (λ (values : List ℤ). Moves (Some (record { name = name; values = values })) (stand m opened state)) (printed_same f state name);
    kept = refl;
    walks = λ k. opened_walk f (Stmt-F.Print spot name) _ (stmt.rolls-Print spot name) k view state;
  },
)
straight f code declares (DoesSet {p} {m} {q} {ss} spot counter value is next) n keep =
    let no : false ≡ true = may_stand f (Stmt-F.Set spot counter value) _ (stmt.rolls-Set spot counter value) n (callback_body_lines f (n + 1) ss) keep in absurd cc
straight f code declares (DoesRegister {p} {m} {q} {ss} spot name is next) n keep =
    let no : false ≡ true = may_stand f (Stmt-F.Register spot name) _ (stmt.rolls-Register spot name) n (callback_body_lines f (n + 1) ss) keep in absurd cc
straight f code declares (DoesWhen {p} {a} {m} {q} {ss} spot role body is within next) n keep =
    let no : false ≡ true = may_stand f (Stmt-F.RoleOnly spot role body) _ (stmt.rolls-RoleOnly spot role body) n (callback_body_lines f (n + 1) ss) keep in absurd cc
straight f code declares (DoesIf {p} {a} {b} {m} {q} {ss} spot test left right body other is within outside next) n keep =
    let no : false ≡ true = may_stand f (Stmt-F.Branch spot test left right body (Some other)) _ (stmt.rolls-Branch spot test left right body (Some other)) n (callback_body_lines f (n + 1) ss) keep in absurd cc
straight f code declares (DoesIfAlone {p} {a} {m} {q} {ss} spot test left right body is within next) n keep =
    let no : false ≡ true = may_stand f (Stmt-F.Branch spot test left right body None) _ (stmt.rolls-Branch spot test left right body None) n (callback_body_lines f (n + 1) ss) keep in absurd cc
straight f code declares (DoesFor {p} {a} {m} {q} {ss} spot counter first last body greatest is fits within next) n keep =
    let no : false ≡ true = may_stand f (Stmt-F.Loop spot counter first last body) _ (stmt.rolls-Loop spot counter first last body) n (callback_body_lines f (n + 1) ss) keep in absurd cc
straight f code declares (DoesOutward {p} {m} {q} {ss} spot x s what rolled asks is next) n keep = (
  m,
  next,
  λ view opened state. absurd (no_outward f x spot what declares asks (callback_place n) (first_line f x s rolled (callback_place n) (lines_front (stmt_lines f s (callback_place n)) (callback_body_lines f (n + 1) ss) keep))
      (may_stand f x s rolled n (callback_body_lines f (n + 1) ss) keep) view state),
)
