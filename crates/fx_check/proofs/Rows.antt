-- Rows by computation: statements in one another, and whole jobs of them.
use Rattle.std.proofs.Common.{◌≡◌, ℕ, Bool, List, [], ◌∷◌, map, Some, None, refl, sym, ap, ◌∙◌, arith}
use Rattle.std.specs.Prelude.{ℤ, pos, codes}
use Rattle.fx_base.specs.declared.names.Role.{Role}
use Rattle.fx_base.specs.declared.names.Role.TheVariants as role
use Rattle.fx_base.specs.declared.spot.Spot.{Spot}
use Rattle.fx_script.specs.declared.expr.Expr.{Expr}
use Rattle.fx_script.specs.declared.expr.Expr.TheVariants as expr
use Rattle.fx_script.specs.declared.expr.Expr.TheOpen.{Expr-F}
use Rattle.fx_script.specs.declared.expr.Expr.TheFolds.{fold-Expr, fold-roll-Expr}
use Rattle.fx_script.specs.declared.job.Decl.TheVariants as decl
use Rattle.fx_script.specs.declared.job.Job.{Job}
use Rattle.fx_script.specs.declared.job.Stmt.{Stmt}
use Rattle.fx_script.specs.declared.job.Stmt.TheVariants as stmt
use Rattle.fx_script.specs.declared.job.Stmt.TheOpen.{Stmt-F}
use Rattle.fx_script.specs.declared.job.Stmt.TheFolds.{fold-Stmt, fold-roll-Stmt}
use Rattle.fx_check.specs.declared.fault.CheckJob.TheVariants as check
use Rattle.fx_check.specs.declared.fault.StaticFault.TheVariants.{UnknownName}
use Rattle.fx_check.specs.declared.surroundings.Surroundings.{Surroundings}
use Rattle.fx_check.specs.Acceptance.{Line, IsAccepted, stmt_lines_level, stmt_lines, stmts_lines, first_refused, refusal_of}
use Rattle.fx_check.specs.Facts.{Facts, facts_of}
use Rattle.fx_check.specs.Rules.{body_place}
use Rattle.fx_check.specs.Work.{work_of}
use Rattle.fx_check.proofs.Accepting.{accepted_by}
use Rattle.fx_check.proofs.LineParts.{body_part, all_fine, body_stops, line_refuses}

abbrev line : ℕ → Spot
line n = record { line = n; column = 1 }

-- `for c 0 3`, `for c 0 4`, `print a`
abbrev turns_in_turns : List Stmt
turns_in_turns =
    stmt.Loop (line 9) (codes "c") (expr.Number (pos 0)) (pos 3)
    (stmt.Loop (line 10) (codes "c") (expr.Number (pos 0)) (pos 4) (stmt.Print (line 11) (codes "a") ∷ []) ∷ [])
    ∷ []

-- 1 and four times the test and 11, which is 1 and five times the test and the print
work_in_turns : work_of turns_in_turns ≡ 49
work_in_turns = simp (← stmt.rolls-Loop, ← stmt.rolls-Print, fold-roll-Stmt) refl

-- ---- one level of what is folded over a statement

for_fold : (X : Type 0) (level : Stmt-F X → X) (spot : Spot) (counter : List ℕ) (first : Expr) (last : ℤ) (body : List Stmt)
    → fold-Stmt X level (stmt.Loop spot counter first last body) ≡ level (Stmt-F.Loop spot counter first last (map (fold-Stmt X level) body))
for_fold X level spot counter first last body = ap (fold-Stmt X level) (sym (stmt.rolls-Loop spot counter first last body)) ∙ fold-roll-Stmt X level (Stmt-F.Loop spot counter first last body)

when_fold : (X : Type 0) (level : Stmt-F X → X) (spot : Spot) (role : Role) (body : List Stmt)
    → fold-Stmt X level (stmt.RoleOnly spot role body) ≡ level (Stmt-F.RoleOnly spot role (map (fold-Stmt X level) body))
when_fold X level spot role body = ap (fold-Stmt X level) (sym (stmt.rolls-RoleOnly spot role body)) ∙ fold-roll-Stmt X level (Stmt-F.RoleOnly spot role body)

print_fold : (X : Type 0) (level : Stmt-F X → X) (spot : Spot) (name : List ℕ) → fold-Stmt X level (stmt.Print spot name) ≡ level (Stmt-F.Print spot name)
print_fold X level spot name = ap (fold-Stmt X level) (sym (stmt.rolls-Print spot name)) ∙ fold-roll-Stmt X level (Stmt-F.Print spot name)

barrier_fold : (X : Type 0) (level : Stmt-F X → X) (spot : Spot) → fold-Stmt X level (stmt.Barrier spot) ≡ level (Stmt-F.Barrier spot)
barrier_fold X level spot = ap (fold-Stmt X level) (sym (stmt.rolls-Barrier spot)) ∙ fold-roll-Stmt X level (Stmt-F.Barrier spot)

commit_fold : (X : Type 0) (level : Stmt-F X → X) (spot : Spot) (group : ℤ) → fold-Stmt X level (stmt.Commit spot group) ≡ level (Stmt-F.Commit spot group)
commit_fold X level spot group = ap (fold-Stmt X level) (sym (stmt.rolls-Commit spot group)) ∙ fold-roll-Stmt X level (Stmt-F.Commit spot group)

number_fold : (level : Expr-F Bool → Bool) (n : ℤ) → fold-Expr Bool level (expr.Number n) ≡ level (Expr-F.Number n)
number_fold level n = ap (fold-Expr Bool level) (sym (expr.rolls-Number n)) ∙ fold-roll-Expr Bool level (Expr-F.Number n)

-- the same of lines, at a place
abbrev Lines : Type 0
Lines = Surroundings → List Line

for_lines_at : (f : Facts) (spot : Spot) (counter : List ℕ) (first : Expr) (last : ℤ) (body : List Stmt) (p : Surroundings)
    → stmt_lines f (stmt.Loop spot counter first last body) p ≡ stmt_lines_level f (Stmt-F.Loop spot counter first last (map (stmt_lines f) body)) p
for_lines_at f spot counter first last body p = ap (λ (lines : Lines). lines p) (for_fold Lines (stmt_lines_level f) spot counter first last body)

when_lines_at : (f : Facts) (spot : Spot) (role : Role) (body : List Stmt) (p : Surroundings)
    → stmt_lines f (stmt.RoleOnly spot role body) p ≡ stmt_lines_level f (Stmt-F.RoleOnly spot role (map (stmt_lines f) body)) p
when_lines_at f spot role body p = ap (λ (lines : Lines). lines p) (when_fold Lines (stmt_lines_level f) spot role body)

print_lines_at : (f : Facts) (spot : Spot) (name : List ℕ) (p : Surroundings) → stmt_lines f (stmt.Print spot name) p ≡ stmt_lines_level f (Stmt-F.Print spot name) p
print_lines_at f spot name p = ap (λ (lines : Lines). lines p) (print_fold Lines (stmt_lines_level f) spot name)

barrier_lines_at : (f : Facts) (spot : Spot) (p : Surroundings) → stmt_lines f (stmt.Barrier spot) p ≡ stmt_lines_level f (Stmt-F.Barrier spot) p
barrier_lines_at f spot p = ap (λ (lines : Lines). lines p) (barrier_fold Lines (stmt_lines_level f) spot)

commit_lines_at : (f : Facts) (spot : Spot) (group : ℤ) (p : Surroundings) → stmt_lines f (stmt.Commit spot group) p ≡ stmt_lines_level f (Stmt-F.Commit spot group) p
commit_lines_at f spot group p = ap (λ (lines : Lines). lines p) (commit_fold Lines (stmt_lines_level f) spot group)

-- ---- whole jobs

-- `array a 4`, `counter c`, `counter d`, and a body of this statement inside: `for c 0 3` / `for d 0 4` / `when initial` / it / `endwhen` / `barrier`
abbrev body_with : Stmt → List Stmt
body_with inner =
    stmt.Loop (line 9) (codes "c") (expr.Number (pos 0)) (pos 3)
    (stmt.Loop (line 10) (codes "d") (expr.Number (pos 0)) (pos 4)
    (stmt.RoleOnly (line 11) role.Initial (inner ∷ []) ∷ stmt.Barrier (line 14) ∷ []) ∷ [])
    ∷ []

abbrev job_with : Stmt → Job
job_with inner = record {
  ranks = pos 2;
  spares = pos 1;
  separation = pos 1;
  ranks_spot = line 2;
  spares_spot = line 3;
  separation_spot = line 4;
  begin_spot = line 8;
  names = decl.Array (line 5) (codes "a") (pos 4) ∷ decl.Counter (line 6) (codes "c") ∷ decl.Counter (line 7) (codes "d") ∷ [];
  callbacks = [];
  body = body_with inner;
  events = [];
}

-- no group is created, and no member attached
abbrev bare_facts : Facts
bare_facts = record { names = (job_with (stmt.Barrier (line 12))).names; callbacks = []; created = []; attached = [] }

-- with `print a`
abbrev prints : Stmt
prints = stmt.Print (line 12) (codes "a")

facts_of_prints : facts_of (job_with prints) ≡ bare_facts
facts_of_prints = simp (for_fold, when_fold, print_fold, barrier_fold) refl

-- 1 and four times the test and 21, which is 1 and five times the test, the `when` with its print, and the barrier
work_of_prints : work_of (body_with prints) ≡ 89
work_of_prints = simp (for_fold, when_fold, print_fold, barrier_fold) refl

prints_fine : first_refused (stmts_lines bare_facts (body_with prints) body_place) ≡ None
prints_fine = simp (for_lines_at, when_lines_at, print_lines_at, barrier_lines_at, number_fold) refl

prints_fine_in_job : first_refused (body_part (job_with prints)) ≡ None
prints_fine_in_job = ap (λ (f : Facts). first_refused (stmts_lines f (body_with prints) body_place)) facts_of_prints ∙ prints_fine

accepts_prints : IsAccepted (job_with prints)
accepts_prints =
    let work = work_of_prints in
    accepted_by (job_with prints) (all_fine (job_with prints) refl refl refl prints_fine_in_job refl) (omega (arith, work))

-- with `commit 0`: the group isn't created, and that is told before that it may not stand inside `when`
abbrev commits : Stmt
commits = stmt.Commit (line 12) (pos 0)

facts_of_commits : facts_of (job_with commits) ≡ bare_facts
facts_of_commits = simp (for_fold, when_fold, commit_fold, barrier_fold) refl

commits_stop : first_refused (stmts_lines bare_facts (body_with commits) body_place) ≡ Some (record { fault = UnknownName; spot = line 12 })
commits_stop = simp (for_lines_at, when_lines_at, commit_lines_at, barrier_lines_at, number_fold) refl

commits_stop_in_job : first_refused (body_part (job_with commits)) ≡ Some (record { fault = UnknownName; spot = line 12 })
commits_stop_in_job = ap (λ (f : Facts). first_refused (stmts_lines f (body_with commits) body_place)) facts_of_commits ∙ commits_stop

refuses_commits : refusal_of (job_with commits) ≡ Some (record { fault = UnknownName; spot = line 12 })
refuses_commits =
    let at = check.Refused UnknownName (line 12) in
    line_refuses (job_with commits) at (body_stops (job_with commits) at refl refl refl commits_stop_in_job)
