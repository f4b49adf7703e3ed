-- What the folds over statements make of one statement, so that rows can be tied to the statements of their jobs.
use Rattle.std.proofs.Common.{arith, ◌≡◌, ℕ, ◌*◌, List, ap, sym, ◌∙◌}
use Rattle.fx_check.specs.Facts.{Facts, created_by, created_level, attached_by, attached_level}
use Rattle.fx_check.specs.declared.tables.Attached.{Attached}
use Rattle.fx_check.specs.declared.tables.Created.{Created}
use Rattle.fx_check.specs.Work.{bound_with, work_level, work_of_stmt}
use Rattle.fx_fleet.specs.Rounds.{Moment, journal}
use Rattle.fx_script.specs.declared.job.Stmt.{Stmt}
use Rattle.fx_script.specs.declared.job.Stmt.TheOpen.{Stmt-F}
use Rattle.fx_script.specs.declared.job.Stmt.TheViews.{roll-Stmt}
use Rattle.fx_script.specs.declared.job.Stmt.TheFolds.{fold-roll-Stmt, map-Stmt}
use Rattle.fx_walk.specs.Walk.{Meaning, walk, walk_level}
use Rattle.fx_machine.specs.Setup.{Setup}
use Rattle.fx_fleet.specs.Runs.{rest_bound}

pub walk_is : (f : Facts) (x : Stmt-F Stmt) (s : Stmt) → roll-Stmt x ≡ s → walk f s ≡ walk_level f (map-Stmt Stmt Meaning (walk f) x)
walk_is f x s is = ap (walk f) (sym is) ∙ fold-roll-Stmt Meaning (walk_level f) x

pub created_is : (x : Stmt-F Stmt) (s : Stmt) → roll-Stmt x ≡ s → created_by s ≡ created_level (map-Stmt Stmt (List Created) created_by x)
created_is x s is = ap created_by (sym is) ∙ fold-roll-Stmt (List Created) created_level x

pub attached_is : (x : Stmt-F Stmt) (s : Stmt) → roll-Stmt x ≡ s → attached_by s ≡ attached_level (map-Stmt Stmt (List Attached) attached_by x)
attached_is x s is = ap attached_by (sym is) ∙ fold-roll-Stmt (List Attached) attached_level x

pub work_is : (x : Stmt-F Stmt) (s : Stmt) → roll-Stmt x ≡ s → work_of_stmt s ≡ work_level (map-Stmt Stmt ℕ work_of_stmt x)
work_is x s is = ap work_of_stmt (sym is) ∙ fold-roll-Stmt ℕ work_level x

-- equal setups and equal work have one journal
pub one_journal : (procs : ℕ) (events : List Moment) (s t : Setup) (a b : ℕ) → s ≡ t → a ≡ b
    → journal s (rest_bound procs a) (bound_with procs a) events ≡ journal t (rest_bound procs b) (bound_with procs b) events
one_journal procs events s t a b same works = λ i. journal (same i) (rest_bound procs (works i)) (bound_with procs (works i)) events

-- the bound on the tail is one rest for each process
pub bounds_agree : (procs work : ℕ) → bound_with procs work ≡ procs * rest_bound procs work
bounds_agree procs work = grind (arith)
