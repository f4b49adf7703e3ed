-- The row of a barrier, from the statements of its job.
use Rattle.std.proofs.Common.{◌≡◌, false, List, [], ◌∷◌, ap, ◌∙◌}
use Rattle.std.specs.Prelude.{pos, sum}
use Rattle.fx_check.specs.Facts.{Facts, facts_of, created_in, attached_in}
use Rattle.fx_check.specs.Work.{work_of}
use Rattle.fx_script.specs.Spelling.{chained}
use Rattle.fx_script.specs.declared.job.Job.{Job}
use Rattle.fx_script.specs.declared.job.Stmt.{Stmt}
use Rattle.fx_script.specs.declared.job.Stmt.TheOpen.{Stmt-F}
use Rattle.fx_script.specs.declared.job.Stmt.TheVariants as stmt
use Rattle.fx_walk.specs.Walk.{ended, in_turn, walk_of}
use Rattle.fx_walk.specs.declared.action.View.{View}
use Rattle.fx_walk.specs.State.{State}
use Rattle.fx_walk.specs.Walk.{Walk}
use Rattle.fx_fleet.specs.Runs.{job_setup, journal_of}
use Rattle.fx_fleet.proofs.BarrierRow.{known, body, setup, items, row}
use Rattle.fx_fleet.proofs.Bodies.{here, body_of, two_ranks}
use Rattle.fx_fleet.proofs.Ties.{walk_is, created_is, attached_is, work_is, one_journal}

abbrev statements : List Stmt
statements = stmt.Barrier here ∷ []

abbrev pub job : Job
job = record {
  ranks = pos 2;
  spares = pos 0;
  separation = pos 1;
  ranks_spot = here;
  spares_spot = here;
  separation_spot = here;
  begin_spot = here;
  names = [];
  callbacks = [];
  body = statements;
  events = [];
}

creates_none : created_in statements ≡ []
creates_none = λ i. chained (created_is (Stmt-F.Barrier here) (stmt.Barrier here) (stmt.rolls-Barrier here) i ∷ [])

attaches_none : attached_in statements ≡ []
attaches_none = λ i. chained (attached_is (Stmt-F.Barrier here) (stmt.Barrier here) (stmt.rolls-Barrier here) i ∷ [])

facts_are : facts_of job ≡ known
facts_are = λ i. record { names = []; callbacks = []; created = creates_none i; attached = attaches_none i }

walks_are : walk_of known statements ≡ body_of body
walks_are = λ i. in_turn (walk_is known (Stmt-F.Barrier here) (stmt.Barrier here) (stmt.rolls-Barrier here) i ∷ []) false ended

works_are : work_of statements ≡ 1
works_are = λ i. sum (work_is (Stmt-F.Barrier here) (stmt.Barrier here) (stmt.rolls-Barrier here) i ∷ [])

setups_are : job_setup job ≡ setup
setups_are = ap (λ (f : Facts). two_ranks f (walk_of f statements)) facts_are ∙ ap (λ (w : View → State → Walk). two_ranks known w) walks_are

pub job_row : journal_of job ≡ items
job_row = one_journal 2 [] (job_setup job) setup (work_of statements) 1 setups_are works_are ∙ row
