-- The row of an agreement that fails, from the statements of its job.
use Rattle.std.proofs.Common.{◌≡◌, false, List, [], ◌∷◌, map, ap, ◌∙◌}
use Rattle.std.specs.Prelude.{codes, pos, sum}
use Rattle.fx_check.specs.Facts.{Facts, facts_of, created_in, attached_in}
use Rattle.fx_check.specs.Work.{work_of}
use Rattle.fx_script.specs.Spelling.{chained}
use Rattle.fx_script.specs.declared.job.Event.{Event}
use Rattle.fx_script.specs.declared.job.EventKind.{EventKind}
use Rattle.fx_script.specs.declared.job.EventKind.TheVariants as event
use Rattle.fx_script.specs.declared.job.Job.{Job}
use Rattle.fx_script.specs.declared.job.Stmt.{Stmt}
use Rattle.fx_script.specs.declared.job.Stmt.TheOpen.{Stmt-F}
use Rattle.fx_script.specs.declared.job.Stmt.TheVariants as stmt
use Rattle.fx_walk.specs.declared.action.View.{View}
use Rattle.fx_walk.specs.State.{State}
use Rattle.fx_walk.specs.Walk.{Walk, ended, in_turn, walk_of}
use Rattle.fx_fleet.specs.Runs.{job_setup, journal_of}
use Rattle.fx_fleet.proofs.AgreementRow.{known, body, setup, events, items, row}
use Rattle.fx_fleet.proofs.Bodies.{here, body_of, two_ranks}
use Rattle.fx_fleet.proofs.Ties.{walk_is, created_is, attached_is, work_is, one_journal}

-- agree c a 0 / print c

abbrev agree : Stmt-F Stmt
agree = Stmt-F.Agree here (codes "c") (codes "a") (pos 0)

abbrev print : Stmt-F Stmt
print = Stmt-F.Print here (codes "c")

abbrev statements : List Stmt
statements = stmt.Agree here (codes "c") (codes "a") (pos 0) ∷ stmt.Print here (codes "c") ∷ []

abbrev at_spot : EventKind → Event
at_spot kind = record { spot = here; kind = kind }

abbrev kinds : List EventKind
kinds =
    event.Rest (pos 0) ∷ event.Rest (pos 1) ∷ event.Deliver (pos 0) (pos 1) ∷ event.Deliver (pos 1) (pos 0) ∷ event.Rest (pos 0) ∷ event.Rest (pos 1)
    ∷ event.Kill (pos 0) ∷ []

abbrev pub job : Job
job = record {
  ranks = pos 2;
  spares = pos 0;
  separation = pos 1;
  ranks_spot = here;
  spares_spot = here;
  separation_spot = here;
  begin_spot = here;
  names = known.names;
  callbacks = [];
  body = statements;
  events = map at_spot kinds;
}

creates_none : created_in statements ≡ []
creates_none = λ i. chained
    (created_is agree (stmt.Agree here (codes "c") (codes "a") (pos 0)) (stmt.rolls-Agree here (codes "c") (codes "a") (pos 0)) i
    ∷ created_is print (stmt.Print here (codes "c")) (stmt.rolls-Print here (codes "c")) i ∷ [])

attaches_none : attached_in statements ≡ []
attaches_none = λ i. chained
    (attached_is agree (stmt.Agree here (codes "c") (codes "a") (pos 0)) (stmt.rolls-Agree here (codes "c") (codes "a") (pos 0)) i
    ∷ attached_is print (stmt.Print here (codes "c")) (stmt.rolls-Print here (codes "c")) i ∷ [])

facts_are : facts_of job ≡ known
facts_are = λ i. record known { created = creates_none i; attached = attaches_none i }

walks_are : walk_of known statements ≡ body_of body
walks_are = λ i. in_turn
    (walk_is known agree (stmt.Agree here (codes "c") (codes "a") (pos 0)) (stmt.rolls-Agree here (codes "c") (codes "a") (pos 0)) i
    ∷ walk_is known print (stmt.Print here (codes "c")) (stmt.rolls-Print here (codes "c")) i ∷ [])
    false ended

works_are : work_of statements ≡ 2
works_are = λ i. sum
    (work_is agree (stmt.Agree here (codes "c") (codes "a") (pos 0)) (stmt.rolls-Agree here (codes "c") (codes "a") (pos 0)) i
    ∷ work_is print (stmt.Print here (codes "c")) (stmt.rolls-Print here (codes "c")) i ∷ [])

setups_are : job_setup job ≡ setup
setups_are = ap (λ (f : Facts). two_ranks f (walk_of f statements)) facts_are ∙ ap (λ (w : View → State → Walk). two_ranks known w) walks_are

pub job_row : journal_of job ≡ items
job_row = one_journal 2 events (job_setup job) setup (work_of statements) 2 setups_are works_are ∙ row
