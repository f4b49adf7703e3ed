-- A text spells the job that is read from it, and no other.
use Rattle.std.proofs.Common.{◌≡◌, ℕ, List, [], Result, Ok, Err, refl, sym, subst, ◌∙◌}
use Rattle.std.specs.Prelude.{IfOk}
use Rattle.fx_text.specs.Lines.{lines_of}
use Rattle.fx_script.specs.declared.draft.Draft.{Draft}
use Rattle.fx_script.specs.declared.draft.DuePart.{DuePart}
use Rattle.fx_script.specs.declared.draft.DuePart.TheVariants as due_part
use Rattle.fx_script.specs.declared.job.Job.{Job}
use Rattle.fx_script.specs.declared.refusal.ReadJob.{ReadJob}
use Rattle.fx_script.specs.Answers.{Answers}
use Rattle.fx_script.specs.Moves.{empty_draft}
use Rattle.fx_script.specs.Reading.{Refusal, reading, job_in_draft, job_in}
use Rattle.fx_script.specs.SaidLines.{met_from}
use Rattle.fx_script.specs.Spelling.{Entry, AreLines, Spells, job_entries}
use Rattle.fx_script.proofs.SoFar.{lines_before}
use Rattle.fx_script.proofs.Adds.{nothing_open}
use Rattle.fx_script.proofs.Found.{Shows, run_found}
use Rattle.fx_script.proofs.Again.{plain, job_leads, run_again}

-- a whole draft's lines are its job's
pub whole : (s : DuePart) (d : Draft) → s ≡ due_part.Stopped → lines_before s d ≡ job_entries d.job
whole s d e = rw e refl

pub nothing_read : Shows [] empty_draft
nothing_read = record {
  lines = tt;
  fine = record {
    tidy = (refl, (refl, (refl, refl, refl)));
    job = record { ranks = refl; spares = refl; separation = refl; names = refl; callbacks = refl; body = refl; events = refl };
    open_fits = nothing_open;
  };
}

draft_found : (text : List ℕ) (d : Draft) → reading text ≡ Ok d → Spells text d.job
draft_found text d e =
    let found = run_found (lines_of text) empty_draft d 1 [] e nothing_read in
    let j = found.shown.fine.job in
    record {
      writable = record { ranks = j.ranks; spares = j.spares; separation = j.separation; names = j.names; callbacks = j.callbacks; body = j.body; events = j.events };
      sound = found.sound;
      lines = subst (λ (es : List Entry). AreLines (met_from 1 (lines_of text)) es) (whole d.due_part d found.stopped) found.shown.lines;
    }

abbrev read_as : Job → Result Job Refusal
read_as job = Ok job

ok_job : (a b : Job) → read_as a ≡ read_as b → a ≡ b
ok_job a b e = cc

pub job_found : (text : List ℕ) (r : Result Draft Refusal) (job : Job) → reading text ≡ r → job_in_draft r ≡ Ok job → Spells text job
job_found text (Ok d) job is e = subst (λ (j : Job). Spells text j) (ok_job d.job job e) (draft_found text d is)
job_found text (Err r) job is e = absurd cc

-- what is read is spelled so
pub is_spelled : (text : List ℕ) (r : Result Job ReadJob) → Answers r (job_in text) → IfOk r (λ job. Spells text job)
is_spelled text (Ok job) e = job_found text (reading text) job refl e
is_spelled text (Err e) given = tt

-- the lines of what is spelled so lead to its draft
pub spelled_run : (text : List ℕ) (job : Job) → Spells text job → reading text ≡ Ok (plain due_part.Stopped job)
spelled_run text job spells = run_again (lines_of text) 1 empty_draft (job_entries job) (plain due_part.Stopped job) refl spells.sound spells.lines (job_leads job spells.writable)

-- what is spelled so is read
pub is_read : (text : List ℕ) (job : Job) → Spells text job → job_in text ≡ Ok job
is_read text job spells = rw (spelled_run text job spells) refl

-- a text is spelled by at most one job
pub one_job : (text : List ℕ) (a b : Job) → Spells text a → Spells text b → a ≡ b
one_job text a b first second = ok_job a b (sym (is_read text a first) ∙ is_read text b second)
