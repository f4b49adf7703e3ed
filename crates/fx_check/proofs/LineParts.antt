-- The lines of a job, part by part.
use Rattle.std.proofs.Common.{◌≡◌, List, [], ◌++◌, Some, None, Result, Ok, Err, sym, ap, subst, ◌∙◌}
use Rattle.std.specs.Prelude.{IfOk}
use Rattle.fx_script.specs.declared.job.Job.{Job}
use Rattle.fx_check.specs.declared.fault.CheckJob.{CheckJob}
use Rattle.fx_check.specs.declared.fault.CheckJob.TheVariants as check
use Rattle.fx_check.specs.Acceptance.{Line, IsAccepted, head_lines, decl_lines, callbacks_lines, stmts_lines, event_lines, lines_of, first_refused, work_refused, refusal_of, Tells, RefusesAs, IsUnrefused}
use Rattle.fx_check.specs.Facts.{facts_of}
use Rattle.fx_check.specs.Rules.{procs_of, body_place}
use Rattle.fx_check.proofs.Accepting.{none_if_accepted, accepted_if_none}
use Rattle.fx_check.proofs.Walks.{answers_stop, refuses_on, none_append}

abbrev pub head_part : Job → List Line
head_part job = head_lines job

abbrev pub names_part : Job → List Line
names_part job = decl_lines [] job.names

abbrev pub callbacks_part : Job → List Line
callbacks_part job = callbacks_lines (facts_of job) [] job.callbacks

abbrev pub body_part : Job → List Line
body_part job = stmts_lines (facts_of job) job.body body_place

abbrev pub events_part : Job → List Line
events_part job = event_lines (procs_of job) 0 job.events

pub names_stop : (job : Job) (e : CheckJob) → first_refused (head_part job) ≡ None → Tells e (first_refused (names_part job)) → Tells e (first_refused (lines_of job))
names_stop job e head refuses =
    refuses_on e (head_part job) (names_part job ++ (callbacks_part job ++ (body_part job ++ events_part job))) head
    (answers_stop e (names_part job) (callbacks_part job ++ (body_part job ++ events_part job)) refuses)

pub callbacks_stop : (job : Job) (e : CheckJob) → first_refused (head_part job) ≡ None → first_refused (names_part job) ≡ None → Tells e (first_refused (callbacks_part job)) → Tells e (first_refused (lines_of job))
callbacks_stop job e head names refuses =
    refuses_on e (head_part job) (names_part job ++ (callbacks_part job ++ (body_part job ++ events_part job))) head
    (refuses_on e (names_part job) (callbacks_part job ++ (body_part job ++ events_part job)) names
    (answers_stop e (callbacks_part job) (body_part job ++ events_part job) refuses))

pub body_stops : (job : Job) (e : CheckJob) → first_refused (head_part job) ≡ None → first_refused (names_part job) ≡ None → first_refused (callbacks_part job) ≡ None
    → Tells e (first_refused (body_part job)) → Tells e (first_refused (lines_of job))
body_stops job e head names callbacks refuses =
    refuses_on e (head_part job) (names_part job ++ (callbacks_part job ++ (body_part job ++ events_part job))) head
    (refuses_on e (names_part job) (callbacks_part job ++ (body_part job ++ events_part job)) names
    (refuses_on e (callbacks_part job) (body_part job ++ events_part job) callbacks
    (answers_stop e (body_part job) (events_part job) refuses)))

pub events_stop : (job : Job) (e : CheckJob) → first_refused (head_part job) ≡ None → first_refused (names_part job) ≡ None → first_refused (callbacks_part job) ≡ None → first_refused (body_part job) ≡ None
    → Tells e (first_refused (events_part job)) → Tells e (first_refused (lines_of job))
events_stop job e head names callbacks body refuses =
    refuses_on e (head_part job) (names_part job ++ (callbacks_part job ++ (body_part job ++ events_part job))) head
    (refuses_on e (names_part job) (callbacks_part job ++ (body_part job ++ events_part job)) names
    (refuses_on e (callbacks_part job) (body_part job ++ events_part job) callbacks
    (refuses_on e (body_part job) (events_part job) body refuses)))

pub all_fine : (job : Job) → first_refused (head_part job) ≡ None → first_refused (names_part job) ≡ None → first_refused (callbacks_part job) ≡ None → first_refused (body_part job) ≡ None
    → first_refused (events_part job) ≡ None → first_refused (lines_of job) ≡ None
all_fine job head names callbacks body events =
    none_append (head_part job) (names_part job ++ (callbacks_part job ++ (body_part job ++ events_part job))) head
    (none_append (names_part job) (callbacks_part job ++ (body_part job ++ events_part job)) names
    (none_append (callbacks_part job) (body_part job ++ events_part job) callbacks
    (none_append (body_part job) (events_part job) body events)))

-- a refusal of a line is that of the job
pub line_refuses : (job : Job) (e : CheckJob) → Tells e (first_refused (lines_of job)) → Tells e (refusal_of job)
line_refuses job (check.Refused fault spot) is = ap (work_refused job) is
line_refuses job check.NoMemory is = tt

-- an answer that is exact refuses no job that is accepted
pub unrefused : {X : Type 0} (r : Result X CheckJob) (job : Job) → RefusesAs r (refusal_of job) → IsAccepted job → IsUnrefused r
unrefused (Ok x) job is accepted = tt
unrefused (Err check.NoMemory) job is accepted = tt
unrefused (Err (check.Refused fault spot)) job is accepted = let both : None ≡ Some _ = sym (none_if_accepted job accepted) ∙ is in absurd cc

pub all_accepted : (r : Result Job CheckJob) (job : Job) → IfOk r (λ accepted. accepted ≡ job) → RefusesAs r (refusal_of job) → IfOk r (λ accepted. IsAccepted accepted)
all_accepted (Ok x) job same is = subst (λ (j : Job). IsAccepted j) (sym same) (accepted_if_none job is)
all_accepted (Err e) job same is = tt
