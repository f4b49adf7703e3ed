-- What the run of a world does, where it stands as the first world of a job.
use Rattle.std.proofs.Common.{◌≡◌, ℕ, List, [], ◌∷◌, map, Option, Some, None, Result, Ok, Err, refl, sym, ap, subst, ◌∙◌, append-nil, arith}
use Rattle.fx_check.specs.Work.{bound_of}
use Rattle.fx_io.specs.Faults.{Rose}
use Rattle.fx_io.specs.States.{SinkState}
use Rattle.fx_io.specs.Told.{Gains}
use Rattle.fx_script.specs.declared.job.Event.{Event}
use Rattle.fx_script.specs.declared.job.Job.{Job}
use Rattle.fx_sched.specs.declared.moment.Moment.{Moment}
use Rattle.fx_sched.specs.Moments.{AreMoments, event_of, kind_of}
use Rattle.fx_fleet.specs.Rounds as rounds
use Rattle.fx_fleet.specs.Rounds.{all_happen, all_over, tail, whole}
use Rattle.fx_fleet.specs.Runs.{job_setup, moment_of, moments_of, rest_bound_of, wire_of}
use Rattle.fx_fleet.specs.World.{World, first_world}
use Rattle.fx_node.specs.Asking.{AsksCarried}
use Rattle.fx_world.specs.declared.counts.Counts.{Counts}
use Rattle.fx_world.specs.declared.end.RunEnd.{RunEnd}
use Rattle.fx_world.specs.declared.end.RunEnd.TheVariants as run_end
use Rattle.fx_world.specs.declared.shown.Shown.{Shown}
use Rattle.fx_world.specs.Goes.{GoesWhole, RunLeaves, Told, Tells, told, meant, in_run}
use Rattle.fx_world.specs.Standings.{Standings, IsWorldOf}
use Rattle.fx_world.specs.Texts.{shown_text}
use Rattle.fx_cli.specs.Ends.{RunAdds, WritesRun}

pub gains_none : (a : Option (List ℕ)) → Gains a a []
gains_none None = tt
gains_none (Some l) = sym (append-nil l)

-- ---- nothing is written before the run

pub unwritten : (job : Job) (shown : Shown) (a : SinkState) → WritesRun job shown a a (Err run_end.NoMemory)
unwritten job shown a = record {
  content = ([], shown_text shown (wire_of job), refl, gains_none a.written);
  count_never_falls = omega arith;
  failed_only_if_count_rose = λ e. absurd cc;
}

-- ---- the moments of the schedule

same_first : {X : Type 0} (x y : X) (xs ys : List X) → (x ∷ xs) ≡ (y ∷ ys) → x ≡ y
same_first x y xs ys e = cc

same_rest : {X : Type 0} (x y : X) (xs ys : List X) → (x ∷ xs) ≡ (y ∷ ys) → xs ≡ ys
same_rest x y xs ys e = cc

meant_by : (ms : List Moment) (es : List Event) → map event_of ms ≡ map kind_of es → map meant ms ≡ map (λ e. moment_of e.kind) es
meant_by [] [] same = refl
meant_by [] (e ∷ es) same = absurd cc
meant_by (m ∷ ms) [] same = absurd cc
meant_by (m ∷ ms) (e ∷ es) same =
    rw (same_first (event_of m) e.kind (map event_of ms) (map kind_of es) same, meant_by ms es (same_rest (event_of m) e.kind (map event_of ms) (map kind_of es) same)) refl

-- a run from the first world on is the whole run of the job
is_whole : (job : Job) (ms : List Moment) (bound : ℕ) → AreMoments job ms → bound ≡ bound_of job →
    in_run ms bound job (first_world (job_setup job)) ≡ whole (job_setup job) (rest_bound_of job) (bound_of job) (moments_of job)
is_whole job ms bound are same =
    ap (λ (n : ℕ). tail (job_setup job) (rest_bound_of job) n (all_happen (job_setup job) (rest_bound_of job) (map meant ms) (first_world (job_setup job)))) same
    ∙ ap (λ (l : List rounds.Moment). tail (job_setup job) (rest_bound_of job) (bound_of job) (all_happen (job_setup job) (rest_bound_of job) l (first_world (job_setup job)))) (meant_by ms job.events are)

-- ---- the whole run

-- whether all went well
abbrev pub dropped : Result Counts RunEnd → Result (Unit {0}) RunEnd
dropped (Ok counts) = Ok tt
dropped (Err end) = Err end

abbrev last_of : Job → World
last_of job = whole (job_setup job) (rest_bound_of job) (bound_of job) (moments_of job)

run_adds : (job : Job) (shown : Shown) (new : Standings) (start now : Told) (answer : Result Counts RunEnd) → RunLeaves job new shown start now (last_of job) answer →
    RunAdds job start.written now.written (shown_text shown (wire_of job)) (dropped answer)
run_adds job shown new start now (Ok counts) leaves = (rw leaves.2 refl, leaves.1.text)
run_adds job shown new start now (Err run_end.Unfinished) leaves = (rw leaves.2 refl, leaves.1.text)
run_adds job shown new start now (Err run_end.WriteFault) leaves = leaves
run_adds job shown new start now (Err run_end.NoMemory) leaves = leaves

fault_only : (a b : ℕ) (answer : Result Counts RunEnd) → (answer ≡ Err run_end.WriteFault → Rose a b) → dropped answer ≡ Err run_end.WriteFault → Rose a b
fault_only a b (Ok counts) rose e = absurd cc
fault_only a b (Err run_end.Unfinished) rose e = absurd cc
fault_only a b (Err run_end.WriteFault) rose e = rose refl
fault_only a b (Err run_end.NoMemory) rose e = absurd cc

-- nothing is told yet
untold : (shown : Shown) (t : Told) → Tells shown t t []
untold shown t = record { text = gains_none t.written; counts = refl }

pub run_writes : (job : Job) (shown : Shown) (old new : Standings) (a b : SinkState) (ms : List Moment) (bound : ℕ) (answer : Result Counts RunEnd) →
    AsksCarried job → IsWorldOf job old (first_world (job_setup job)) → AreMoments job ms → bound ≡ bound_of job → GoesWhole old new shown a b (in_run ms bound) answer →
    WritesRun job shown a b (dropped answer)
run_writes job shown old new a b ms bound answer asks world are same goes = record {
  content = run_adds job shown new (told old a) (told new b) answer
      (subst (λ (w : World). RunLeaves job new shown (told old a) (told new b) w answer) (is_whole job ms bound are same)
      (goes.leads job (first_world (job_setup job)) (told old a) asks world (untold shown (told old a))));
  count_never_falls = goes.count_never_falls;
  failed_only_if_count_rose = fault_only a.faults b.faults answer goes.failed_only_if_count_rose;
}
