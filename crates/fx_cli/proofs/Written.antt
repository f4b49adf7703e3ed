-- What is written, and the status of the call.
use Rattle.std.proofs.Common.{◌≡◌, ℕ, Bool, true, false, if◌then◌else◌, List, Option, Some, None, Result, Ok, Err, refl, sym, ap, subst}
use Rattle.fx_io.specs.States.{SinkState}
use Rattle.fx_io.specs.Writing.{Puts}
use Rattle.fx_io.specs.declared.whole.PutEnd.{PutEnd}
use Rattle.fx_io.specs.declared.whole.PutEnd.TheVariants as put_end
use Rattle.fx_cli.specs.declared.mode.Mode.{Mode}
use Rattle.fx_cli.specs.declared.status.Status.{Status}
use Rattle.fx_cli.specs.declared.status.Status.TheVariants as status
use Rattle.fx_base.specs.declared.spot.Spot.{Spot}
use Rattle.fx_script.specs.declared.job.Job.{Job}
use Rattle.fx_check.specs.declared.fault.StaticFault.{StaticFault}
use Rattle.fx_check.specs.Acceptance.{Refused}
use Rattle.fx_cli.specs.declared.status.Refusal.{Refusal}
use Rattle.fx_cli.specs.declared.status.Refusal.TheVariants.{Static}
use Rattle.fx_cli.specs.Answers.{refusal_line}
use Rattle.fx_cli.specs.Dues.{due_refusal, due_to_job, due_to_world, end_of, is_left_unfinished}
use Rattle.fx_cli.specs.Ends.{Settles, WritesRun, settled, status_of_run}
use Rattle.fx_world.specs.declared.end.RunEnd.{RunEnd}
use Rattle.fx_world.specs.declared.end.RunEnd.TheVariants as run_end
use Rattle.fx_world.specs.declared.shown.Shown.{Shown}

-- a refusal's line, and its status
pub settles_refusal : (refusal : Refusal) (spot : Spot) (a b : SinkState) (put : Result (Unit {0}) PutEnd) →
    Puts a b (refusal_line refusal spot) put → Settles (due_refusal refusal spot) a b (settled put (status.BadJob refusal spot))
settles_refusal refusal spot a b (Ok done) p = (refl, p)
settles_refusal refusal spot a b (Err put_end.Failed) p = p
settles_refusal refusal spot a b (Err put_end.NoMemory) p = p

-- what is written whole, and that it is done
pub settles_done : (output : List ℕ) (a b : SinkState) (put : Result (Unit {0}) PutEnd) →
    Puts a b output put → Settles (record { status = status.Done; output = output }) a b (settled put status.Done)
settles_done output a b (Ok done) p = (refl, p)
settles_done output a b (Err put_end.Failed) p = p
settles_done output a b (Err put_end.NoMemory) p = p

-- the run of a world, where each line can be run
ended_as : (job : Job) (b : Bool) → is_left_unfinished job ≡ b → (if b then status.Unfinished else status.Done) ≡ end_of job
ended_as job b e = sym (ap (λ (u : Bool). if u then status.Unfinished else status.Done) e)

world_settles : (job : Job) (shown : Shown) (a b : SinkState) (end : Result (Unit {0}) RunEnd) →
    WritesRun job shown a b end → Settles (due_to_world shown job None) a b (status_of_run end)
world_settles job shown a b (Ok done) w =
    (ended_as job false w.content.0, record { content = w.content.1; count_never_falls = w.count_never_falls; failed_only_if_count_rose = λ e. absurd cc })
world_settles job shown a b (Err run_end.Unfinished) w =
    (ended_as job true w.content.0, record { content = w.content.1; count_never_falls = w.count_never_falls; failed_only_if_count_rose = λ e. absurd cc })
world_settles job shown a b (Err run_end.WriteFault) w =
    record { content = w.content; count_never_falls = w.count_never_falls; failed_only_if_count_rose = λ e. w.failed_only_if_count_rose refl }
world_settles job shown a b (Err run_end.NoMemory) w =
    record { content = w.content; count_never_falls = w.count_never_falls; failed_only_if_count_rose = λ e. absurd cc }

pub settles_world : (job : Job) (shown : Shown) (o : Option Spot) (a b : SinkState) (end : Result (Unit {0}) RunEnd) → o ≡ None →
    WritesRun job shown a b end → Settles (due_to_world shown job o) a b (status_of_run end)
settles_world job shown o a b end e w = subst (λ (p : Option Spot). Settles (due_to_world shown job p) a b (status_of_run end)) (sym e) (world_settles job shown a b end w)

-- a job that breaks a rule, and the line of its refusal
pub settles_broken : (asked : Mode) (job : Job) (o : Option Refused) (told fault : StaticFault) (place spot : Spot) (a b : SinkState) (s : Status) →
    told ≡ fault → place ≡ spot → o ≡ Some (record { fault = fault; spot = spot }) →
    Settles (due_refusal (Static told) place) a b s → Settles (due_to_job asked job o) a b s
settles_broken asked job o told fault place spot a b s same there broken settles =
    subst (λ (r : Option Refused). Settles (due_to_job asked job r) a b s) (sym broken)
    (subst (λ (t : StaticFault). Settles (due_refusal (Static t) spot) a b s) same
    (subst (λ (p : Spot). Settles (due_refusal (Static told) p) a b s) there settles))
