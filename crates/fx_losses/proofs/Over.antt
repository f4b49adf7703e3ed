-- Where nothing more can happen in the run of an accepted job, it is over.
use Rattle.std.proofs.Common.{◌≡◌, ℕ, true, ap}
use Rattle.std.specs.Prelude.{not}
use Rattle.fx_check.specs.Acceptance.{IsAccepted}
use Rattle.fx_script.specs.declared.job.Job.{Job}
use Rattle.fx_store.proofs.Mirrors.{each_from}
use Rattle.fx_fleet.specs.Rounds.{all_over, whole}
use Rattle.fx_fleet.specs.Runs.{AsksNothing, job_setup, moments_of}
use Rattle.fx_fleet.specs.World.{up}
use Rattle.fx_legal.specs.Ledger.{procs_of}
use Rattle.fx_calm.proofs.Standing.{noted}
use Rattle.fx_losses.specs.Losses.{IsStill}
use Rattle.fx_losses.proofs.Accepted.{kills_processes}
use Rattle.fx_losses.proofs.Legality.{legally}
use Rattle.fx_losses.proofs.Sizes.{accepted_numbers, legal_sized}
use Rattle.fx_losses.proofs.Still.{nobody_up}

pub is_over : (job : Job) → IsAccepted job → AsksNothing job → (fuel bound : ℕ) → IsStill (job_setup job) (whole (job_setup job) fuel bound (moments_of job))
    → all_over (job_setup job) (whole (job_setup job) fuel bound (moments_of job)) ≡ true
is_over job accepted asks fuel bound still =
    let is = legally job asks (kills_processes job accepted) fuel bound in
    let numbers = accepted_numbers job accepted in
    each_from (procs_of job) (λ q. not (up (job_setup job) (whole (job_setup job) fuel bound (moments_of job)) q))
    (λ q few. ap not (nobody_up job _ (whole (job_setup job) fuel bound (moments_of job)) is numbers.1 still numbers.0
    (legal_sized job accepted (noted (whole (job_setup job) fuel bound (moments_of job)).items) is.goes) q))
