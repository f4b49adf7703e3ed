-- Where nothing more can happen in a world of an accepted job whose body asks nothing but barriers, reductions and agreements, it is over.
use Rattle.std.proofs.Common.{◌≡◌, ◌<◌, ℕ, true, false, List, ap}
use Rattle.std.specs.Prelude.{not}
use Rattle.fx_script.specs.declared.job.Job.{Job}
use Rattle.fx_store.proofs.Mirrors.{each_from}
use Rattle.fx_fleet.specs.Rounds.{all_over}
use Rattle.fx_fleet.specs.Runs.{job_setup}
use Rattle.fx_fleet.specs.World.{World, up}
use Rattle.fx_calm.proofs.Standing.{noted}
use Rattle.fx_legal.specs.Ledger.{procs_of}
use Rattle.fx_losses.specs.Losses.{IsStill}
use Rattle.fx_losses.proofs.Sizes.{accepted_numbers, legal_sized}
use Rattle.fx_calls.proofs.Causes.{Caused}
use Rattle.fx_calls.proofs.Rising.{Asking}
use Rattle.fx_calls.proofs.Still.{nobody_up}

pub still_is_over : (job : Job) → Asking job → (ps : List ℕ) (w : World) → Caused job ps w → ((q : ℕ) → w.killed q ≡ false → (w.node q).epoch < 4294967295) → IsStill (job_setup job) w → all_over (job_setup job) w ≡ true
still_is_over job asking ps w caused small still =
    let numbers = accepted_numbers job asking.accepted in
    each_from (procs_of job) (λ q. not (up (job_setup job) w q))
    (λ q below. ap not (nobody_up job ps w caused small still numbers.1 numbers.0 (legal_sized job asking.accepted (noted w.items) caused.legally.goes) q))
