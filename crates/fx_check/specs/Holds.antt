-- What an accepted job keeps beside itself.
use Rattle.std.specs.Prelude.{◌≡◌, ℕ}
use Rattle.fx_script.specs.declared.job.Job.{Job}
use Rattle.fx_script.specs.Canonical.{HasText}
use Rattle.fx_check.specs.Acceptance.{IsAccepted}
use Rattle.fx_check.specs.Rules.{procs_of}
use Rattle.fx_check.specs.Work.{work_of}

-- the job is accepted, some text spells it, and these are its processes and its work
pub record Holds (job : Job) (procs work : ℕ) : Type 0 where
  pub accepted : IsAccepted job
  pub has_text : HasText job
  pub same_procs : procs ≡ procs_of job
  pub same_work : work ≡ work_of job.body
