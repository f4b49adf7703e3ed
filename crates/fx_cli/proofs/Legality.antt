-- What holds of the journals of accepted jobs that can be run.
use Rattle.std.specs.Prelude.{◌≡◌, false, None}
use Rattle.fx_check.specs.Acceptance.{IsAccepted}
use Rattle.fx_script.specs.declared.job.Job.{Job}
use Rattle.fx_script.specs.Spelling.{IsWritable}
use Rattle.fx_fleet.specs.Runs.{journal_of}
use Rattle.fx_legal.specs.Legal.{IsLegalWhole, AllHaveEnded}
use Rattle.fx_losses.specs.Losses.{EachEpochHasItsLoss}
use Rattle.fx_cli.specs.Built.{first_unbuilt}
use Rattle.fx_cli.specs.Dues.{is_left_unfinished}

-- they are legal, each epoch in them has its loss, their tails are enough, and all their processes end in them
pub record AreLawful : Type 0 where
  pub legal : (job : Job) → IsWritable job → IsAccepted job → first_unbuilt job ≡ None → IsLegalWhole job (journal_of job)
  pub losses : (job : Job) → IsWritable job → IsAccepted job → first_unbuilt job ≡ None → EachEpochHasItsLoss job (journal_of job)
  pub over : (job : Job) → IsWritable job → IsAccepted job → first_unbuilt job ≡ None → is_left_unfinished job ≡ false
  pub ended : (job : Job) → IsWritable job → IsAccepted job → first_unbuilt job ≡ None → AllHaveEnded job (journal_of job)
