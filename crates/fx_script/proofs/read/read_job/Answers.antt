use Rattle.std.proofs.Common.{Result, subst}
use Rattle.fx_script.specs.declared.job.Job.{Job}
use Rattle.fx_script.specs.Answers.{Answers}
use Rattle.fx_script.specs.Reading.{Refusal}
use Rattle.fx_script.proofs.Spelled.{is_spelled, is_read}
use Rattle.fx_script.proofs.read.read_job.Goals as goal

pub returns-clause-found : goal.returns-clause-found
returns-clause-found c = is_spelled c.args.text.now c.read_exactly.result c.read_exactly.ensures

pub returns-clause-only : goal.returns-clause-only
returns-clause-only c = λ job spells.
    subst (λ (reading : Result Job Refusal). Answers c.read_exactly.result reading) (is_read c.args.text.now job spells) c.read_exactly.ensures
