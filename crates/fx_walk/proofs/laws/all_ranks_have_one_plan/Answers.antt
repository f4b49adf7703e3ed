use Rattle.fx_check.specs.Facts.{facts_of}
use Rattle.fx_walk.proofs.InStep.{keeps_to_plan}
use Rattle.fx_walk.proofs.TwoRanks.{along_plan}
use Rattle.fx_walk.proofs.laws.all_ranks_have_one_plan.Goals as goal

pub returns-clause-begins : goal.returns-clause-begins
returns-clause-begins c = λ job parts view state. keeps_to_plan (facts_of job) job.body parts.body view state

pub returns-clause-past : goal.returns-clause-past
returns-clause-past c = λ job parts view state replies stay. (along_plan (facts_of job) job.body parts.body view state replies stay).past

pub returns-clause-goes_on : goal.returns-clause-goes_on
returns-clause-goes_on c = λ job parts view state replies stay. (along_plan (facts_of job) job.body parts.body view state replies stay).keeps
