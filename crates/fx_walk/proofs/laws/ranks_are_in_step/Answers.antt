use Rattle.fx_check.specs.Facts.{facts_of}
use Rattle.fx_walk.proofs.TwoRanks.{same_past, same_next, same_stamps}
use Rattle.fx_walk.proofs.laws.ranks_are_in_step.Goals as goal

pub returns-clause-past : goal.returns-clause-past
returns-clause-past c = λ job parts one other state beside replies others alike.
    same_past (facts_of job) job.body parts.body one other state beside alike.begun replies others alike.one_stays alike.other_stays alike.same

pub returns-clause-next : goal.returns-clause-next
returns-clause-next c = λ job parts one other state beside replies others alike.
    same_next (facts_of job) job.body parts.body one other state beside alike.begun replies others alike.one_stays alike.other_stays alike.same

pub returns-clause-stamps : goal.returns-clause-stamps
returns-clause-stamps c = λ job parts one other state beside replies others alike.
    same_stamps (facts_of job) job.body parts.body one other state beside alike.begun replies others alike.one_stays alike.other_stays alike.same
