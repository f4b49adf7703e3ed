use Rattle.fx_check.proofs.PartLemmas.{by_parts}
use Rattle.fx_check.proofs.accepted.Accepted.job.Goals as goal

pub returns-clause-by_parts : goal.returns-clause-by_parts
returns-clause-by_parts c = rw (← c.self.view_is) (by_parts c.self.inside.job c.self.invariant.accepted)
