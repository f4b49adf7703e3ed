use Rattle.fx_check.proofs.LineParts.{all_accepted, unrefused}
use Rattle.fx_check.proofs.check.check_job.Goals as goal

pub returns-clause-accepted : goal.returns-clause-accepted
returns-clause-accepted c = all_accepted c.check_exactly.result c.args.job c.check_exactly.ensures.same c.check_exactly.ensures.exact

pub returns-clause-only : goal.returns-clause-only
returns-clause-only c = unrefused c.check_exactly.result c.args.job c.check_exactly.ensures.exact
