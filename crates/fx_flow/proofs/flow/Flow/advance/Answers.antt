use Rattle.fx_flow.proofs.Kept.{acted_on}
use Rattle.fx_flow.proofs.Went.{came_from, went_on}
use Rattle.fx_flow.proofs.flow.Flow.advance.Goals as goal

pub returns-clause-goes_on : goal.returns-clause-goes_on
returns-clause-goes_on c = went_on c.act.result c.args.view.now c.args.self.now c.act.new.self c.act.ensures.same c.act.ensures.acts

pub returns-clause-came_from : goal.returns-clause-came_from
returns-clause-came_from c = came_from c.act.result c.args.view.now c.args.self.now c.act.new.self c.act.ensures.same c.act.ensures.acts

pub returns-clause-same_job : goal.returns-clause-same_job
returns-clause-same_job c = acted_on c.act.result c.args.view.now c.args.self.now c.act.new.self c.act.ensures.same c.act.ensures.acts
