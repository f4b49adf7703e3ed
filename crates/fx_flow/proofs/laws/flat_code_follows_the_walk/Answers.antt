use Rattle.fx_check.specs.Facts.{facts_of}
use Rattle.fx_check.specs.Rules.{body_place}
use Rattle.fx_flow.proofs.Declared.{declares}
use Rattle.fx_flow.proofs.Following.{begins}
use Rattle.fx_flow.proofs.laws.flat_code_follows_the_walk.Goals as goal

pub returns : goal.returns
returns c = λ job parts code begin is view state. begins (facts_of job) code begin job.body is (declares job parts) body_place parts.body view state
