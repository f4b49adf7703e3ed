use Rattle.fx_check.specs.Facts.{facts_of}
use Rattle.fx_value.proofs.Staying.{stays_shaped}
use Rattle.fx_value.proofs.laws.walks_keep_the_shape.Goals as goal

pub returns : goal.returns
returns c = λ job state parts is view. stays_shaped (facts_of job) job.body parts.body state is view
