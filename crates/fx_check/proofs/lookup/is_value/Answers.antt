use Rattle.std.proofs.Common.{◌∙◌}
use Rattle.fx_check.proofs.Names.{declared_is_value}
use Rattle.fx_check.proofs.lookup.is_value.Goals as goal

pub returns : goal.returns
returns c = rw c.names.ensures at c.is_declared.ensures ∙ declared_is_value c.args.job.now.names c.args.name.now
