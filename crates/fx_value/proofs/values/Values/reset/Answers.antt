use Rattle.std.proofs.Common.{◌∙◌}
use Rattle.fx_value.proofs.Shapes.{kept_at_init}
use Rattle.fx_value.proofs.values.Values.reset.Goals as goal

pub returns-clause-begins : goal.returns-clause-begins
returns-clause-begins c = λ f shaped. c.keep.ensures ∙ kept_at_init f c.args.role c.args.self.now shaped
