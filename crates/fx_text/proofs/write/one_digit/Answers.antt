use Rattle.fx_text.proofs.NumberLemmas.{digit_between}
use Rattle.fx_text.proofs.write.one_digit.Goals as goal

pub returns : goal.returns
returns c = digit_between c.args.number c.ranges.number c.if-number-lt0.false c.if-number-gt9.false
