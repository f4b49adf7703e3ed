use Rattle.fx_text.proofs.NumberLemmas.{two_digits_between}
use Rattle.fx_text.proofs.write.two_digits.Goals as goal

pub returns : goal.returns
returns c = two_digits_between c.args.number c.ranges.number c.if-number-lt10.false c.if-number-gt99.false
