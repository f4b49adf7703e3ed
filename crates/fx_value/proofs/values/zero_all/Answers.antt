use Rattle.fx_value.proofs.Writes.{zero_more}
use Rattle.fx_value.proofs.values.zero_all.Goals as goal

pub loop-number-preserved : goal.loop-number-preserved
loop-number-preserved c = zero_more c.args.numbers.now c.loop-number.numbers c.loop-number.number-index c.loop-number-test.true c.loop-number.invariant
