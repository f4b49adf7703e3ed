use Rattle.fx_text.proofs.NumberLemmas.{digits_more}
use Rattle.fx_text.proofs.number.value.Goals as goal

pub loop-digit-preserved : goal.loop-digit-preserved
loop-digit-preserved c =
    digits_more c.args.digits.now c.loop-digit.digit-index c.loop-digit.value c.saturating_mul.result c.from.result c.saturating_add-value.result
    c.loop-digit-test.true c.requires c.loop-digit.invariant c.saturating_mul.ensures c.from.ensures c.saturating_add-value.ensures
