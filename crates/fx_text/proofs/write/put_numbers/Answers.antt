use Rattle.std.proofs.Common.{arith}
use Rattle.fx_text.proofs.WrittenLemmas.{whole_more, keeps_through}
use Rattle.fx_text.proofs.write.put_numbers.Goals as goal

-- some more
pub loop-at-preserved : goal.loop-at-preserved
loop-at-preserved c = record {
  within = omega (arith, c.in_ok-at.ensures.within.1);
  rest = whole_more c.args.numbers.now c.loop-at.at c.in_ok-at.field-0 c.loop-at.out c.put_some.new.out _ c.in_ok-at.ensures.ok c.loop-at.invariant.rest;
  keeps = keeps_through _ _ _ c.loop-at.invariant.keeps c.put_some.ensures.keeps;
}
