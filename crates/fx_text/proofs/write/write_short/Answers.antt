use Rattle.std.proofs.Common.{get_or, arith, rules}
use Rattle.std.specs.Prelude.{pos}
use Rattle.std.proofs.lemmas.Int.{to_z-of_z}
use mir.Syntax.{w64}
use mir.Val.{SFits}
use Rattle.fx_text.proofs.WrittenLemmas.{one_digit_more, two_digits_more}
use Rattle.fx_text.proofs.write.write_short.Goals as goal
use Rattle.fx_text.proofs.write.write_short.Goals.{in-Some, in_default+in-Some-two_digits}

-- one number more
pub loop-count-preserved : goal.loop-count-preserved
loop-count-preserved c =
    let number = get_or c.args.numbers.now c.loop-count.count (pos 0) in
    let fits : SFits w64 number = search rules in
    let is = to_z-of_z w64 number fits in
    elim c.match-one_digit.branch [
      | in-Some w ↦ record {
        within = omega arith;
        fits = rw (w.bytes-is) (omega arith);
        room = rw (w.text-is) (search rules);
        written = rw (w.text-is, w.bytes-is) (one_digit_more c.loop-count.text c.loop-count.bytes c.args.numbers.now c.loop-count.count w.in-Some.digit _ (omega arith) (omega arith) is w.in-Some.ensures c.loop-count.invariant.written);
      }
      | in_default+in-Some-two_digits w ↦ record {
        within = omega arith;
        fits = rw (w.bytes-is) (omega arith);
        room = rw (w.text-is) (search rules);
        written = rw (w.text-is, w.bytes-is) (two_digits_more c.loop-count.text c.loop-count.bytes c.args.numbers.now c.loop-count.count w.in-Some-two_digits.tens w.in-Some-two_digits.ones _ (omega arith) (omega arith) is w.in-Some-two_digits.ensures c.loop-count.invariant.written);
      }
    ]
