use Rattle.std.proofs.Common.{◌<◌, length, arith}
use Rattle.std.specs.Int.{w64, int_wrapping_mul}
use Rattle.fx_value.proofs.Pairs.{paired_more}
use Rattle.fx_value.proofs.column.multiply_all.Goals as goal

pub loop-at-preserved : goal.loop-at-preserved
loop-at-preserved c =
    let within : c.loop-at.at < length c.args.left.now = omega arith in
    let beside : c.loop-at.at < length c.args.right.now = omega arith in
    paired_more (int_wrapping_mul w64) c.args.left.now c.args.right.now c.loop-at.left c.loop-at.at within beside c.loop-at.invariant
