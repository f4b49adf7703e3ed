use Rattle.std.proofs.Common.{◌<◌, ◌∙◌, length, arith}
use Rattle.fx_value.proofs.Writes.{zero_more}
use Rattle.fx_value.proofs.values.zero.Goals as goal

pub loop-at-preserved : goal.loop-at-preserved
loop-at-preserved c =
    let within : c.loop-at.at < length c.args.array.now = omega arith in
    c.set.ensures ∙ zero_more c.args.array.now c.loop-at.array c.loop-at.at within c.loop-at.invariant
