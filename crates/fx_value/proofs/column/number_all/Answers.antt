use Rattle.std.proofs.Common.{rules}
use Rattle.std.specs.Prelude.{pos}
use Rattle.std.specs.Int.{w64}
use mir.Facts.{to_z-of_z}
use mir.Val.{SFits}
use Rattle.fx_value.proofs.Numbered.{numbered_more}
use Rattle.fx_value.proofs.column.number_all.Goals as goal

pub loop-at-preserved : goal.loop-at-preserved
loop-at-preserved c =
    let fits : SFits w64 (pos c.loop-at.at) = search rules in
    rw (to_z-of_z {w = w64} {z = pos c.loop-at.at} fits) (numbered_more c.args.column.now c.loop-at.column c.loop-at.at c.loop-at-test.true c.loop-at.invariant)
