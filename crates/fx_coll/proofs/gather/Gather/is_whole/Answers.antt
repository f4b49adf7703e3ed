use Rattle.std.proofs.Common.{arith}
use Rattle.std.proofs.lemmas.Grind.{common_steps}
use Rattle.fx_coll.proofs.Answers.{absent_at}
use Rattle.fx_coll.proofs.gather.Gather.is_whole.Goals as goal

pub returns-then-is_none : goal.returns-then-is_none
returns-then-is_none c =
    absent_at c.args.self.now c.loop-known.known-index c.known-item.result (grind (arith, common_steps)) (grind (arith, common_steps)) (grind (arith, common_steps))
