use Rattle.std.proofs.Common.{arith, length}
use Rattle.std.proofs.lemmas.Grind.{common_steps}
use Rattle.fx_coll.specs.Answer.{has_left_without}
use Rattle.fx_coll.specs.Keeping.{known_at}
use Rattle.fx_coll.proofs.Firsts.{first_met}
use Rattle.fx_coll.proofs.gather.Gather.least_left.Goals as goal

pub returns-then-has_left_without : goal.returns-then-has_left_without
returns-then-has_left_without c =
    first_met (λ x. has_left_without (known_at c.args.self.now x)) c.loop-who.who (length c.args.self.now) (grind (arith, common_steps)) (grind (arith, common_steps)) (grind (arith, common_steps))
