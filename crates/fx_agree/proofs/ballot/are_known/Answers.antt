use Rattle.std.proofs.Common.{arith}
use Rattle.std.proofs.lemmas.Grind.{common_steps}
use Rattle.fx_agree.proofs.Gathering.{none_at}
use Rattle.fx_agree.proofs.ballot.are_known.Goals as goal

pub returns-then-not-is_known-clause-unknown : goal.returns-then-not-is_known-clause-unknown
returns-then-not-is_known-clause-unknown c = λ e.
    none_at c.args.heard.now c.loop-known.known-index c.known-item.result (omega arith) c.known-item.is
    (c.is_known.ensures.unknown (grind (arith, common_steps)))
