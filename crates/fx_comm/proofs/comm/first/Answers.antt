use Rattle.std.proofs.Common.{sym, ◌∙◌}
use Rattle.fx_comm.proofs.Firsts.{first_comm}
use Rattle.fx_comm.proofs.Steps.{first_step, first_end}
use Rattle.fx_comm.proofs.comm.first.Goals as goal

pub loop-number-preserved : goal.loop-number-preserved
loop-number-preserved c =
    rw c.in_ok-push.ensures.ok (first_step c.loop-number.seats c.loop-number.number c.args.ranks c.loop-number-test.true ∙ c.loop-number.invariant)

pub invariant_of-result : goal.invariant_of-result
invariant_of-result c =
    rw (← first_end c.loop-number.seats c.loop-number.number c.args.ranks c.loop-number-test.false, c.loop-number.invariant) (first_comm c.args.ranks c.requires.some c.requires.at_most_32)

pub returns : goal.returns
returns c = sym (first_end c.loop-number.seats c.loop-number.number c.args.ranks c.loop-number-test.false) ∙ c.loop-number.invariant
