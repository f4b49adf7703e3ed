use Rattle.std.proofs.Common.{◌<◌, suc, inl, inr}
use Rattle.fx_machine.specs.Reading.{is_join}
use Rattle.fx_node.proofs.Electing.{all_voted, all_counted, voters_fewer, voters_among, voters_apart}
use Rattle.fx_node.proofs.node.voters.Goals as goal

pub returns-clause-voters : goal.returns-clause-voters
returns-clause-voters c = elim c.in-None.ensures.steps [
  | inl w ↦ all_voted (is_join (suc c.args.epoch.0)) c.loop-member.voters _ _ _ w.1.0 c.loop-member.invariant
  | inr w ↦ all_counted (is_join (suc c.args.epoch.0)) c.loop-member.voters _ _ _ w.1.0 c.loop-member.invariant
]

pub returns-clause-fewer : goal.returns-clause-fewer
returns-clause-fewer c = rw (returns-clause-voters c) (voters_fewer (is_join (suc c.args.epoch.0)) c.args.members.now c.args.slots.now)

pub returns-clause-among : goal.returns-clause-among
returns-clause-among c = rw (returns-clause-voters c) (λ bound all. voters_among (λ q. q < bound) (is_join (suc c.args.epoch.0)) c.args.members.now c.args.slots.now all)

pub returns-clause-apart : goal.returns-clause-apart
returns-clause-apart c = rw (returns-clause-voters c) (λ apart. voters_apart (is_join (suc c.args.epoch.0)) c.args.members.now c.args.slots.now apart)
