-- the voters so far, joined with those that are left, are all
use Rattle.std.proofs.Common.{◌≡◌, ◌++◌, suc}
use Rattle.fx_machine.specs.Ballots.{voters}
use Rattle.fx_machine.specs.Reading.{is_join}
use Rattle.fx_node.proofs.node.voters.Given as goal

abbrev pub invariant-loop-member : goal.invariant-loop-member
invariant-loop-member l =
    l.voters ++ voters (is_join (suc l.epoch.0)) l.member-iterator.a.rest.now l.member-iterator.b.rest.now ≡ voters (is_join (suc l.epoch.0)) l.members l.slots
