-- it is among the members that are left exactly where it is among all
use Rattle.std.proofs.Common.{◌≡◌, drop}
use Rattle.fx_ballot.specs.Names.{has}
use Rattle.fx_node.proofs.node.Node.has_left.Given as goal

abbrev pub invariant-loop-member : goal.invariant-loop-member
invariant-loop-member l = has (drop l.member-index l.member-items) l.who ≡ has l.member-items l.who
