-- what is sent so far is to the members gone over
use Rattle.std.proofs.Common.{◌≡◌, ◌++◌, take}
use Rattle.fx_node.specs.Stepping.{broadcast}
use Rattle.fx_node.proofs.node.Node.broadcast.Given as goal

abbrev pub invariant-loop-member : goal.invariant-loop-member
invariant-loop-member l = record {
  sent : l.sends ≡ l.fn.sends ++ broadcast l.fn.self.me (take l.member-index l.members) l.fn.message;
  same : l.message ≡ l.fn.message;
}
