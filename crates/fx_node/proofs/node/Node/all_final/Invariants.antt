-- those that are left all came to the end, exactly where all did
use Rattle.fx_node.proofs.Testing.{AllEnd}
use Rattle.fx_node.proofs.node.Node.all_final.Given as goal

abbrev pub invariant-loop-seat : goal.invariant-loop-seat
invariant-loop-seat l = AllEnd l.self-inside.present l.slots l.seat-items l.seat-index
