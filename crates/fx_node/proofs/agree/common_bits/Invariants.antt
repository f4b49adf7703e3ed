-- the bits are those of the slots gone over, the last ones
use Rattle.fx_node.proofs.Agreeing.{Behind}
use Rattle.fx_node.proofs.agree.common_bits.Given as goal

abbrev pub invariant-loop-slot : goal.invariant-loop-slot
invariant-loop-slot l = Behind l.slots l.slot-iterator.iter.rest.now l.bits
