use Rattle.fx_node.proofs.Agreeing.{one_more_flag}
use Rattle.fx_node.proofs.agree.common_bits.Goals as goal

pub loop-slot-preserved-in-Flag : goal.loop-slot-preserved-in-Flag
loop-slot-preserved-in-Flag c =
    one_more_flag c.args.slots.now c.loop-slot.slot-iterator.iter.rest.now c.next.new.self.iter.rest.now c.in-Some.slot.now c.in-Flag.flag c.loop-slot.bits-bits c.loop-slot.invariant
    c.in-Some.ensures.steps c.in-Flag.is c.loop-slot.auto.bits-fits
