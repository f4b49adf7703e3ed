-- all of those that are left agree, exactly where all do
use Rattle.std.proofs.Common.{◌≡◌, drop}
use Rattle.fx_machine.specs.Waits.{all_agree}
use Rattle.fx_node.proofs.agree.all_agree.Given as goal

abbrev pub invariant-loop-slot : goal.invariant-loop-slot
invariant-loop-slot l = all_agree (drop l.slot-index l.slot-items) ≡ all_agree l.slots
