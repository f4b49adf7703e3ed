-- What is written so far, with the slots that are left, is the whole.
use Rattle.std.proofs.Common.{◌≡◌, ◌++◌, map, drop}
use Rattle.fx_text.specs.Written.{Keeps}
use Rattle.fx_lines.specs.Slots.{a_slot}
use Rattle.fx_trace.specs.Pieces.{each_behind}
use Rattle.fx_trace.proofs.field.push_other_slots.Given as goal

abbrev pub invariant-loop-slot : goal.invariant-loop-slot
invariant-loop-slot l = (l.out ++ each_behind 44 (map a_slot.spell (drop l.slot-index l.slots)) ≡ l.fn.out ++ each_behind 44 (map a_slot.spell l.slots)) × Keeps l.fn.out l.out
