use Rattle.fx_lines.specs.Slots.{a_slot}
use Rattle.fx_link.specs.declared.slot.Slot.TheVariants.{Start}
use Rattle.fx_trace.proofs.Texts.{on_ok, list_written}
use Rattle.fx_trace.proofs.field.put_slots.Goals as goal

pub returns-in_ok-put_slot-in-len1-up-clause-ok : goal.returns-in_ok-put_slot-in-len1-up-clause-ok
returns-in_ok-put_slot-in-len1-up-clause-ok c =
    on_ok c.push_other_slots.result
    (list_written a_slot.spell Start c.args.out.now c.put_slot.new.out c.push_other_slots.new.out 44 c.args.slots.now c.in-len1-up.len_at_least
    c.in_ok-put_slot-in-len1-up.ensures.ok)
    c.push_other_slots.ensures.ok
