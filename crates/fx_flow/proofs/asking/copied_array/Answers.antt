use Rattle.std.proofs.Common.{[], sym, ◌∙◌}
use Rattle.fx_flow.proofs.Slots.{none_is_past}
use Rattle.fx_flow.proofs.asking.copied_array.Goals as goal

pub returns-in-None : goal.returns-in-None
returns-in-None c = c.new.ensures ∙ sym (none_is_past c.args.values.now.arrays c.args.slot [] (sym (rw c.in-None.is at c.elements.ensures)))
