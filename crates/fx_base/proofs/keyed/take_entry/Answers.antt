use Rattle.std.proofs.Common.{sym, ◌∙◌, arith}
use Rattle.fx_base.proofs.Entries.{holds, place_within, kept_at_place, kept_at_gap}
use Rattle.fx_base.proofs.keyed.take_entry.Goals as goal

pub remove-requires : goal.remove-requires
remove-requires g c = omega (arith, place_within g.K.Key.order c.args.key c.deref.result.now c.in-Ok.at c.in-Ok.ensures.found)

pub returns-in-Ok : goal.returns-in-Ok
returns-in-Ok g c =
    c.remove.ensures.items
    ∙ sym (kept_at_place g.K.Key.order g.met.K.Key.total c.args.key c.args.entries.now.items c.in-Ok.at (holds _ c.requires) (rw c.deref.ensures.value at c.in-Ok.ensures.found))

-- the key wasn't there
pub returns-in_default : goal.returns-in_default
returns-in_default g c =
    sym (kept_at_gap g.K.Key.order g.met.K.Key.total c.args.key c.args.entries.now.items c.in_default.field-0 (holds _ c.requires) (rw c.deref.ensures.value at c.in_default.ensures.absent))
