use Rattle.std.proofs.Common.{sym, ◌∙◌, arith}
use Rattle.fx_base.proofs.Entries.{place_within, gap_within, put_at_place, put_at_gap}
use Rattle.fx_base.proofs.keyed.put_entry.Goals as goal

pub index_mut-requires : goal.index_mut-requires
index_mut-requires g c = omega (arith, place_within g.K.Key.order c.args.key c.deref.result.now c.in-Ok.at c.in-Ok.ensures.found)

pub insert-requires : goal.insert-requires
insert-requires g c = omega (arith, gap_within g.K.Key.order c.args.key c.deref.result.now c.in-Err.at c.in-Err.ensures.absent)

-- the key was there, and its value is written over
pub returns-in-Ok-clause-ok : goal.returns-in-Ok-clause-ok
returns-in-Ok-clause-ok g c =
    sym (put_at_place g.K.Key.order g.met.K.Key.same c.args.key c.args.entries.now.items c.in-Ok.at c.args.value (rw c.deref.ensures.value at c.in-Ok.ensures.found))

-- the entry is added in the gap
pub returns-in_ok-insert-in-Err-clause-ok : goal.returns-in_ok-insert-in-Err-clause-ok
returns-in_ok-insert-in-Err-clause-ok g c =
    c.in_ok-insert-in-Err.ensures.items
    ∙ sym (put_at_gap g.K.Key.order c.args.key c.args.entries.now.items c.in-Err.at c.args.value (rw c.deref.ensures.value at c.in-Err.ensures.absent))
