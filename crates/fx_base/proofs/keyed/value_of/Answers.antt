use Rattle.std.proofs.Common.{length, refl, sym, ◌∙◌, arith, ◌<◌, ap, Some}
use Rattle.std.proofs.lemmas.Option.{slice_get_read}
use Rattle.fx_base.proofs.Entries.{holds, place_within, found_at_place, none_at_gap}
use Rattle.fx_base.proofs.keyed.value_of.Goals as goal

pub offset_bounds-entries-at : goal.offset_bounds-entries-at
offset_bounds-entries-at g c = omega (arith, place_within g.K.Key.order c.args.key c.args.entries.now c.in-Ok.at c.in-Ok.ensures.found)

pub bounds-entries-at : goal.bounds-entries-at
bounds-entries-at g c = place_within g.K.Key.order c.args.key c.args.entries.now c.in-Ok.at c.in-Ok.ensures.found

pub returns-in-Ok : goal.returns-in-Ok
returns-in-Ok g c =
    let within : c.in-Ok.at < length c.args.entries.now = place_within g.K.Key.order c.args.key c.args.entries.now c.in-Ok.at c.in-Ok.ensures.found in
    let read = slice_get_read c.args.entries.now (length c.args.entries.now) c.in-Ok.at c.index-entries-at.result refl within c.index-entries-at.is in
    ap (λ e. Some e.1) (sym c.index-entries-at.is)
    ∙ sym (found_at_place g.K.Key.order c.args.key c.args.entries.now c.in-Ok.at c.index-entries-at.result c.in-Ok.ensures.found read)

pub returns-in-Err : goal.returns-in-Err
returns-in-Err g c =
    sym (none_at_gap g.K.Key.order g.met.K.Key.total c.args.key c.args.entries.now c.in-Err.field-0 (holds _ c.requires) c.in-Err.ensures.absent)
