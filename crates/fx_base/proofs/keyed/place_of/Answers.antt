use Rattle.std.proofs.Common.{◌≡◌, ◌<◌, ◌+◌, length, refl, arith}
use Rattle.std.proofs.lemmas.Option.{slice_get_read}
use Rattle.fx_base.proofs.Entries.{holds, place_at, above_read, gap_between}
use Rattle.fx_base.proofs.keyed.place_of.Goals as goal

-- the entry in the middle ties
pub returns-in-Equal-clause-found : goal.returns-in-Equal-clause-found
returns-in-Equal-clause-found g c =
    let middle = c.if-high-entries.middle in
    let within : middle < length c.args.entries.now = omega arith in
    let read = slice_get_read c.args.entries.now (length c.args.entries.now) middle c.index-entries-middle.result refl within c.index-entries-middle.is in
    place_at g.K.Key.order g.met.K.Key.total c.args.key c.args.entries.now middle c.index-entries-middle.result (holds _ c.requires) read (cc)

-- it is below the key
pub loop-low-preserved : goal.loop-low-preserved
loop-low-preserved g c =
    let middle = c.if-high-entries.middle in
    let within : middle < length c.args.entries.now = omega arith in
    let read = slice_get_read c.args.entries.now (length c.args.entries.now) middle c.index-entries-middle.result refl within c.index-entries-middle.is in
    record {
      ordered = omega arith;
      within = c.loop-low.invariant.within;
      above = above_read g.K.Key.order c.args.key c.args.entries.now middle (middle + 1) c.index-entries-middle.result (omega arith) read (cc);
      below = c.loop-low.invariant.below;
    }

-- nothing ties, and the place is between its neighbours
pub returns-clause-absent : goal.returns-clause-absent
returns-clause-absent g c =
    let met : c.loop-low.high ≡ c.loop-low.low = omega arith in
    gap_between g.K.Key.order g.met.K.Key.total c.args.key c.args.entries.now c.loop-low.low (holds _ c.requires) (omega arith) c.loop-low.invariant.above (rw met at c.loop-low.invariant.below)
