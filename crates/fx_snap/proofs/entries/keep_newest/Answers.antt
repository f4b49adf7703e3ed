use Rattle.std.proofs.Common.{◌∙◌, ap, arith}
use Rattle.fx_store.specs.Store.{newest}
use Rattle.fx_snap.proofs.Parts.{newest_without_first}
use Rattle.fx_snap.proofs.entries.keep_newest.Goals as goal

pub loop-entries-preserved : goal.loop-entries-preserved
loop-entries-preserved c =
    ap (newest c.args.count) c.remove.ensures.items ∙ newest_without_first c.args.count c.loop-entries.entries.items (omega (arith, c.loop-entries-test.true, c.len.ensures, c.loop-entries.entries.ok.0)) ∙ c.loop-entries.invariant
