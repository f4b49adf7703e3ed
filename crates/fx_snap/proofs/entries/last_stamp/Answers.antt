use Rattle.std.proofs.Common.{sym}
use Rattle.fx_snap.proofs.Parts.{newest_is_last}
use Rattle.fx_snap.proofs.entries.last_stamp.Goals as goal

pub returns-in-Some : goal.returns-in-Some
returns-in-Some c = sym (newest_is_last c.args.entries.now c.in-Some.entry.now (sym c.in-Some.ensures.value))
