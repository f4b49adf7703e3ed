use Rattle.std.proofs.Common.{arith}
use Rattle.fx_agree.proofs.Gathering.{some_at}
use Rattle.fx_agree.proofs.ballot.gathered.Goals as goal

pub slot_known-requires : goal.slot_known-requires
slot_known-requires c = some_at c.args.heard.now c.loop-known.known-index c.known-item.result (omega arith) c.known-item.is c.requires
