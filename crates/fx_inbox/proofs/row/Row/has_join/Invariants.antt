use Rattle.std.proofs.Common.{◌≡◌, drop}
use Rattle.std.specs.List.{list_any}
use Rattle.fx_inbox.specs.Joins.{tells_join}
use Rattle.fx_inbox.proofs.row.Row.has_join.Given as goal

abbrev pub invariant-loop-message : goal.invariant-loop-message
invariant-loop-message l = list_any tells_join (drop l.message-index l.self) ≡ list_any tells_join l.self
