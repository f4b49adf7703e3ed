use Rattle.std.proofs.Common.{◌≡◌, ◌++◌, map, take, drop}
use Rattle.fx_inbox.proofs.Keeping.{of_later}
use Rattle.fx_inbox.proofs.inbox.Inbox.forget.Given as goal

abbrev pub invariant-loop-row : goal.invariant-loop-row
invariant-loop-row l = l.row-items ≡ map (of_later l.epoch.0 l.call.0) (take l.row-index l.initial.row-items) ++ drop l.row-index l.initial.row-items
