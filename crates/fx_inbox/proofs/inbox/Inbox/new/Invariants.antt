use Rattle.std.proofs.Common.{◌≡◌, [], replicate}
use Rattle.fx_inbox.proofs.inbox.Inbox.new.Given as goal

abbrev pub invariant-loop-process : goal.invariant-loop-process
invariant-loop-process l = l.rows.items ≡ replicate l._process []
