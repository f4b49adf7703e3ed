use Rattle.std.specs.Prelude.{false}
use Rattle.fx_inbox.specs.contracts.inbox.Inbox.{the_view}
use Rattle.fx_inbox.proofs.Keeping.{knows_nothing}
use Rattle.fx_inbox.proofs.inbox.Inbox.new.Goals as goal

pub returns-clause-knows : goal.returns-clause-knows
returns-clause-knows c = λ s.
    knows_nothing c.args.me.0 c.loop-process._process (the_view (record { me = c.args.me; lost = c.new-2.result; rows = c.loop-process.rows; joined = false }))
    (λ i. record { me = c.args.me.0; lost = c.new-2.ensures i; messages = c.loop-process.invariant i })
