use Rattle.fx_inbox.proofs.Keeping.{knows_loss}
use Rattle.std.proofs.Common.{arith}
use Rattle.std.proofs.lemmas.Grind.{common_steps}
use Rattle.fx_inbox.specs.contracts.inbox.Inbox.{the_view}
use Rattle.fx_inbox.proofs.inbox.Inbox.lose.Goals as goal

pub returns-clause-ok : goal.returns-clause-ok
returns-clause-ok c = λ n know.
    knows_loss n.me n.epoch n.calls c.args.who.0 n.lost n.texts c.args.self.now
    (the_view (record { me = c.self.inside.me; lost = c.insert.new.self; rows = c.self.inside.rows; joined = c.self.inside.joined })) (grind (arith, common_steps)) know
