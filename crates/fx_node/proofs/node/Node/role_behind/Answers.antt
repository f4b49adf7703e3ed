use Rattle.std.proofs.Common.{sym, true, false}
use Rattle.fx_node.proofs.Testing.{role_of_place}
use Rattle.fx_node.proofs.node.Node.role_behind.Goals as goal

pub returns-then-is_some : goal.returns-then-is_some
returns-then-is_some c =
    rw (← c.self.view_is) (λ job n is. role_of_place n c.self.inside.comm c.self.inside.me.0 c.self.inside.epoch.0 c.place_of.result true is.epoch is.comm is.me c.if-self-eq0.false c.place_of.ensures.place (sym c.if-is_some.ensures))

pub returns-else-is_some : goal.returns-else-is_some
returns-else-is_some c =
    rw (← c.self.view_is) (λ job n is. role_of_place n c.self.inside.comm c.self.inside.me.0 c.self.inside.epoch.0 c.place_of.result false is.epoch is.comm is.me c.if-self-eq0.false c.place_of.ensures.place (sym c.if-is_some.ensures))
