use Rattle.std.proofs.Common.{rules, ◌≡◌, ◌<◌, length, arith}
use Rattle.fx_flow.proofs.Turns.{last_turned}
use Rattle.fx_flow.proofs.loops.Loops.turn.Goals as goal

pub returns-then-count-gt0 : goal.returns-then-count-gt0
returns-then-count-gt0 c =
    let long : c.len-count.result ≡ length c.self.inside.items.items = search rules in
    let some : 0 < length c.self.inside.items.items = omega (arith, c.if-count-gt0.true, long) in
    rw (← c.self.view_is, long) (last_turned c.args.turn c.self.inside.items.items some)
