use Rattle.std.proofs.Common.{◌≡◌, ◌<◌, suc, ◌∙◌, arith}
use Rattle.fx_node.specs.Standing.{Standing}
use Rattle.fx_node.proofs.Joining.{join_steps}
use Rattle.fx_node.proofs.node.Node.join.Goals as goal

pub returns-clause-joins : goal.returns-clause-joins
returns-clause-joins c = λ job n is may.
    let m : Standing = record {
      me = c.self-2.inside.me.0;
      ranks = c.self-2.inside.ranks;
      epoch = c.self-2.inside.epoch.0;
      comm = c.self-2.inside.comm;
      present = c.self-2.inside.present;
      role = c.self-2.inside.role;
      calls = c.self-2.inside.calls;
      stage = c.self-2.inside.stage;
      view = c.self-2.inside.view;
      flow = c.self-2.inside.flow;
      inbox = c.self-2.inside.inbox;
      failed = c.self-2.inside.failed;
    } in
    let same : m ≡ record c.args.self.now { inbox = c.broadcast.new.self.inbox } = c.self-2.view_is ∙ c.in_ok-broadcast.ensures.same in
    let next : c.in-Some.next ≡ suc c.args.self.now.epoch = rw (← c.self.view_is) (omega (arith, c.in-Some.ensures)) in
    let below : c.args.self.now.epoch < 4294967295 = rw (← c.self.view_is) (omega (arith, c.in-Some.ensures)) in
    join_steps job c.args.kind c.args.self.now m n c.in-Some.next c.broadcast.new.self.inbox c.args.sends.now c.broadcast.new.sends c.args.items.now c.push.new.self same next below
    c.in_ok-broadcast.ensures.says c.in_ok-broadcast.ensures.sends (rw (← c.self.view_is) c.in_ok-push.ensures.ok) is may
