use Rattle.std.proofs.Common.{All, length, subst, sym, ap, ℕ, List, ◌<◌, ◌∙◌, arith}
use Rattle.fx_node.specs.contracts.node.Node.{the_view}
use Rattle.fx_node.specs.Standing.{Standing, IsNodeOf, IsDeciding, processes}
use Rattle.fx_node.proofs.Deciding.{Found, begin_takes, repaired_so, some_member}
use Rattle.fx_comm.specs.Seats.{Seat}
use Rattle.fx_node.proofs.node.Node.begin_epoch.Goals as goal

pub repair-requires : goal.repair-requires
repair-requires c = rw c.insert.ensures (some_member c.set_of-members.result c.self.inside.me.0)

pub invariant_of-self : goal.invariant_of-self
invariant_of-self c =
    let all = c.forget.ensures.of_all in
    let sound = c.self.invariant in
    let below : All (λ q. q < processes (the_view c.self.inside)) c.in_ok-present.present = c.in_ok-present.ensures.among _ (rw c.as_slice.ensures sound.members) in
    let many = ap (λ (l : List ℕ). length l) c.as_slice.ensures in
    record {
      few = omega (arith, all, sound.few);
      one_of_them = omega (arith, all, sound.one_of_them);
      same = c.forget.ensures.same ∙ sound.same;
      seats = subst (λ (bound : ℕ). All (λ (s : Seat). s.1.0 < bound) c.in_ok-comm.comm) (sym all)
          (repaired_so _ c.self.inside.me.0 c.self.inside.comm c.in_ok-comm.comm c.set_of-members.result c.in_ok-present.present (rw c.insert.ensures at c.in_ok-comm.ensures)
          (rw c.as_slice-3.ensures at c.set_of-members.ensures) below sound.one_of_them);
      members = subst (λ (bound : ℕ). All (λ q. q < bound) c.in_ok-present.present) (sym all) below;
      count = omega (arith, many, c.in_ok-present.ensures.fewer, sound.count);
      apart = c.in_ok-present.ensures.apart (rw c.as_slice.ensures sound.apart);
    }

pub returns-clause-begins : goal.returns-clause-begins
returns-clause-begins c = λ job n vote sends is dec.
    let m : Standing = record {
      me = c.self.inside.me.0;
      ranks = c.self.inside.ranks;
      epoch = c.self.inside.epoch.0;
      comm = c.self.inside.comm;
      present = c.self.inside.present;
      role = c.self.inside.role;
      calls = c.self.inside.calls;
      stage = c.self.inside.stage;
      view = c.self.inside.view;
      flow = c.self.inside.flow;
      inbox = c.self.inside.inbox;
      failed = c.self.inside.failed;
    } in
    let node_is : IsNodeOf job m n = rw (← c.self.view_is) at is in
    let decides : IsDeciding n vote c.args.slots.now m = rw (← c.self.view_is) at dec in
    let found : Found job m n c.args.slots.now c.in-Some.next c.in_ok-comm.comm c.in_ok-present.present c.role_behind-self-inside.result c.forget.new.self c.set_of-members.result = record {
      is_next = omega (arith, c.in-Some.ensures);
      present_is = rw (c.as_slice.ensures, c.as_slice-2.ensures) at c.in_ok-present.ensures.voters;
      members_are = rw c.as_slice-3.ensures at c.set_of-members.ensures;
      comm_is = rw c.insert.ensures at c.in_ok-comm.ensures;
      role_is = c.role_behind-self-inside.ensures job n is;
      knows = c.forget.ensures.ok;
    } in
    begin_takes job m n vote c.args.slots.now c.in-Some.next c.in_ok-comm.comm c.in_ok-present.present c.role_behind-self-inside.result c.forget.new.self c.set_of-members.result
    c.size.result c.depleted.result c.in_ok-copy.field-0 sends c.args.items.now c.push.new.self found c.size.ensures.size c.depleted.ensures (c.in_ok-copy.ensures ∙ c.seats.ensures) c.in_ok-push.ensures.ok node_is decides
