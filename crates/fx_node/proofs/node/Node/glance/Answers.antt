use Rattle.std.proofs.Common.{◌≡◌, ◌+◌, ℕ, List, length, ap, sym, subst, arith, ◌∙◌}
use Rattle.fx_comm.specs.Seats.{Seat}
use Rattle.fx_machine.specs.Nodes.{size}
use Rattle.fx_node.proofs.Glancing.{sees_all, sees_more}
use Rattle.fx_node.specs.Glancing.{IsSeenBelow}
use Rattle.fx_node.specs.Standing.{Standing}
use Rattle.fx_node.specs.declared.glance.Glance.{Glance}
use Rattle.fx_node.proofs.node.Node.glance.Goals as goal

pub loop-one-preserved : goal.loop-one-preserved
loop-one-preserved c =
    let sized : c.size-one-end.result ≡ length c.args.self.now.comm = c.size-one-end.ensures.size ∙ ap (λ (s : Standing). length s.comm) c.self.view_is in
    record {
      within = omega (arith, sized, c.loop-one-test.true);
      seen = λ job n is carried.
          subst (λ (seen : Glance). IsSeenBelow seen n c.args.wanted.now (c.loop-one.one + 1)) (sym c.both-seen.ensures)
          (sees_more c.loop-one.seen c.glance_at.result n c.args.wanted.now c.loop-one.one (c.loop-one.invariant.seen job n is carried) (c.glance_at.ensures job n is carried));
    }

pub returns : goal.returns
returns c = λ job n is carried.
    let sized : c.size-one-end.result ≡ length c.args.self.now.comm = c.size-one-end.ensures.size ∙ ap (λ (s : Standing). length s.comm) c.self.view_is in
    let many : size n ≡ length c.args.self.now.comm = ap (λ (l : List Seat). length l) is.comm in
    let within = c.loop-one.invariant.within in
    let all : c.loop-one.one ≡ size n = omega (arith, many, sized, within, c.loop-one-test.false) in
    sees_all c.loop-one.seen n c.args.wanted.now (subst (λ (k : ℕ). IsSeenBelow c.loop-one.seen n c.args.wanted.now k) all (c.loop-one.invariant.seen job n is carried))
