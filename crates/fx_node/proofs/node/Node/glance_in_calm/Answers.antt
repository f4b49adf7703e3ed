use Rattle.std.proofs.Common.{◌≡◌, ◌-◌, List, false, length, ap, sym, arith, ◌∙◌}
use Rattle.std.proofs.lemmas.Bool.Decides.{nat_tests}
use Rattle.fx_comm.specs.Seats.{Seat}
use Rattle.fx_machine.specs.Nodes.{size}
use Rattle.fx_node.proofs.Glancing.{sees_all, waits_in_calm}
use Rattle.fx_node.specs.Standing.{Standing}
use Rattle.fx_node.specs.declared.glance.Glance.TheVariants as glance
use Rattle.fx_node.proofs.node.Node.glance_in_calm.Goals as goal

pub returns-then-not-is_there : goal.returns-then-not-is_there
returns-then-not-is_there c = λ job n is carried.
    let sized : c.size-one.result ≡ length c.args.self.now.comm = c.size-one.ensures.size ∙ ap (λ (s : Standing). length s.comm) c.self.view_is in
    let many : size n ≡ length c.args.self.now.comm = ap (λ (l : List Seat). length l) is.comm in
    let absent : c.is_there.result ≡ false = grind (arith, nat_tests, c.if-not-is_there.true) in
    waits_in_calm n c.args.wanted.now (c.loop-one.one - 1) (omega (arith, many, sized, c.loop-one.auto.one, c.loop-one-test.true)) (sym (c.is_there.ensures job n is carried) ∙ absent)
    (c.requires.calm n is.knows)

pub returns : goal.returns
returns c = λ job n is carried.
    let many : size n ≡ length c.args.self.now.comm = ap (λ (l : List Seat). length l) is.comm in
    sees_all glance.Whole n c.args.wanted.now (λ x below. c.loop-one.invariant job n is carried x (omega (arith, c.loop-one-test.false)) (omega (arith, many, below)))
