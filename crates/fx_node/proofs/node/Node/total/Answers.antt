use Rattle.std.proofs.Common.{◌≡◌, ℕ, ℤ, List, length, ap, arith, ◌∙◌}
use Rattle.std.specs.Prelude.{get_or, pos}
use Rattle.std.specs.Int.{cast_signed, w64}
use Rattle.std.proofs.lemmas.Int.{to_z-of_z}
use Rattle.fx_comm.specs.Seats.{Seat}
use Rattle.fx_machine.specs.Gathering.{numbers_of}
use Rattle.fx_machine.specs.Nodes.{size}
use Rattle.fx_machine.specs.Numbers.{of_each_below}
use Rattle.fx_node.proofs.Totals.{one_number_more}
use Rattle.fx_node.specs.Standing.{Standing}
use Rattle.fx_walk.specs.Values.{combined, reduced}
use Rattle.fx_node.proofs.node.Node.total.Goals as goal

pub loop-one-preserved : goal.loop-one-preserved
loop-one-preserved c =
    let sized : c.size-one-end.result ≡ length c.args.self.now.comm = c.size-one-end.ensures.size ∙ ap (λ (s : Standing). length s.comm) c.self.view_is in
    record {
      some = omega arith;
      within = omega (arith, sized, c.loop-one-test.true);
      made = λ job n number is reduces.
          to_z-of_z w64 c.combined-total.result (record { sfits = c.combined-total.type_inv }) ∙ c.combined-total.ensures
          ∙ ap (λ (m : ℤ). combined c.args.op (cast_signed w64 c.loop-one.total-bits) m)
          (to_z-of_z w64 c.number_of.result (record { sfits = c.number_of.type_inv }) ∙ c.number_of.ensures job n c.args.op number is reduces)
          ∙ one_number_more c.args.op (λ x. get_or (numbers_of n c.args.wanted.now x) 0 (pos 0)) c.loop-one.one (cast_signed w64 c.loop-one.total-bits) c.loop-one.invariant.some
          (c.loop-one.invariant.made job n number is reduces);
    }

pub returns : goal.returns
returns c = λ job n number is reduces.
    let sized : c.size-one-end.result ≡ length c.args.self.now.comm = c.size-one-end.ensures.size ∙ ap (λ (s : Standing). length s.comm) c.self.view_is in
    let many : size n ≡ length c.args.self.now.comm = ap (λ (l : List Seat). length l) is.comm in
    let all : c.loop-one.one ≡ size n = omega (arith, many, sized, c.loop-one.invariant.within, c.loop-one-test.false) in
    c.loop-one.invariant.made job n number is reduces
    ∙ ap (λ (k : ℕ). reduced c.args.op (of_each_below k (λ x. get_or (numbers_of n c.args.wanted.now x) 0 (pos 0)))) all
