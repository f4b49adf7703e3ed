use Rattle.std.proofs.Common.{◌≡◌, ap, sym, ◌∙◌, arith, length, List}
use Rattle.fx_comm.specs.Seats.{Seat}
use Rattle.fx_machine.specs.Nodes.{size}
use Rattle.fx_node.proofs.Begun.{my_place_is}
use Rattle.fx_node.proofs.Learning.{begins_kinds, begins_knowing, goes_knowing, knows_all}
use Rattle.fx_coll.specs.Keeping.{begun}
use Rattle.fx_node.specs.Asking.{part_in}
use Rattle.fx_node.specs.Standing.{Standing}
use Rattle.fx_node.proofs.node.Node.known_of.Goals as goal

pub loop-one-init : goal.loop-one-init
loop-one-init c =
    let begins : c.in_ok-known.known ≡ begun c.size-size.result c.args.place.0 (part_in c.args.wanted.now) = rw c.in_ok-own.ensures at c.in_ok-known.ensures.begins in
    let sized : c.size-size.result ≡ length c.args.self.now.comm = c.size-size.ensures.size ∙ ap (λ (s : Standing). length s.comm) c.self.view_is in
    record {
      many = c.in_ok-known.ensures.knows_each ∙ sized;
      knowing = λ job n is carried.
          begins_knowing n c.args.wanted.now c.size-size.result c.args.place.0 c.in_ok-known.known begins (sized ∙ ap (λ (l : List Seat). length l) (sym is.comm))
          (my_place_is n c.args.self.now.comm c.args.self.now.me c.args.place.0 is.comm is.me c.requires.there) (omega (arith, sized, c.requires.below));
      kind = begins_kinds c.args.wanted.now c.size-size.result c.args.place.0 c.in_ok-known.known begins (omega (arith, sized, c.requires.below));
    }

pub loop-one-preserved : goal.loop-one-preserved
loop-one-preserved c =
    let sized : c.size-size.result ≡ length c.args.self.now.comm = c.size-size.ensures.size ∙ ap (λ (s : Standing). length s.comm) c.self.view_is in
    record {
      many = c.learn.ensures.keeps ∙ c.loop-one.invariant.many;
      knowing = λ job n is carried.
          let many : size n ≡ length c.args.self.now.comm = ap (λ (l : List Seat). length l) is.comm in
          goes_knowing n c.args.wanted.now c.loop-one.one c.loop-one.known c.learn.new.known (omega (arith, many, sized, c.loop-one-test.true)) (c.loop-one.invariant.knowing job n is carried)
          c.learn.ensures.others c.learn.ensures.keeps (c.in_ok-learn.ensures.this job n is carried);
      kind = c.learn.ensures.kind c.loop-one.invariant.kind;
    }

pub returns-clause-stands : goal.returns-clause-stands
returns-clause-stands c = λ job n is carried.
    let sized : c.size-size.result ≡ length c.args.self.now.comm = c.size-size.ensures.size ∙ ap (λ (s : Standing). length s.comm) c.self.view_is in
    let many : size n ≡ length c.args.self.now.comm = ap (λ (l : List Seat). length l) is.comm in
    knows_all n c.args.wanted.now c.loop-one.one c.loop-one.known (omega (arith, many, sized, c.loop-one-test.false)) (c.loop-one.invariant.knowing job n is carried)
