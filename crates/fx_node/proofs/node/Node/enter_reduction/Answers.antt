use Rattle.std.proofs.Common.{◌≡◌, ◌∷◌, [], refl, suc, arith}
use Rattle.std.specs.Int.{w64}
use Rattle.std.proofs.lemmas.Int.{to_z-of_z}
use Rattle.fx_item.specs.declared.item.Item.TheVariants as item
use Rattle.fx_node.proofs.Calling.{enters_there}
use Rattle.fx_walk.specs.declared.wanted.Wanted.TheVariants as wanted
use Rattle.fx_node.proofs.node.Node.enter_reduction.Goals as goal

pub returns-clause-steps : goal.returns-clause-steps
returns-clause-steps c = λ job n place state rest is at.
    let next : c.in-Some.next ≡ suc c.args.self.now.calls = rw (← c.self.view_is) (omega (arith, c.in-Some.ensures)) in
    enters_there job c.args.self.now c.enter-2.new.self n place (wanted.Reduce c.args.op c.args.number) state rest c.in-Some.next (λ x. c.args.number ∷ []) (λ p e k. item.Reduce p e k c.args.op c.args.number) c.args.sends.now c.enter-2.new.sends c.args.items.now c.push.new.self
    is c.requires.walking at refl next c.in_ok-enter.ensures.same c.in_ok-enter.ensures.enters (rw (c.in_ok-of.ensures, c.in_ok-push-2.ensures.ok, c.new-values.ensures, to_z-of_z w64 c.args.number c.ranges.number) at c.in_ok-enter.ensures.sends) (rw (← c.self.view_is) (rw (to_z-of_z w64 c.args.number c.ranges.number) at c.in_ok-push.ensures.ok))
