use Rattle.std.proofs.Common.{◌≡◌, [], refl, suc, arith}
use Rattle.fx_item.specs.declared.item.Item.TheVariants as item
use Rattle.fx_node.proofs.Calling.{enters_there}
use Rattle.fx_walk.specs.declared.wanted.Wanted.TheVariants as wanted
use Rattle.fx_node.proofs.node.Node.enter_barrier.Goals as goal

pub returns-clause-steps : goal.returns-clause-steps
returns-clause-steps c = λ job n place state rest is at.
    let next : c.in-Some.next ≡ suc c.args.self.now.calls = rw (← c.self.view_is) (omega (arith, c.in-Some.ensures)) in
    enters_there job c.args.self.now c.enter-2.new.self n place wanted.Barrier state rest c.in-Some.next (λ x. []) item.Barrier c.args.sends.now c.enter-2.new.sends c.args.items.now c.push.new.self
    is c.requires.walking at refl next c.in_ok-enter.ensures.same c.in_ok-enter.ensures.enters (rw c.empty.ensures at c.in_ok-enter.ensures.sends) (rw (← c.self.view_is) c.in_ok-push.ensures.ok)
