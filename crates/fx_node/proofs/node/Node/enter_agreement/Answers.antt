use Rattle.std.proofs.Common.{◌≡◌, suc, arith}
use Rattle.std.specs.Int.{w64}
use Rattle.std.proofs.lemmas.Int.{to_z-of_z}
use Rattle.fx_node.proofs.Agreeing.{enters_agreement_so}
use Rattle.fx_node.proofs.node.Node.enter_agreement.Goals as goal

pub returns-clause-steps : goal.returns-clause-steps
returns-clause-steps c = λ job n place state rest is at.
    let next : c.in-Some.next ≡ suc c.args.self.now.calls = rw (← c.self.view_is) (omega (arith, c.in-Some.ensures)) in
    enters_agreement_so job c.args.self.now c.cast.new.self n place c.args.flag state rest c.in-Some.next c.args.sends.now c.cast.new.sends c.args.items.now c.push.new.self
    is c.requires.walking at next c.in_ok-cast.ensures.same (rw (to_z-of_z w64 c.args.flag c.ranges.flag) at c.in_ok-cast.ensures.casts) (rw (to_z-of_z w64 c.args.flag c.ranges.flag) at c.in_ok-cast.ensures.sends)
    (rw (← c.self.view_is) (rw (to_z-of_z w64 c.args.flag c.ranges.flag) at c.in_ok-push.ensures.ok))
