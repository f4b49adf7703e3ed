use Rattle.std.proofs.Common.{ℤ, Some, ap, sym, subst, ◌∙◌}
use Rattle.fx_machine.specs.Gathering.{gathered, returns_number, total}
use Rattle.fx_node.proofs.Calling.{whole_goes}
use Rattle.fx_node.proofs.Telling.{if_ok}
use Rattle.fx_node.specs.Stepping.{Steps}
use Rattle.std.specs.Int.{w64}
use Rattle.std.proofs.lemmas.Int.{to_z-of_z}
use Rattle.fx_walk.specs.declared.wanted.Wanted.{Wanted}
use Rattle.fx_node.proofs.node.Node.go_on_whole.Goals as goal

pub returns-in-Barrier-clause-steps : goal.returns-in-Barrier-clause-steps
returns-in-Barrier-clause-steps c = if_ok c.pass.result _ _ (λ moved passes. λ job n sends is.
    whole_goes job c.args.self.now c.pass.new.self n c.args.wanted.now moved sends sends c.args.items.now c.pass.new.items is c.requires.gathering c.requires.asked (c.requires.whole job n is)
    (λ place state rest at.
    subst (λ (w : Wanted). Steps job n (gathered n w rest) moved c.pass.new.self sends sends c.args.items.now c.pass.new.items) (sym c.in-Barrier.is)
    (passes job n sends place c.args.wanted.now state rest is at))) c.pass.ensures.passes

pub returns-in-Reduce-clause-steps : goal.returns-in-Reduce-clause-steps
returns-in-Reduce-clause-steps c = if_ok c.give_number.result _ _ (λ moved gives. λ job n sends is.
    whole_goes job c.args.self.now c.give_number.new.self n c.args.wanted.now moved sends sends c.args.items.now c.give_number.new.items is c.requires.gathering c.requires.asked (c.requires.whole job n is)
    (λ place state rest at.
    subst (λ (w : Wanted). Steps job n (gathered n w rest) moved c.give_number.new.self sends sends c.args.items.now c.give_number.new.items) (sym c.in-Reduce.is)
    (subst (λ (v : ℤ). Steps job n (Some (returns_number n rest v)) moved c.give_number.new.self sends sends c.args.items.now c.give_number.new.items) (c.total-total.ensures job n c.in-Reduce.field-1 is c.in-Reduce.is ∙ ap (λ (w : Wanted). total c.in-Reduce.op n w) c.in-Reduce.is)
    (rw (to_z-of_z w64 c.total-total.result (record { sfits = c.total-total.type_inv })) at (gives job n sends place c.args.wanted.now state rest is at))))) c.give_number.ensures.gives
