use Rattle.std.proofs.Common.{◌≡◌, None, Some, ℤ, List, true, ap, subst, sym, ◌∙◌}
use Rattle.std.specs.Int.{w64}
use Rattle.std.specs.Option.{option_map}
use Rattle.std.proofs.lemmas.Int.{to_z-of_z}
use Rattle.fx_comm.specs.Seats.{Seat}
use Rattle.fx_machine.specs.Gathering.{returns_number}
use Rattle.fx_machine.specs.Nodes.{procs_of}
use Rattle.fx_machine.specs.Waits.{first_error}
use Rattle.fx_node.proofs.Agreeing.{agrees_so}
use Rattle.fx_node.proofs.Telling.{if_ok}
use Rattle.fx_node.specs.Agreeing.{error_of}
use Rattle.fx_node.specs.Standing.{Standing}
use Rattle.fx_node.specs.Stepping.{Steps}
use Rattle.fx_node.proofs.node.Node.decide_call.Goals as goal

pub returns-in-None-clause-decides : goal.returns-in-None-clause-decides
returns-in-None-clause-decides c =
    let none : None ≡ first_error (procs_of c.args.self.now.comm) c.args.slots.now =
    sym (ap (option_map error_of) c.in-None.is) ∙ c.first_error.ensures ∙ ap (λ (l : List Seat). first_error (procs_of l) c.args.slots.now) (c.seats.ensures ∙ ap (λ (s : Standing). s.comm) c.self.view_is) in
    if_ok c.give_agreed.result _ _ (λ moved gives. λ job n sends place flag state rest is at.
    agrees_so job c.args.self.now n flag rest c.args.slots.now true moved _ sends _ _ is none (sym c.all_agree.ensures ∙ c.if-all_agree.true)
    (subst (λ (bits : ℤ). Steps job n (Some (returns_number n rest bits)) moved c.give_agreed.new.self sends sends c.args.items.now c.give_agreed.new.items) c.common_bits.ensures
    (rw (to_z-of_z w64 c.common_bits.result (record { sfits = c.common_bits.type_inv })) at (gives job n sends place flag state rest is at))))
    c.give_agreed.ensures.gives
