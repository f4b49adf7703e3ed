use Rattle.std.proofs.Common.{subst, sym}
use Rattle.std.specs.Int.{w64}
use Rattle.std.proofs.lemmas.Int.{to_z-of_z}
use Rattle.fx_node.specs.contracts.node.Node.{the_view}
use Rattle.fx_node.specs.Standing.{IsInCall, IsNodeOf, Standing}
use Rattle.fx_node.proofs.Calling.{gives_number_so}
use Rattle.fx_node.proofs.node.Node.give_number.Goals as goal

pub returns-clause-gives : goal.returns-clause-gives
returns-clause-gives c = λ job n sends place w state rest is at.
    let now = sym c.self.view_is in
    gives_number_so job (the_view c.self.inside) n place w state rest c.args.number c.give_counter.new.self sends c.args.items.now c.push.new.self (subst (λ (s : Standing). IsNodeOf job s n) now is)
    (subst (λ (s : Standing). IsInCall s.stage) now c.requires.in_call) at (c.give_counter.ensures.same_job job) (rw (to_z-of_z w64 c.args.number c.ranges.number) at c.give_counter.ensures.goes_on) (rw (to_z-of_z w64 c.args.number c.ranges.number) at c.in_ok-push.ensures.ok)
