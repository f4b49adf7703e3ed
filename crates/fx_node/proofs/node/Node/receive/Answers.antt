use Rattle.std.proofs.Common.{arith, subst, sym, ◌<◌, ◌∙◌, ℕ, All}
use Rattle.std.proofs.lemmas.Result.{on_ok_weaker}
use Rattle.fx_comm.specs.Seats.{Seat}
use Rattle.fx_machine.specs.Messages.{wire_text}
use Rattle.fx_node.specs.contracts.node.Node.{the_view}
use Rattle.fx_node.specs.Standing.{IsNodeOf, Standing}
use Rattle.fx_node.proofs.Heard.{hears}
use Rattle.fx_node.proofs.node.Node.receive.Goals as goal

pub invariant_of-self-else-is_err : goal.invariant_of-self-else-is_err
invariant_of-self-else-is_err c =
    let all = c.receive-kept.ensures.of_all in
    let sound = c.self.invariant in
    record {
      few = omega (arith, all, sound.few);
      one_of_them = omega (arith, all, sound.one_of_them);
      same = c.receive-kept.ensures.same ∙ sound.same;
      seats = subst (λ (bound : ℕ). All (λ (s : Seat). s.1.0 < bound) c.self.inside.comm) (sym all) sound.seats;
      members = subst (λ (bound : ℕ). All (λ q. q < bound) c.self.inside.present) (sym all) sound.members;
      count = sound.count;
      apart = sound.apart;
    }

pub returns-else-is_err-clause-ok : goal.returns-else-is_err-clause-ok
returns-else-is_err-clause-ok c = on_ok_weaker c.receive-kept.result (λ h. λ job n is.
    let before = subst (λ (s : Standing). IsNodeOf job s n) (sym c.self.view_is) is in
    hears job (the_view c.self.inside) n c.args.from.0 (wire_text c.args.message) c.receive-kept.new.self before (h n before.knows)) c.receive-kept.ensures.ok
