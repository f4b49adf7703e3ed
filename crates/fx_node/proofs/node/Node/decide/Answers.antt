use Rattle.std.proofs.Common.{◌≡◌, false, sym, ◌∙◌, arith}
use Rattle.fx_machine.specs.Ballots.{is_end}
use Rattle.fx_node.proofs.Deciding.{goes_on, not_end_at_first, not_end_before}
use Rattle.fx_node.proofs.Telling.{if_ok}
use Rattle.fx_node.proofs.node.Node.decide.Goals as goal
use Rattle.fx_node.proofs.node.Node.decide.Goals.{else-self-gt0-via-then-self-gt0+else-all_final, else-self-gt0-via-else-self-gt0}

pub returns-clause-decides : goal.returns-clause-decides
returns-clause-decides c = if_ok c.begin_epoch.result _ _ (λ moved begins. λ job n vote sends is dec.
    let w = rw (← c.self.view_is) at is in
    let none : is_end n c.args.slots.now ≡ false = elim c.else-self-gt0.branch [
      | else-self-gt0-via-then-self-gt0+else-all_final w' ↦ not_end_before n c.args.slots.now (sym (w'.all_final.ensures job n is) ∙ w'.if-all_final.false)
      | else-self-gt0-via-else-self-gt0 w' ↦ not_end_at_first n c.args.slots.now (omega (arith, w'.if-self-gt0.false, w.epoch))
    ] in
    goes_on job n c.args.slots.now moved c.begin_epoch.new.self sends sends c.args.items.now c.begin_epoch.new.items none (begins job n vote sends is dec))
    c.begin_epoch.ensures.begins
