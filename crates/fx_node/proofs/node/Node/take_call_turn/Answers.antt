use Rattle.std.proofs.Common.{◌<◌, ℕ, subst}
use Rattle.std.specs.Prelude.{All, OnOk}
use Rattle.fx_base.specs.declared.names.Proc.{Proc}
use Rattle.fx_link.specs.declared.message.Message.{Message}
use Rattle.fx_node.proofs.Agreeing.{rests_behind, goes_on_behind, speaks_behind, decides_behind}
use Rattle.fx_node.proofs.Telling.{if_ok}
use Rattle.fx_node.proofs.node.Node.take_call_turn.Goals as goal

pub returns-in-NotYet-clause-steps : goal.returns-in-NotYet-clause-steps
returns-in-NotYet-clause-steps c = λ job n is.
    rests_behind job c.args.self.now c.call_turn.new.self n c.in_ok-call_turn.field-0 c.args.sends.now c.args.items.now c.in_ok-call_turn.ensures.turned is c.in-NotYet.is

pub returns-in-Moved-clause-steps : goal.returns-in-Moved-clause-steps
returns-in-Moved-clause-steps c = λ job n is.
    goes_on_behind job c.args.self.now c.call_turn.new.self n c.in_ok-call_turn.field-0 c.args.sends.now c.args.items.now c.in_ok-call_turn.ensures.turned is c.in-Moved.is

pub returns-in-SendEstimate-clause-steps : goal.returns-in-SendEstimate-clause-steps
returns-in-SendEstimate-clause-steps c = if_ok c.say_call_estimate.result _ _ (λ m says. λ job n is.
    speaks_behind job c.args.self.now c.call_turn.new.self n c.in_ok-call_turn.field-0 c.say_call_estimate.new.self c.in-SendEstimate.slots m c.args.sends.now c.say_call_estimate.new.sends c.args.items.now
    c.in_ok-call_turn.ensures.turned is c.in-SendEstimate.is says c.say_call_estimate.ensures.same) c.say_call_estimate.ensures.says

pub returns-in-SendEstimate-clause-to_processes : goal.returns-in-SendEstimate-clause-to_processes
returns-in-SendEstimate-clause-to_processes c =
    subst (λ (k : ℕ). OnOk c.say_call_estimate.result (All (λ (x : Proc × Message). x.0.0 < k) c.args.sends.now → All (λ (x : Proc × Message). x.0.0 < k) c.say_call_estimate.new.sends))
    c.in_ok-call_turn.ensures.of_all c.say_call_estimate.ensures.to_processes

pub returns-in-Decided-clause-steps : goal.returns-in-Decided-clause-steps
returns-in-Decided-clause-steps c = if_ok c.decide_call.result _ _ (λ m decides. λ job n is.
    decides_behind job c.args.self.now c.call_turn.new.self n c.in_ok-call_turn.field-0 c.in-Decided.slots m _ c.args.sends.now c.args.items.now c.decide_call.new.items c.in_ok-call_turn.ensures.turned is c.in-Decided.is
    (λ there place flag state rest at. decides job n c.args.sends.now place flag state rest there at)) c.decide_call.ensures.decides
