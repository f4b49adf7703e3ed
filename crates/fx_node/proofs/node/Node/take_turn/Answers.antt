use Rattle.std.proofs.Common.{◌<◌, ℕ, subst}
use Rattle.std.specs.Prelude.{All, OnOk}
use Rattle.fx_base.specs.declared.names.Proc.{Proc}
use Rattle.fx_link.specs.declared.message.Message.{Message}
use Rattle.fx_node.proofs.Telling.{if_ok, joined_ok}
use Rattle.fx_node.proofs.Turned.{rests_behind, goes_on_behind, speaks_behind, decides_behind}
use Rattle.fx_node.proofs.node.Node.take_turn.Goals as goal

pub returns-in-NotYet-clause-steps : goal.returns-in-NotYet-clause-steps
returns-in-NotYet-clause-steps c = λ job n is.
    rests_behind job c.args.self.now c.turn.new.self n c.in_ok-turn.field-0 c.args.sends.now c.args.items.now c.in_ok-turn.ensures.turned is c.in-NotYet.is

pub returns-in-Moved-clause-steps : goal.returns-in-Moved-clause-steps
returns-in-Moved-clause-steps c = λ job n is.
    goes_on_behind job c.args.self.now c.turn.new.self n c.in_ok-turn.field-0 c.args.sends.now c.args.items.now c.in_ok-turn.ensures.turned is c.in-Moved.is

pub returns-in-SendEstimate-clause-steps : goal.returns-in-SendEstimate-clause-steps
returns-in-SendEstimate-clause-steps c = joined_ok c.say_estimate.result _ _ _ (λ m sends acts. λ job n is.
    speaks_behind job c.args.self.now c.turn.new.self n c.in_ok-turn.field-0 c.say_estimate.new.self c.in-SendEstimate.slots m c.args.sends.now c.say_estimate.new.sends c.args.items.now
    c.in_ok-turn.ensures.turned is c.in-SendEstimate.is (record { sends = sends; acts = acts; same = c.say_estimate.ensures.same })) c.say_estimate.ensures.sends c.say_estimate.ensures.says

pub returns-in-SendEstimate-clause-to_processes : goal.returns-in-SendEstimate-clause-to_processes
returns-in-SendEstimate-clause-to_processes c =
    subst (λ (k : ℕ). OnOk c.say_estimate.result (All (λ (x : Proc × Message). x.0.0 < k) c.args.sends.now → All (λ (x : Proc × Message). x.0.0 < k) c.say_estimate.new.sends))
    c.in_ok-turn.ensures.of_all c.say_estimate.ensures.to_processes

pub returns-in-Decided-clause-steps : goal.returns-in-Decided-clause-steps
returns-in-Decided-clause-steps c = if_ok c.decide.result _ _ (λ m decides. λ job n is.
    decides_behind job c.args.self.now c.turn.new.self n c.in_ok-turn.field-0 c.in-Decided.slots m _ c.args.sends.now c.args.items.now c.decide.new.items c.in_ok-turn.ensures.turned is c.in-Decided.is
    (λ vote there dec. decides job n vote c.args.sends.now there dec)) c.decide.ensures.decides
