use Rattle.std.proofs.Common.{subst, sym, ◌≡◌, ◌∙◌, None, Some}
use Rattle.std.proofs.lemmas.Result.{IfOk-weaker}
use Rattle.fx_comm.specs.Seats.{place_in}
use Rattle.fx_node.specs.Standing.{Standing}
use Rattle.fx_node.proofs.Acts.{begins_there, helps_out, may_help, stays}
use Rattle.fx_node.proofs.node.Node.arrive.Goals as goal

pub returns-in-Some-clause-steps : goal.returns-in-Some-clause-steps
returns-in-Some-clause-steps c =
    let there = subst (λ (s : Standing). place_in s.comm s.me ≡ Some c.in-Some.place.0) c.self.view_is (sym c.in-Some.ensures.place) in
    IfOk-weaker c.begin_body.result _ _ (λ moved h. λ job n asks is.
    begins_there job c.args.self.now c.begin_body.new.self n moved c.args.sends.now c.args.sends.now c.args.items.now c.begin_body.new.items c.in-Some.place.0 is there
    (h job n c.args.sends.now asks is)) c.begin_body.ensures.begins

pub returns-in-None-clause-steps : goal.returns-in-None-clause-steps
returns-in-None-clause-steps c =
    let none = subst (λ (s : Standing). place_in s.comm s.me ≡ None) c.self.view_is (sym c.in-None.ensures.place) in
    IfOk-weaker c.join.result _ _ (λ moved h. λ job n asks is.
    helps_out job c.args.self.now c.join.new.self n moved c.args.sends.now c.join.new.sends c.args.items.now c.join.new.items is none
    (sym (c.may_help_out.ensures job n is) ∙ c.if-may_help_out.true) (h job n is (may_help job c.args.self.now n c.requires is))) c.join.ensures.joins

pub returns-in-None-2-clause-steps : goal.returns-in-None-2-clause-steps
returns-in-None-2-clause-steps c = λ job n asks is.
    let none = subst (λ (s : Standing). place_in s.comm s.me ≡ None) c.self.view_is (sym c.in-None-2.ensures.place) in
    stays job c.args.self.now n c.args.sends.now c.args.items.now c.requires is none (sym (c.may_help_out.ensures job n is) ∙ c.if-may_help_out.false)
