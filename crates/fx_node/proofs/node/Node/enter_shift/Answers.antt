use Rattle.std.proofs.Common.{◌≡◌, ℕ, suc, None, Some, length, ap, subst, sym, ◌∙◌, arith}
use Rattle.fx_comm.specs.Seats.{place_in}
use Rattle.fx_machine.specs.Gathering.{target_of}
use Rattle.fx_node.specs.Standing.{Standing}
use Rattle.fx_node.proofs.Calling.{enters_shift_there, walks_with_place}
use Rattle.fx_node.proofs.node.Node.enter_shift.Goals as goal

pub returns-in_default-place_of-clause-steps : goal.returns-in_default-place_of-clause-steps
returns-in_default-place_of-clause-steps c = λ job n place state rest is at.
    absurd (walks_with_place job c.args.self.now n is c.requires.walking (subst (λ (s : Standing). place_in s.comm s.me ≡ None) c.self.view_is (sym c.in_default-place_of.ensures.place)))

pub returns-clause-steps : goal.returns-clause-steps
returns-clause-steps c = λ job n place state rest is at.
    let next : c.in-Some.next ≡ suc c.args.self.now.calls = rw (← c.self.view_is) (omega (arith, c.in-Some.ensures)) in
    let own : ℕ = c.in-Some-place_of.own.0 in
    let there : place_in c.args.self.now.comm c.args.self.now.me ≡ Some own = subst (λ (s : Standing). place_in s.comm s.me ≡ Some own) c.self.view_is (sym c.in-Some-place_of.ensures.place) in
    let to : c.target_of-target.result ≡ target_of (length c.args.self.now.comm) c.args.by own =
    c.target_of-target.ensures ∙ ap (λ (k : ℕ). target_of k c.args.by own) (c.size.ensures.size ∙ ap (λ (s : Standing). length s.comm) c.self.view_is) in
    enters_shift_there job c.args.self.now c.enter.new.self n place c.args.by c.args.elements state rest c.in-Some.next own c.target_of-target.result c.args.sends.now c.enter.new.sends c.args.items.now c.push.new.self
    is c.requires.walking at next there to c.in_ok-enter.ensures.same c.in_ok-enter.ensures.enters (rw c.in_ok-values.ensures at c.in_ok-enter.ensures.sends) (rw (← c.self.view_is) (rw c.in_ok-copy.ensures at c.in_ok-push.ensures.ok))
