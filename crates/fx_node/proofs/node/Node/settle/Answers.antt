use Rattle.std.proofs.Common.{◌≡◌, ◌∙◌, ℕ, length, Some, ap, arith, sym, subst}
use Rattle.fx_coll.specs.declared.poll.CollPoll.TheVariants as poll
use Rattle.fx_node.specs.declared.node.Moved.TheVariants as moved
use Rattle.fx_node.proofs.Calling.{gathers_so, proc_there, waits_so}
use Rattle.fx_machine.specs.Waits.{ByLeaving, ByLoss, returns_error}
use Rattle.fx_node.specs.Standing.{Standing}
use Rattle.fx_node.specs.Stepping.{Steps}
use Rattle.fx_node.proofs.Telling.{if_ok}
use Rattle.fx_node.proofs.node.Node.settle.Goals as goal

pub returns-in-Done-clause-steps : goal.returns-in-Done-clause-steps
returns-in-Done-clause-steps c = if_ok c.finish.result _ _ (λ moved returns. λ job n sends is.
    gathers_so job c.args.self.now c.finish.new.self n c.args.wanted.now c.in_ok-known.known _ moved sends sends c.args.items.now c.finish.new.items is c.requires.gathering c.requires.asked (c.in_ok-known.ensures.stands job n is) (sym c.in-Done.is ∙ c.poll.ensures.answers) (λ place state rest at there. returns job n sends place state rest is at there)) c.finish.ensures.returns

pub proc_at-who-requires : goal.proc_at-who-requires
proc_at-who-requires c =
    let low = ((c.poll.ensures.failed c.in-Failed.lost).0 c.in-Failed.is).0.0 in
    let many = c.in_ok-known.ensures.many in
    let sized : length c.self.inside.comm ≡ length c.args.self.now.comm = ap (λ (s : Standing). length s.comm) c.self.view_is in
    omega (arith, low, many, sized)

pub returns-in-Failed-clause-steps : goal.returns-in-Failed-clause-steps
returns-in-Failed-clause-steps c = if_ok c.fail.result _ _ (λ moved fails. λ job n sends is.
    gathers_so job c.args.self.now c.fail.new.self n c.args.wanted.now c.in_ok-known.known _ moved sends sends c.args.items.now c.fail.new.items is c.requires.gathering c.requires.asked (c.in_ok-known.ensures.stands job n is) (sym c.in-Failed.is ∙ c.poll.ensures.answers) (λ place state rest at there.
    subst (λ (p : ℕ). Steps job n (Some (returns_error n (ByLoss p))) moved c.fail.new.self sends sends c.args.items.now c.fail.new.items)
    (sym (proc_there n c.self.inside.comm c.in-Failed.lost c.proc_at-who.result (is.comm ∙ ap (λ (s : Standing). s.comm) (sym c.self.view_is)) c.proc_at-who.ensures.there)) (fails job n sends is))) c.fail.ensures.fails

pub proc_at-who-requires-in-Revoked : goal.proc_at-who-requires-in-Revoked
proc_at-who-requires-in-Revoked c =
    let low = ((c.poll.ensures.revoked c.in-Revoked.left).0 c.in-Revoked.is).1.0.0 in
    let many = c.in_ok-known.ensures.many in
    let sized : length c.self.inside.comm ≡ length c.args.self.now.comm = ap (λ (s : Standing). length s.comm) c.self.view_is in
    omega (arith, low, many, sized)

pub returns-in-Revoked-clause-steps : goal.returns-in-Revoked-clause-steps
returns-in-Revoked-clause-steps c = if_ok c.revoke.result _ _ (λ moved revokes. λ job n sends is.
    gathers_so job c.args.self.now c.revoke.new.self n c.args.wanted.now c.in_ok-known.known _ moved sends sends c.args.items.now c.revoke.new.items is c.requires.gathering c.requires.asked (c.in_ok-known.ensures.stands job n is) (sym c.in-Revoked.is ∙ c.poll.ensures.answers) (λ place state rest at there.
    subst (λ (p : ℕ). Steps job n (Some (returns_error n (ByLeaving p))) moved c.revoke.new.self sends sends c.args.items.now c.revoke.new.items)
    (sym (proc_there n c.self.inside.comm c.in-Revoked.left c.proc_at-who-in-Revoked.result (is.comm ∙ ap (λ (s : Standing). s.comm) (sym c.self.view_is)) c.proc_at-who-in-Revoked.ensures.there)) (revokes job n sends is))) c.revoke.ensures.revokes

pub returns-clause-steps : goal.returns-clause-steps
returns-clause-steps c = λ job n sends is.
    gathers_so job c.args.self.now c.args.self.now n c.args.wanted.now c.in_ok-known.known poll.NotYet moved.Quiet sends sends c.args.items.now c.args.items.now is c.requires.gathering c.requires.asked (c.in_ok-known.ensures.stands job n is) (sym c.in-NotYet.is ∙ c.poll.ensures.answers) (λ place state rest at there. waits_so job c.args.self.now n sends c.args.items.now is c.requires.gathering)
