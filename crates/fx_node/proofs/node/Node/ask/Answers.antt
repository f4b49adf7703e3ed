use Rattle.std.proofs.Common.{rules, ◌≡◌, subst, sym}
use Rattle.std.specs.Int.{w64}
use mir.Facts.{to_z-of_z}
use mir.Val.{SFits}
use Rattle.fx_fleet.specs.Runs.{job_setup}
use Rattle.fx_flow.specs.Flowing.{AsksFor, DoesRest}
use Rattle.fx_machine.specs.Steps.{in_walk}
use Rattle.fx_node.specs.contracts.node.Node.{the_view}
use Rattle.fx_node.specs.declared.stage.Stage.TheVariants as stage
use Rattle.fx_node.specs.Standing.{IsNodeOf, Standing}
use Rattle.fx_node.specs.Stepping.{Steps}
use Rattle.fx_node.proofs.Calling.{asks_so}
use Rattle.fx_node.proofs.Telling.{if_ok}
use Rattle.fx_walk.specs.Walk.{Walk}
use Rattle.fx_walk.specs.declared.wanted.Wanted.{Wanted}
use Rattle.fx_walk.specs.declared.wanted.Wanted.TheVariants as wanted
use Rattle.fx_node.proofs.node.Node.ask.Goals as goal

pub returns-in-Barrier-clause-steps : goal.returns-in-Barrier-clause-steps
returns-in-Barrier-clause-steps c =
    let now = sym c.self.view_is in
    let walking : (the_view c.self.inside).stage ≡ stage.Walking = subst (λ (s : Standing). s.stage ≡ stage.Walking) now c.requires.walking in
    if_ok c.enter_barrier.result _ _ (λ moved steps. λ job n is.
    asks_so job (the_view c.self.inside) n wanted.Barrier
    (λ (walk : Walk). Steps job n (in_walk (job_setup job) n walk) moved c.enter_barrier.new.self c.args.sends.now c.enter_barrier.new.sends c.args.items.now c.enter_barrier.new.items)
    (subst (λ (s : Standing). IsNodeOf job s n) now is) walking
    (subst (λ (x : Wanted). (walk : Walk) → DoesRest c.self.inside.view walk c.self.inside.flow → AsksFor walk x) c.in-Barrier.is c.in_ok-wanted.ensures.asked)
    (λ place state rest at. steps job n place state rest is at)) c.enter_barrier.ensures.steps

pub returns-in-Reduce-clause-steps : goal.returns-in-Reduce-clause-steps
returns-in-Reduce-clause-steps c =
    let now = sym c.self.view_is in
    let walking : (the_view c.self.inside).stage ≡ stage.Walking = subst (λ (s : Standing). s.stage ≡ stage.Walking) now c.requires.walking in
    if_ok c.enter_reduction.result _ _ (λ moved steps. λ job n is.
    asks_so job (the_view c.self.inside) n (wanted.Reduce c.in-Reduce.op c.in-Reduce.number)
    (λ (walk : Walk). Steps job n (in_walk (job_setup job) n walk) moved c.enter_reduction.new.self c.args.sends.now c.enter_reduction.new.sends c.args.items.now c.enter_reduction.new.items)
    (subst (λ (s : Standing). IsNodeOf job s n) now is) walking
    (subst (λ (x : Wanted). (walk : Walk) → DoesRest c.self.inside.view walk c.self.inside.flow → AsksFor walk x) c.in-Reduce.is c.in_ok-wanted.ensures.asked)
    (λ place state rest at.
    let fits : SFits w64 c.in-Reduce.number = search rules in
    (rw (to_z-of_z {w = w64} {z = c.in-Reduce.number} fits) at steps) job n place state rest is at)) c.enter_reduction.ensures.steps

pub returns-in-Agree-clause-steps : goal.returns-in-Agree-clause-steps
returns-in-Agree-clause-steps c =
    let now = sym c.self.view_is in
    let walking : (the_view c.self.inside).stage ≡ stage.Walking = subst (λ (s : Standing). s.stage ≡ stage.Walking) now c.requires.walking in
    if_ok c.enter_agreement.result _ _ (λ moved steps. λ job n is.
    asks_so job (the_view c.self.inside) n (wanted.Agree c.in-Agree.flag)
    (λ (walk : Walk). Steps job n (in_walk (job_setup job) n walk) moved c.enter_agreement.new.self c.args.sends.now c.enter_agreement.new.sends c.args.items.now c.enter_agreement.new.items)
    (subst (λ (s : Standing). IsNodeOf job s n) now is) walking
    (subst (λ (x : Wanted). (walk : Walk) → DoesRest c.self.inside.view walk c.self.inside.flow → AsksFor walk x) c.in-Agree.is c.in_ok-wanted.ensures.asked)
    (λ place state rest at.
    let fits : SFits w64 c.in-Agree.flag = search rules in
    (rw (to_z-of_z {w = w64} {z = c.in-Agree.flag} fits) at steps) job n place state rest is at)) c.enter_agreement.ensures.steps

pub returns-in-Shift-clause-steps : goal.returns-in-Shift-clause-steps
returns-in-Shift-clause-steps c =
    let now = sym c.self.view_is in
    let walking : (the_view c.self.inside).stage ≡ stage.Walking = subst (λ (s : Standing). s.stage ≡ stage.Walking) now c.requires.walking in
    if_ok c.enter_shift.result _ _ (λ moved steps. λ job n is.
    asks_so job (the_view c.self.inside) n (wanted.Shift c.in-Shift.by c.in-Shift.elements)
    (λ (walk : Walk). Steps job n (in_walk (job_setup job) n walk) moved c.enter_shift.new.self c.args.sends.now c.enter_shift.new.sends c.args.items.now c.enter_shift.new.items)
    (subst (λ (s : Standing). IsNodeOf job s n) now is) walking
    (subst (λ (x : Wanted). (walk : Walk) → DoesRest c.self.inside.view walk c.self.inside.flow → AsksFor walk x) c.in-Shift.is c.in_ok-wanted.ensures.asked)
    (λ place state rest at. steps job n place state rest is at)) c.enter_shift.ensures.steps
