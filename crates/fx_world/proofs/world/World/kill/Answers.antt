use Rattle.std.proofs.Common.{◌≡◌, ◌<◌, ◌∷◌, [], true, arith, subst, sym, ◌∙◌}
use Rattle.std.proofs.lemmas.Result.{err_from_is_err_and}
use Rattle.std.proofs.lemmas.Bool.Decides.{nat_tests}
use Rattle.fx_item.specs.declared.item.Item.TheVariants as item
use Rattle.fx_world.specs.contracts.world.World.{the_view}
use Rattle.fx_world.specs.Goes.{killing}
use Rattle.fx_world.specs.Standings.{IsWorldOf, Standings}
use Rattle.fx_world.proofs.Going.{does_and_tells, is_cut}
use Rattle.fx_world.proofs.Singles.{closed_sound, kill_begins, kill_did}
use Rattle.fx_world.proofs.world.World.kill.Goals as goal

pub returns-in_err-tell-clause-goes : goal.returns-in_err-tell-clause-goes
returns-in_err-tell-clause-goes g c =
    let on : c.is_up.result ≡ true = grind (arith, nat_tests, c.if-not-is_up.false, c.if-not-is_up.ensures) in
    let p = err_from_is_err_and c.from_residual.result c.from_residual.ensures.1 in
    rw (p.1, p.2) (is_cut _ c.args.self.now _ c.args.shown _ _ (killing c.args.p.0) (item.Kill c.args.p ∷ []) c.in_err-tell.field-0.0 c.in_err-tell.ensures.writes
    (λ job w asks is. kill_begins job w c.args.p (sym (c.is_up.ensures.world job w is) ∙ on)))

pub invariant_of-self-2 : goal.invariant_of-self-2
invariant_of-self-2 g c = rw (c.clear.ensures, c.close_to.ensures) (closed_sound (the_view c.self.inside) c.self.invariant c.from.result c.args.p.0 c.tell.new.self)

pub returns-clause-goes : goal.returns-clause-goes
returns-clause-goes g c =
    let on : c.is_up.result ≡ true = grind (arith, nat_tests, c.if-not-is_up.false, c.if-not-is_up.ensures) in
    let before = the_view c.self.inside in
    let p_in = subst (λ (s : Standings). c.args.p.0 < s.procs) (sym c.self.view_is) c.requires in
    rw (← c.self.view_is) (does_and_tells _ _ before _ c.args.shown _ _ (killing c.args.p.0) (item.Kill c.args.p ∷ []) c.in_ok-tell.ensures.writes c.in_ok-tell.ensures.counts
    (λ job w asks is.
    let is_on = sym (c.is_up.ensures.world job w (subst (λ (s : Standings). IsWorldOf job s w) c.self.view_is is)) ∙ on in
    kill_did job before w c.args.p c.from.result c.clear.new.self c.close_to.new.self c.tell.new.self c.self.invariant is p_in is_on c.from.ensures c.clear.ensures c.close_to.ensures))
