use Rattle.std.proofs.Common.{◌<◌, ◌∷◌, [], subst, sym}
use Rattle.std.proofs.lemmas.Result.{err_from_is_err_and}
use Rattle.fx_item.specs.declared.item.Item.TheVariants as item
use Rattle.fx_world.specs.contracts.world.World.{the_view}
use Rattle.fx_world.specs.Goes.{noticing}
use Rattle.fx_world.specs.Standings.{IsWorldOf, Standings}
use Rattle.fx_world.proofs.Going.{does_and_tells, is_cut}
use Rattle.fx_world.proofs.Related.{one_of}
use Rattle.fx_world.proofs.Singles.{emptied_sound, notice_begins, notice_did, post_is}
use Rattle.fx_world.proofs.world.World.learn.Goals as goal

pub returns-in_err-tell-clause-goes : goal.returns-in_err-tell-clause-goes
returns-in_err-tell-clause-goes g c =
    let p = err_from_is_err_and c.from_residual.result c.from_residual.ensures.1 in
    rw (p.1, p.2) (is_cut _ c.args.self.now _ c.args.shown _ _ (noticing c.args.p.0 c.args.q.0) (item.Told c.args.p c.args.q ∷ []) c.in_err-tell.field-0.0 c.in_err-tell.ensures.writes
    (λ job w asks is. notice_begins job w c.args.p c.args.q (c.requires.may job w is)))

pub invariant_of-self-2 : goal.invariant_of-self-2
invariant_of-self-2 g c =
    let before = the_view c.self.inside in
    let p_in = subst (λ (s : Standings). c.args.p.0 < s.procs) (sym c.self.view_is) c.requires.lost in
    let q_in = subst (λ (s : Standings). c.args.q.0 < s.procs) (sym c.self.view_is) c.requires.told in
    rw c.close_from.ensures (emptied_sound before c.self.invariant c.from.result c.args.p.0 c.args.q.0 c.notice.new.self c.tell.new.self p_in q_in
    (c.notice.ensures.of_all before.procs (rw (post_is before c.self.invariant c.from.result c.args.q.0 c.from.ensures q_in c.index_mut.result.now c.index_mut.ensures.value) (one_of before c.args.q.0 c.self.invariant q_in))))

pub returns-clause-goes : goal.returns-clause-goes
returns-clause-goes g c =
    let before = the_view c.self.inside in
    let p_in = subst (λ (s : Standings). c.args.p.0 < s.procs) (sym c.self.view_is) c.requires.lost in
    let q_in = subst (λ (s : Standings). c.args.q.0 < s.procs) (sym c.self.view_is) c.requires.told in
    rw (← c.self.view_is) (does_and_tells _ _ before _ c.args.shown _ _ (noticing c.args.p.0 c.args.q.0) (item.Told c.args.p c.args.q ∷ []) c.in_ok-tell.ensures.writes c.in_ok-tell.ensures.counts
    (λ job w asks is.
    let is_may = c.requires.may job w (subst (λ (s : Standings). IsWorldOf job s w) c.self.view_is is) in
    notice_did job before w c.args.p c.args.q c.from.result c.notice.new.self c.close_from.new.self c.tell.new.self c.self.invariant is p_in q_in is_may c.from.ensures
    (rw (post_is before c.self.invariant c.from.result c.args.q.0 c.from.ensures q_in c.index_mut.result.now c.index_mut.ensures.value) at c.notice.ensures.learns) c.close_from.ensures))
