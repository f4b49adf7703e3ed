use Rattle.std.proofs.Common.{◌≡◌, ◌<◌, ◌∷◌, [], None, Some, refl, subst, sym, ◌∙◌}
use Rattle.std.proofs.lemmas.Result.{err_from_is_err_and}
use Rattle.fx_item.specs.declared.item.Item.TheVariants as item
use Rattle.fx_link.specs.LinkTable.{first_of, link_of}
use Rattle.fx_machine.specs.Nodes.{receives}
use Rattle.fx_world.specs.contracts.world.World.{the_view}
use Rattle.fx_world.specs.Goes.{delivering}
use Rattle.fx_world.specs.Standings.{Standings}
use Rattle.fx_world.proofs.Going.{does_and_tells, gives_up, is_cut, passes_over}
use Rattle.fx_world.proofs.Related.{one_of}
use Rattle.fx_world.proofs.Singles.{delivery_begins, delivery_did, no_delivery, nothing_taken, post_is, taken_sound}
use Rattle.fx_world.proofs.world.World.deliver.Goals as goal

pub returns-in_default-clause-goes : goal.returns-in_default-clause-goes
returns-in_default-clause-goes g c =
    let before = the_view c.self.inside in
    let p_in = subst (λ (s : Standings). c.args.p.0 < s.procs) (sym c.self.view_is) c.requires.sender in
    let q_in = subst (λ (s : Standings). c.args.q.0 < s.procs) (sym c.self.view_is) c.requires.receiver in
    let none : None ≡ first_of (link_of before.links c.args.p.0 c.args.q.0) = sym c.in_default.is ∙ c.take.ensures.oldest in
    rw (← c.self.view_is, c.take.ensures.taken) (passes_over _ _ before _ c.args.shown _ (delivering c.args.p.0 c.args.q.0) refl
    (λ job w asks is. (no_delivery job before w c.args.p.0 c.args.q.0 is p_in q_in none, nothing_taken job before w c.args.p.0 c.args.q.0 c.self.invariant is p_in q_in none)))

pub returns-in_err-tell_delivery-clause-goes : goal.returns-in_err-tell_delivery-clause-goes
returns-in_err-tell_delivery-clause-goes g c =
    let before = the_view c.self.inside in
    let p_in = subst (λ (s : Standings). c.args.p.0 < s.procs) (sym c.self.view_is) c.requires.sender in
    let q_in = subst (λ (s : Standings). c.args.q.0 < s.procs) (sym c.self.view_is) c.requires.receiver in
    let some : Some c.in-Some.message ≡ first_of (link_of before.links c.args.p.0 c.args.q.0) = sym c.in-Some.is ∙ c.take.ensures.oldest in
    let p = err_from_is_err_and c.from_residual.result c.from_residual.ensures.1 in
    rw (← c.self.view_is, p.1, p.2) (is_cut _ before _ c.args.shown _ _ (delivering c.args.p.0 c.args.q.0) (item.Deliver c.args.p c.args.q c.in-Some.message ∷ []) c.in_err-tell_delivery.field-0.0 c.in_err-tell_delivery.ensures.writes
    (λ job w asks is. delivery_begins job before w c.args.p c.args.q c.in-Some.message is p_in q_in some))

pub invariant_of-self-in_err-receive : goal.invariant_of-self-in_err-receive
invariant_of-self-in_err-receive g c =
    let before = the_view c.self.inside in
    let p_in = subst (λ (s : Standings). c.args.p.0 < s.procs) (sym c.self.view_is) c.requires.sender in
    let q_in = subst (λ (s : Standings). c.args.q.0 < s.procs) (sym c.self.view_is) c.requires.receiver in
    rw c.take.ensures.taken (taken_sound before c.self.invariant c.from.result c.args.p.0 c.args.q.0 c.receive.new.self c.tell_delivery.new.self p_in q_in
    (c.receive.ensures.of_all before.procs (rw (post_is before c.self.invariant c.from.result c.args.q.0 c.from.ensures q_in c.index_mut.result.now c.index_mut.ensures.value) (one_of before c.args.q.0 c.self.invariant q_in))))

pub returns-in_err-receive-clause-goes : goal.returns-in_err-receive-clause-goes
returns-in_err-receive-clause-goes g c =
    let before = the_view c.self.inside in
    let p_in = subst (λ (s : Standings). c.args.p.0 < s.procs) (sym c.self.view_is) c.requires.sender in
    let q_in = subst (λ (s : Standings). c.args.q.0 < s.procs) (sym c.self.view_is) c.requires.receiver in
    let some : Some c.in-Some.message ≡ first_of (link_of before.links c.args.p.0 c.args.q.0) = sym c.in-Some.is ∙ c.take.ensures.oldest in
    let p = err_from_is_err_and c.from_residual-in_err-receive.result c.from_residual-in_err-receive.ensures.1 in
    rw (← c.self.view_is, p.1, p.2) (gives_up _ before _ c.args.shown _ _ (delivering c.args.p.0 c.args.q.0) (item.Deliver c.args.p c.args.q c.in-Some.message ∷ []) c.in_ok-tell_delivery.ensures.writes
    (λ job w asks is. delivery_begins job before w c.args.p c.args.q c.in-Some.message is p_in q_in some))

pub invariant_of-self-2 : goal.invariant_of-self-2
invariant_of-self-2 g c =
    let before = the_view c.self.inside in
    let p_in = subst (λ (s : Standings). c.args.p.0 < s.procs) (sym c.self.view_is) c.requires.sender in
    let q_in = subst (λ (s : Standings). c.args.q.0 < s.procs) (sym c.self.view_is) c.requires.receiver in
    rw c.take.ensures.taken (taken_sound before c.self.invariant c.from.result c.args.p.0 c.args.q.0 c.receive.new.self c.tell_delivery.new.self p_in q_in
    (c.receive.ensures.of_all before.procs (rw (post_is before c.self.invariant c.from.result c.args.q.0 c.from.ensures q_in c.index_mut.result.now c.index_mut.ensures.value) (one_of before c.args.q.0 c.self.invariant q_in))))

pub returns-clause-goes : goal.returns-clause-goes
returns-clause-goes g c =
    let before = the_view c.self.inside in
    let p_in = subst (λ (s : Standings). c.args.p.0 < s.procs) (sym c.self.view_is) c.requires.sender in
    let q_in = subst (λ (s : Standings). c.args.q.0 < s.procs) (sym c.self.view_is) c.requires.receiver in
    let some : Some c.in-Some.message ≡ first_of (link_of before.links c.args.p.0 c.args.q.0) = sym c.in-Some.is ∙ c.take.ensures.oldest in
    rw (← c.self.view_is) (does_and_tells _ _ before _ c.args.shown _ _ (delivering c.args.p.0 c.args.q.0) (item.Deliver c.args.p c.args.q c.in-Some.message ∷ []) c.in_ok-tell_delivery.ensures.writes c.in_ok-tell_delivery.ensures.counts
    (λ job w asks is.
    delivery_did job before w c.args.p c.args.q c.in-Some.message c.from.result c.receive.new.self c.take.new.self c.tell_delivery.new.self c.self.invariant is p_in q_in some c.from.ensures
    (rw (post_is before c.self.invariant c.from.result c.args.q.0 c.from.ensures q_in c.index_mut.result.now c.index_mut.ensures.value) at c.in_ok-receive.ensures.receives) c.take.ensures.taken))
