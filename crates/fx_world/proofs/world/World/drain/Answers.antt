use Rattle.std.proofs.Common.{◌≡◌, ◌<◌, None, ap, subst, sym, ◌∙◌}
use Rattle.std.proofs.lemmas.Result.{err_from_is_err_and}
use Rattle.fx_link.specs.LinkTable.{first_of, link_of}
use Rattle.fx_world.specs.Goes.{delivering, draining}
use Rattle.fx_world.specs.Standings.{Standings}
use Rattle.fx_world.proofs.Going.{cuts_way, ends_way, goes_way}
use Rattle.fx_world.proofs.Loops.{delivery_of_drain, drain_on, none_copied, nothing_left}
use Rattle.fx_world.proofs.world.World.drain.Goals as goal

pub loop-p-preserved : goal.loop-p-preserved
loop-p-preserved g c = record {
  way = goes_way _ _ _ _ _ c.args.shown _ _ _ (draining c.args.p.0 c.args.q.0) (draining c.args.p.0 c.args.q.0) (draining c.args.p.0 c.args.q.0) (delivering c.args.p.0 c.args.q.0) c.loop-p.invariant.way c.in_ok-deliver.ensures.goes
      (λ job w asks is. drain_on job c.args.p.0 c.args.q.0 w);
  same = record { procs = c.in_ok-deliver.ensures.of_all.procs ∙ c.loop-p.invariant.same.procs; fuel = c.in_ok-deliver.ensures.of_all.fuel ∙ c.loop-p.invariant.same.fuel };
}

pub returns-in_err-deliver-clause-goes : goal.returns-in_err-deliver-clause-goes
returns-in_err-deliver-clause-goes g c =
    let p = err_from_is_err_and c.from_residual.result c.from_residual.ensures.1 in
    rw (p.1, p.2) (cuts_way _ _ c.in_err-deliver.field-0.0 _ _ _ c.args.shown _ _ _ (draining c.args.p.0 c.args.q.0) (draining c.args.p.0 c.args.q.0) (delivering c.args.p.0 c.args.q.0) c.loop-p.invariant.way c.in_err-deliver.ensures.goes
    (λ job w asks is. delivery_of_drain job c.args.p.0 c.args.q.0 w))

pub returns-clause-goes : goal.returns-clause-goes
returns-clause-goes g c =
    let none : None ≡ first_of (link_of c.loop-p.self.links c.args.p.0 c.args.q.0) =
    none_copied c.front.result c.loop-p-test.ensures ∙ c.front.ensures ∙ ap (λ (s : Standings). first_of (link_of s.links c.args.p.0 c.args.q.0)) c.self.view_is in
    ends_way _ tt _ _ c.args.shown _ _ (draining c.args.p.0 c.args.q.0) (draining c.args.p.0 c.args.q.0) c.loop-p.invariant.way
    (λ job w asks is. nothing_left job c.loop-p.self w c.args.p.0 c.args.q.0 is
    (subst (λ n. c.args.p.0 < n) (sym c.loop-p.invariant.same.procs) c.requires.sender) (subst (λ n. c.args.q.0 < n) (sym c.loop-p.invariant.same.procs) c.requires.receiver) none)
