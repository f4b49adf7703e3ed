use Rattle.std.proofs.Common.{◌<◌, false, true, arith, ap, length, subst, sym, inl, inr}
use Rattle.std.proofs.lemmas.Bool.{cases_eq}
use Rattle.fx_fleet.specs.Runs.{job_setup}
use Rattle.fx_world.specs.Standings.{IsWorldOf, Standings}
use Rattle.fx_world.specs.contracts.world.World.{the_view}
use Rattle.fx_world.proofs.Ends.{none_up, one_up, so_many, up_at}
use Rattle.fx_world.proofs.world.World.is_over.Goals as goal

pub returns-then-is_up : goal.returns-then-is_up
returns-then-is_up c = λ job w is.
    let before = the_view c.self.inside in
    let is_it = subst (λ (s : Standings). IsWorldOf job s w) (sym c.self.view_is) is in
    let k = c.loop-post.post-index in
    let within : k < length before.posts = rw c.deref-post-items.ensures.value at c.loop-post-test.true in
    let up_now = up_at job before w k c.post-item.result true c.self.invariant is_it within (rw c.deref-post-items.ensures.value at c.post-item.is) c.if-is_up.ensures in
    one_up (job_setup job) w k (omega (arith, within, so_many job before w c.self.invariant is_it)) up_now

pub loop-post-preserved : goal.loop-post-preserved
loop-post-preserved c = λ job w is q below.
    let before = the_view c.self.inside in
    let is_it = subst (λ (s : Standings). IsWorldOf job s w) (sym c.self.view_is) is in
    let k = c.loop-post.post-index in
    let within : k < length before.posts = rw c.deref-post-items.ensures.value at c.loop-post-test.true in
    let up_now = up_at job before w k c.post-item.result false c.self.invariant is_it within (rw c.deref-post-items.ensures.value at c.post-item.is) c.if-is_up.ensures in
    elim (cases_eq q k) [
      | inl same ↦ rw same up_now
      | inr other ↦ c.loop-post.invariant job w is q (omega (arith, below, other))
    ]

pub returns : goal.returns
returns c = λ job w is.
    let before = the_view c.self.inside in
    let is_it = subst (λ (s : Standings). IsWorldOf job s w) (sym c.self.view_is) is in
    let len = ap length c.deref-post-items.ensures.value in
    none_up (job_setup job) w (λ q below. c.loop-post.invariant job w is q (omega (arith, below, c.loop-post-test.false, len, so_many job before w c.self.invariant is_it)))
