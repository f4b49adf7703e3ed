use Rattle.std.proofs.Common.{Bool, Ok, ◌∙◌, ◌≡◌, ◌<◌, ◌++◌, map, refl, subst, sym, true}
use Rattle.std.proofs.lemmas.List.Elements.{All-nil}
use Rattle.std.proofs.lemmas.Result.{err_from_is_err_and}
use Rattle.fx_base.specs.declared.names.Proc.{Proc}
use Rattle.fx_fleet.specs.Runs.{job_setup}
use Rattle.fx_fleet.specs.World.{World, up}
use Rattle.fx_node.specs.Asking.{AsksCarried}
use Rattle.fx_script.specs.declared.job.Job.{Job}
use Rattle.fx_link.specs.declared.message.Message.{Message}
use Rattle.fx_world.specs.contracts.world.World.{the_view}
use Rattle.fx_world.specs.Goes.{Goes, stepping}
use Rattle.fx_world.specs.Sends.{sent_item}
use Rattle.fx_world.specs.Standings.{IsWorldOf, Standings}
use Rattle.fx_world.proofs.Going.{does_and_tells, gives_up_at_once, is_cut, passes_over}
use Rattle.fx_world.proofs.Grows.{step_adds}
use Rattle.fx_world.proofs.Related.{one_of}
use Rattle.fx_world.proofs.Singles.{post_is, same_links_sound}
use Rattle.fx_world.proofs.Stepping.{all_did, is_quiet_now, no_step, not_quiet, rests_now, step_begins, taken, waits, waits_on}
use Rattle.fx_world.proofs.world.World.take_step.Goals as goal

pub invariant_of-self : goal.invariant_of-self
invariant_of-self g c =
    let before = the_view c.self.inside in
    let p_in = subst (λ (s : Standings). c.args.p.0 < s.procs) (sym c.self.view_is) c.requires.there in
    same_links_sound before c.from.result c.step.new.self c.self.invariant
    (c.step.ensures.of_all before.procs (rw (post_is before c.self.invariant c.from.result c.args.p.0 c.from.ensures p_in c.index_mut.result.now c.index_mut.ensures.value) (one_of before c.args.p.0 c.self.invariant p_in)))

pub returns-in_err-step-clause-goes : goal.returns-in_err-step-clause-goes
returns-in_err-step-clause-goes g c =
    let p = err_from_is_err_and c.from_residual.result c.from_residual.ensures.1 in
    rw (p.1, p.2) (gives_up_at_once _ c.args.self.now _ c.args.shown _ (stepping c.args.p.0) (λ job w. step_adds (job_setup job) c.args.p.0 w))

pub invariant_of-self-in-Acted : goal.invariant_of-self-in-Acted
invariant_of-self-in-Acted g c =
    let before = the_view c.self.inside in
    let p_in = subst (λ (s : Standings). c.args.p.0 < s.procs) (sym c.self.view_is) c.requires.there in
    same_links_sound before c.from.result c.step.new.self c.self.invariant
    (c.step.ensures.of_all before.procs (rw (post_is before c.self.invariant c.from.result c.args.p.0 c.from.ensures p_in c.index_mut.result.now c.index_mut.ensures.value) (one_of before c.args.p.0 c.self.invariant p_in)))

pub returns-in_err-carry_out-in-Acted-clause-goes : goal.returns-in_err-carry_out-in-Acted-clause-goes
returns-in_err-carry_out-in-Acted-clause-goes g c =
    let before = the_view c.self.inside in
    let p_in = subst (λ (s : Standings). c.args.p.0 < s.procs) (sym c.self.view_is) c.requires.there in
    let post = post_is before c.self.invariant c.from.result c.args.p.0 c.from.ensures p_in c.index_mut.result.now c.index_mut.ensures.value in
    let passes = rw (post, c.new-sends.ensures, c.clear.ensures, c.in-Acted.is) at c.in_ok-step.ensures.steps in
    let act = λ (job : Job) (w : World) (asks : AsksCarried job) (is : IsWorldOf job before w) (is_on : up (job_setup job) w c.args.p.0 ≡ true). taken job before w c.args.p.0 c.step.new.self c.step.new.sends c.step.new.items is p_in asks is_on passes in
    let p = err_from_is_err_and c.from_residual-in_err-carry_out-in-Acted.result c.from_residual-in_err-carry_out-in-Acted.ensures.1 in
    rw (← c.self.view_is, p.1, p.2) (is_cut _ before _ c.args.shown _ _ (stepping c.args.p.0) (c.step.new.items ++ map (sent_item c.args.p) c.step.new.sends) c.in_err-carry_out-in-Acted.field-0.0 (rw (c.as_slice.ensures, c.replace-items.ensures.value) at c.in_err-carry_out-in-Acted.ensures.writes)
    (λ job w asks is.
    let is_on = c.requires.is_up job w (subst (λ (s : Standings). IsWorldOf job s w) c.self.view_is is) in
    step_begins job w c.args.p c.step.new.self c.step.new.sends c.step.new.items (act job w asks is is_on) is_on))

pub invariant_of-self-in-Quiet-1 : goal.invariant_of-self-in-Quiet-1
invariant_of-self-in-Quiet-1 g c =
    let before = the_view c.self.inside in
    let p_in = subst (λ (s : Standings). c.args.p.0 < s.procs) (sym c.self.view_is) c.requires.there in
    same_links_sound before c.from.result c.step.new.self c.self.invariant
    (c.step.ensures.of_all before.procs (rw (post_is before c.self.invariant c.from.result c.args.p.0 c.from.ensures p_in c.index_mut.result.now c.index_mut.ensures.value) (one_of before c.args.p.0 c.self.invariant p_in)))

pub returns-in_ok-carry_out-in-Acted-clause-goes : goal.returns-in_ok-carry_out-in-Acted-clause-goes
returns-in_ok-carry_out-in-Acted-clause-goes g c =
    let before = the_view c.self.inside in
    let p_in = subst (λ (s : Standings). c.args.p.0 < s.procs) (sym c.self.view_is) c.requires.there in
    let post = post_is before c.self.invariant c.from.result c.args.p.0 c.from.ensures p_in c.index_mut.result.now c.index_mut.ensures.value in
    let passes = rw (post, c.new-sends.ensures, c.clear.ensures, c.in-Acted.is) at c.in_ok-step.ensures.steps in
    let act = λ (job : Job) (w : World) (asks : AsksCarried job) (is : IsWorldOf job before w) (is_on : up (job_setup job) w c.args.p.0 ≡ true). taken job before w c.args.p.0 c.step.new.self c.step.new.sends c.step.new.items is p_in asks is_on passes in
    let receivers = c.in_ok-step.ensures.to_processes before.procs (rw post (one_of before c.args.p.0 c.self.invariant p_in)) (rw c.new-sends.ensures (All-nil (λ (x : Proc × Message). x.0.0 < before.procs))) in
    let after : the_view c.self-in-Acted.inside ≡ c.carry_out.new.self = c.self-in-Acted.view_is ∙ c.give_back.ensures in
    rw (← c.self.view_is) (subst (λ (s : Standings). Goes Bool before s c.args.shown (g.K.Sink.state c.args.sink.now) (g.K.Sink.state c.carry_out.new.sink) (stepping c.args.p.0) (Ok true)) (sym after) (does_and_tells _ _ before _ c.args.shown _ _ (stepping c.args.p.0) (c.step.new.items ++ map (sent_item c.args.p) c.step.new.sends) (rw (c.as_slice.ensures, c.replace-items.ensures.value) at c.in_ok-carry_out-in-Acted.ensures.writes) (rw (c.as_slice.ensures, c.replace-items.ensures.value) at c.in_ok-carry_out-in-Acted.ensures.counts)
    (λ job w asks is.
    let is_on = c.requires.is_up job w (subst (λ (s : Standings). IsWorldOf job s w) c.self.view_is is) in
    all_did job before c.carry_out.new.self w c.args.p c.from.result c.step.new.self c.step.new.sends c.step.new.items c.self.invariant is p_in c.from.ensures (act job w asks is is_on) is_on receivers (c.in_ok-carry_out-in-Acted.ensures.links job))))

pub returns-in_ok-carry_out-in-Acted-clause-acts : goal.returns-in_ok-carry_out-in-Acted-clause-acts
returns-in_ok-carry_out-in-Acted-clause-acts g c =
    let before = the_view c.self.inside in
    let p_in = subst (λ (s : Standings). c.args.p.0 < s.procs) (sym c.self.view_is) c.requires.there in
    let post = post_is before c.self.invariant c.from.result c.args.p.0 c.from.ensures p_in c.index_mut.result.now c.index_mut.ensures.value in
    let passes = rw (post, c.new-sends.ensures, c.clear.ensures, c.in-Acted.is) at c.in_ok-step.ensures.steps in
    let act = λ (job : Job) (w : World) (asks : AsksCarried job) (is : IsWorldOf job before w) (is_on : up (job_setup job) w c.args.p.0 ≡ true). taken job before w c.args.p.0 c.step.new.self c.step.new.sends c.step.new.items is p_in asks is_on passes in
    λ job w asks is.
    let is_it = subst (λ (s : Standings). IsWorldOf job s w) (sym c.self.view_is) is in
    let is_on = c.requires.is_up job w is in
    not_quiet job w c.args.p c.step.new.self c.step.new.sends c.step.new.items (act job w asks is_it is_on) is_on

pub returns-in-Quiet : goal.returns-in-Quiet
returns-in-Quiet g c =
    let before = the_view c.self.inside in
    let p_in = subst (λ (s : Standings). c.args.p.0 < s.procs) (sym c.self.view_is) c.requires.there in
    let post = post_is before c.self.invariant c.from.result c.args.p.0 c.from.ensures p_in c.index_mut.result.now c.index_mut.ensures.value in
    let passes = rw (post, c.new-sends.ensures, c.clear.ensures) at c.in_ok-step.ensures.steps in
    let other = rests_now c.in_ok-step.field-0 c.in-Quiet.is in
    let wait = λ (job : Job) (w : World) (asks : AsksCarried job) (is : IsWorldOf job before w) (is_on : up (job_setup job) w c.args.p.0 ≡ true). waits job before w c.args.p.0 c.in_ok-step.field-0 c.step.new.self c.step.new.sends c.step.new.items is p_in asks is_on other passes in
    record {
      goes = rw (← c.self.view_is) (passes_over _ _ before _ c.args.shown _ (stepping c.args.p.0) refl
          (λ job w asks is.
          let is_on = c.requires.is_up job w (subst (λ (s : Standings). IsWorldOf job s w) c.self.view_is is) in
          let quiet = wait job w asks is is_on in
          (no_step job w c.args.p.0 c.step.new.self quiet is_on, waits_on job w c.args.p.0 c.step.new.self quiet is_on before c.from.result c.self.invariant is p_in c.from.ensures)));
      acts = λ job w asks is.
          let is_it = subst (λ (s : Standings). IsWorldOf job s w) (sym c.self.view_is) is in
          let is_on = c.requires.is_up job w is in
          is_quiet_now job w c.args.p.0 c.step.new.self (wait job w asks is_it is_on) is_on;
      of_all = rw (← c.self.view_is) record { procs = refl; fuel = refl };
    }
