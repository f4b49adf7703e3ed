use Rattle.std.proofs.Common.{ap, subst, sym, ◌∙◌}
use Rattle.fx_check.specs.Facts.{facts_of}
use Rattle.fx_flow.specs.Flowing.{DoesRest, IsAtBegin, IsFlowOf, state_of}
use Rattle.fx_node.specs.Standing.{Standing}
use Rattle.fx_walk.specs.Callbacks.{state_behind_callbacks}
use Rattle.fx_walk.specs.InStep.{job_walk}
use Rattle.fx_walk.specs.State.{State}
use Rattle.fx_node.proofs.node.Node.run_callbacks.Goals as goal

pub returns-clause-begins : goal.returns-clause-begins
returns-clause-begins c = λ job flow at view.
    let ran = c.in_ok-run_callbacks.ensures in
    let back = subst (λ (s : Standing). IsFlowOf job s.flow) (sym c.self.view_is) flow in
    let begin = subst (λ (s : Standing). IsAtBegin s.flow) (sym c.self.view_is) at in
    let behind = ap (λ (s : Standing). state_behind_callbacks (facts_of job) s.view (state_of s.flow)) c.self.view_is in
    subst (λ (s : State). DoesRest view (job_walk job view s) c.run_callbacks.new.self) (ran.leaves job back ∙ behind) (ran.begins job back begin view)

pub returns-clause-leaves : goal.returns-clause-leaves
returns-clause-leaves c = λ job flow.
    let back = subst (λ (s : Standing). IsFlowOf job s.flow) (sym c.self.view_is) flow in
    c.in_ok-run_callbacks.ensures.leaves job back ∙ ap (λ (s : Standing). state_behind_callbacks (facts_of job) s.view (state_of s.flow)) c.self.view_is
