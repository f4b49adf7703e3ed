use Rattle.std.proofs.Common.{ap, subst, sym, ◌∙◌}
use Rattle.std.proofs.lemmas.List.{append-nil}
use Rattle.std.proofs.lemmas.Result.{on_ok_weaker}
use Rattle.fx_check.specs.Facts.{facts_of}
use Rattle.fx_flow.specs.Flowing.{IsFlowOf, state_of}
use Rattle.fx_walk.specs.Callbacks.{body_start}
use Rattle.fx_node.specs.Standing.{Standing}
use Rattle.fx_node.proofs.Begun.{others_begin, others_call_nothing, others_start, survivor_begins, survivor_starts}
use Rattle.fx_node.proofs.node.Node.begin_walk.Goals as goal

pub returns-in-Survivor-clause-begins : goal.returns-in-Survivor-clause-begins
returns-in-Survivor-clause-begins c =
    let now = sym c.self.view_is in
    on_ok_weaker c.run_callbacks.result (λ h. λ job flow view.
    let back = subst (λ (s : Standing). IsFlowOf job s.flow) now flow in
    survivor_begins job c.self.inside.role c.args.self.now.role c.args.self.now.view.rank c.args.self.now.view.size _ c.self.inside.flow c.args.self.now.flow c.rewind.new.self c.run_callbacks.new.self.flow view
    (ap (λ (s : Standing). s.role) now) (ap (λ (s : Standing). s.flow) now) c.in-Survivor.is (ap (λ (s : Standing). s.view) c.self.view_is ∙ c.requires) (c.rewind.ensures.keeps job back)
    (h job (c.rewind.ensures.same_job job back) c.rewind.ensures.goes_back view)) c.run_callbacks.ensures.begins

pub returns-in-Survivor-clause-keeps : goal.returns-in-Survivor-clause-keeps
returns-in-Survivor-clause-keeps c =
    let now = sym c.self.view_is in
    on_ok_weaker c.run_callbacks.result (λ h. λ job flow.
    let back = subst (λ (s : Standing). IsFlowOf job s.flow) now flow in
    h job (c.rewind.ensures.same_job job back)
    ∙ survivor_starts job c.self.inside.role c.args.self.now.role c.args.self.now.view.rank c.args.self.now.view.size _ c.self.inside.flow c.args.self.now.flow c.rewind.new.self
    (ap (λ (s : Standing). s.role) now) (ap (λ (s : Standing). s.flow) now) c.in-Survivor.is (ap (λ (s : Standing). s.view) c.self.view_is ∙ c.requires) (c.rewind.ensures.keeps job back)) c.run_callbacks.ensures.leaves

pub returns-in-Initial : goal.returns-in-Initial
returns-in-Initial c =
    let now = sym c.self.view_is in
    let role = ap (λ (s : Standing). s.role) now in
    record {
      writes = λ job flow. rw (others_call_nothing job c.self.inside.role c.args.self.now.role c.args.self.now.view.rank c.args.self.now.view.size (state_of c.args.self.now.flow) role c.in-Initial.is) (sym (append-nil c.args.items.now));
      begins = λ job flow view.
          let back = subst (λ (s : Standing). IsFlowOf job s.flow) now flow in
          others_begin job c.self.inside.role c.args.self.now.role c.args.self.now.view.rank c.args.self.now.view.size c.self.inside.flow c.args.self.now.flow c.rewind.new.self view
          role (ap (λ (s : Standing). s.flow) now) c.in-Initial.is (c.rewind.ensures.begins job back view);
      keeps = λ job flow.
          let back = subst (λ (s : Standing). IsFlowOf job s.flow) now flow in
          c.rewind.ensures.keeps job back
          ∙ others_start job c.self.inside.role c.args.self.now.role c.args.self.now.view.rank c.args.self.now.view.size (state_of c.self.inside.flow) role c.in-Initial.is
          ∙ ap (λ (s : Standing). body_start (facts_of job) c.args.self.now.role c.args.self.now.view.rank c.args.self.now.view.size (state_of s.flow)) c.self.view_is;
      same_job = λ job flow. c.rewind.ensures.same_job job (subst (λ (s : Standing). IsFlowOf job s.flow) now flow);
      same = ap (λ (s : Standing). record s { flow = c.rewind.new.self }) c.self.view_is;
    }
