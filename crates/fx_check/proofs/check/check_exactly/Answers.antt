use Rattle.std.proofs.Common.{ℕ, List, ◌≤◌, ap, min, subst, ◌∙◌}
use Rattle.fx_script.specs.declared.job.Stmt.{Stmt}
use Rattle.fx_check.proofs.Accepting.{accepted_by, not_capped}
use Rattle.fx_check.specs.Work.{work_of}
use Rattle.fx_check.proofs.check.check_exactly.Goals as goal

pub new-requires-clause-accepted : goal.new-requires-clause-accepted
new-requires-clause-accepted c =
    let is = c.work_up_to_limit-work.ensures ∙ ap (λ (body : List Stmt). min (work_of body) 20001) c.as_slice.ensures in
    accepted_by c.args.job c.in_ok-procs.ensures.exact (not_capped (work_of c.args.job.body) (subst (λ (n : ℕ). n ≤ 20000) is c.if-work-gt-MOST_WORK.false))
