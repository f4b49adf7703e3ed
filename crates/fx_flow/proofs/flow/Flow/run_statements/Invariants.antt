use Rattle.fx_script.specs.declared.job.Job.{Job}
use Rattle.std.proofs.Common.{List}
use Rattle.fx_script.specs.declared.job.Stmt.{Stmt}
use Rattle.fx_flow.specs.Flowing.{IsDue}
use Rattle.fx_flow.proofs.Calls.{Continues}
use Rattle.fx_flow.proofs.flow.Flow.run_statements.Given as goal

abbrev pub invariant-loop-left : goal.invariant-loop-left
invariant-loop-left l = (job : Job) (body : List Stmt) → IsDue job body l.fn.count l.fn.self → Continues job l.view body l.fn.self l.self l.prints l.left

abbrev pub decreases-loop-left : goal.decreases-loop-left
decreases-loop-left l = l.left
