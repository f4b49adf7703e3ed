use Rattle.fx_script.specs.declared.job.Job.{Job}
use Rattle.fx_flow.specs.Flowing.{IsFlowOf}
use Rattle.fx_flow.proofs.Calls.{Calls}
use Rattle.fx_flow.proofs.flow.Flow.run_registered.Given as goal

abbrev pub invariant-loop-at : goal.invariant-loop-at
invariant-loop-at l = (job : Job) → IsFlowOf job l.fn.self → Calls job l.view l.fn.self l.self l.run l.at
