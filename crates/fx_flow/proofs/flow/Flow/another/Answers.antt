use Rattle.fx_value.specs.Shape.{blank_of}
use Rattle.fx_flow.specs.Flowing.{Flowing, IsFlowOf}
use Rattle.fx_flow.proofs.Kept.{from_begin}
use Rattle.fx_flow.proofs.Made.{another_made}
use Rattle.fx_flow.proofs.flow.Flow.another.Goals as goal

pub returns-clause-of_job : goal.returns-clause-of_job
returns-clause-of_job c =
    let f : Flowing = record { code = c.self.inside.code.value.instrs; begin = c.self.inside.code.value.begin; routines = c.self.inside.code.value.routines; stand = c.self.inside.cursor } in
    rw (c.in_ok-clone.ensures.cases, c.in_ok-new.ensures, c.deref.ensures, c.as_slice.ensures, c.job.ensures.same) (another_made c.args.job.now f (rw (← c.self.view_is) at c.requires))

pub returns-clause-begins : goal.returns-clause-begins
returns-clause-begins c =
    let f : Flowing = record { code = c.self.inside.code.value.instrs; begin = c.self.inside.code.value.begin; routines = c.self.inside.code.value.routines; stand = c.in_ok-new.field-0 } in
    let at = rw (c.deref.ensures, c.as_slice.ensures, c.job.ensures.same) at c.in_ok-new.ensures in
    let is_it : IsFlowOf c.args.job.now f = rw c.in_ok-clone.ensures.cases at (returns-clause-of_job c) in
    rw c.in_ok-clone.ensures.cases (from_begin c.args.job.now f (blank_of c.args.job.now.names) is_it at)
