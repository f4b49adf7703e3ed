use Rattle.std.proofs.Common.{◌∙◌, ap, ◌++◌, ◌∷◌, [], List}
use Rattle.fx_value.specs.Shape.{blank_of}
use Rattle.fx_flow.specs.declared.instr.Instr.{Instr}
use Rattle.fx_flow.specs.declared.instr.Instr.TheVariants as instr
use Rattle.fx_flow.specs.Flowing.{Flowing, IsFlowOf}
use Rattle.fx_flow.proofs.Kept.{from_begin}
use Rattle.fx_flow.proofs.Made.{flow_made}
use Rattle.fx_flow.proofs.flow.Flow.new.Goals as goal

pub returns-clause-of_job : goal.returns-clause-of_job
returns-clause-of_job c =
    let one = c.in_ok-put.ensures.grew ∙ ap (λ (l : List Instr). l ++ instr.End ∷ []) (c.reserve.ensures ∙ c.new-code.ensures) in
    let emits = rw (c.in_ok-indexed.ensures, c.as_slice.ensures, c.job-job.ensures.same) at c.in_ok-begin.ensures in
    let are = rw (c.in_ok-indexed.ensures, c.job-job.ensures.same) at c.in_ok-routines.ensures.are in
    let parts = c.job-job.ensures.by_parts in
    rw (c.in_ok-code.ensures.ok, c.in_ok-cursor.ensures, c.as_slice-2.ensures, c.job-job.ensures.same)
    (flow_made c.args.job.now c.put.new.code c.emit_stmts.new.code c.emit_routines.new.code c.in_ok-begin.begin c.in_ok-routines.routines parts one emits c.in_ok-routines.ensures.grew are)

pub returns-clause-begins : goal.returns-clause-begins
returns-clause-begins c =
    let flow : Flowing = record { code = c.emit_routines.new.code; begin = c.in_ok-begin.begin; routines = c.in_ok-routines.routines; stand = c.in_ok-cursor.cursor } in
    let at = rw (c.as_slice-2.ensures, c.job-job.ensures.same) at c.in_ok-cursor.ensures in
    let is_it : IsFlowOf c.args.job.now flow = rw c.in_ok-code.ensures.ok at (returns-clause-of_job c) in
    rw c.in_ok-code.ensures.ok (from_begin c.args.job.now flow (blank_of c.args.job.now.names) is_it at)
