use Rattle.std.proofs.Common.{◌<◌, length, arith}
use Rattle.fx_check.specs.Facts.{facts_of}
use Rattle.fx_flow.specs.declared.instr.Routine.{Routine}
use Rattle.fx_flow.proofs.Made.{grows_on, one_made}
use Rattle.fx_flow.proofs.flow.emit_routines.Goals as goal

pub loop-callback-preserved : goal.loop-callback-preserved
loop-callback-preserved c =
    let f = facts_of c.args.job.now in
    let emits = rw (c.as_slice.ensures) at c.in_ok-begin.ensures in
    let routine : Routine = record { name = c.in_ok-copy.field-0; begin = c.in_ok-begin.begin; count = c.len.result } in
    let within : c.loop-callback.callback-index < length c.callbacks-callback-items.result.now = omega arith in
    record {
      grew = grows_on f c.args.code.now c.loop-callback.code c.emit_stmts.new.code c.in_ok-begin.begin c.callback-item.result c.loop-callback.invariant.grew emits;
      are = λ end. rw (c.in_ok-push.ensures.ok)
          (one_made f c.args.code.now c.loop-callback.code c.emit_stmts.new.code c.callbacks-callback-items.result.now c.loop-callback.callback-index c.loop-callback.routines routine c.callback-item.result
          within c.callback-item.is c.loop-callback.invariant.grew emits c.in_ok-copy.ensures c.len.ensures end (c.loop-callback.invariant.are end));
    }
