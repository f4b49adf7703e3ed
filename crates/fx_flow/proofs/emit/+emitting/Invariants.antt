use Rattle.std.proofs.Common.{◌≤◌, drop, length}
use Rattle.fx_check.specs.Facts.{facts_of}
use Rattle.fx_flow.specs.Emits.{Emits}
use Rattle.fx_flow.proofs.emit.+emitting.Given as goal

abbrev pub invariant-emit_stmts-loop-left : goal.invariant-emit_stmts-loop-left
invariant-emit_stmts-loop-left l = record {
  within : l.left ≤ length l.body;
  emits : Emits (facts_of l.job) l.fn.code l.code l.next (drop l.left l.body) l.after;
}

abbrev pub decreases-emit_stmts-loop-left : goal.decreases-emit_stmts-loop-left
decreases-emit_stmts-loop-left l = l.left
