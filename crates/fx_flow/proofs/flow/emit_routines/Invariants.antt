use Rattle.std.proofs.Common.{◌≡◌, Some, take}
use Rattle.std.specs.Prelude.{slice_get}
use Rattle.fx_check.specs.Facts.{facts_of}
use Rattle.fx_flow.specs.declared.instr.Instr.TheVariants as instr
use Rattle.fx_flow.specs.Emits.{Grows}
use Rattle.fx_flow.specs.Flowing.{AreRoutines}
use Rattle.fx_flow.proofs.flow.emit_routines.Given as goal

abbrev pub invariant-loop-callback : goal.invariant-loop-callback
invariant-loop-callback l = record {
  grew : Grows l.fn.code l.code;
  are : slice_get l.fn.code 0 ≡ Some instr.End → AreRoutines (facts_of l.fn.job) l.code l.routines (take l.callback-index l.callback-items);
}
