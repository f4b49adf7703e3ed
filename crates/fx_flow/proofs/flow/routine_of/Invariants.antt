use Rattle.std.proofs.Common.{◌≡◌, drop}
use Rattle.std.specs.List.{find}
use Rattle.fx_flow.specs.Flowing.{is_routine_of}
use Rattle.fx_flow.proofs.flow.routine_of.Given as goal

abbrev pub invariant-loop-routine : goal.invariant-loop-routine
invariant-loop-routine l = find (is_routine_of l.name) (drop l.routine-index l.routines) ≡ find (is_routine_of l.name) l.routines
