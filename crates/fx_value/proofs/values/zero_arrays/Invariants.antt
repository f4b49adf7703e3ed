use Rattle.std.proofs.Common.{◌≡◌, ◌++◌, drop}
use Rattle.fx_walk.specs.State.{zero_arrays}
use Rattle.fx_value.proofs.values.zero_arrays.Given as goal

abbrev pub invariant-loop-decl : goal.invariant-loop-decl
invariant-loop-decl l = l.arrays.items ++ zero_arrays (drop l.decl-index l.names) ≡ zero_arrays l.names
