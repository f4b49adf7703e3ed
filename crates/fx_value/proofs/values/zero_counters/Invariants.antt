use Rattle.std.proofs.Common.{◌≡◌, ◌++◌, drop}
use Rattle.fx_walk.specs.State.{zero_counters}
use Rattle.fx_value.proofs.values.zero_counters.Given as goal

abbrev pub invariant-loop-decl : goal.invariant-loop-decl
invariant-loop-decl l = l.counters.items ++ zero_counters (drop l.decl-index l.names) ≡ zero_counters l.names
