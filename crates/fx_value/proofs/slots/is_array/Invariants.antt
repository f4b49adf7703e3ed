use Rattle.std.proofs.Common.{◌≡◌, drop}
use Rattle.fx_check.specs.Facts.{is_array}
use Rattle.fx_value.proofs.slots.is_array.Given as goal

abbrev pub invariant-loop-decl : goal.invariant-loop-decl
invariant-loop-decl l = is_array (drop l.decl-index l.names) l.name ≡ is_array l.names l.name
