use Rattle.std.proofs.Common.{◌≡◌, drop}
use Rattle.fx_check.specs.Facts.{array_in}
use Rattle.fx_check.proofs.lookup.array_in.Given as goal

abbrev pub invariant-loop-decl : goal.invariant-loop-decl
invariant-loop-decl l = array_in (drop l.decl-index l.names) l.name ≡ array_in l.names l.name
