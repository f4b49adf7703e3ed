use Rattle.std.proofs.Common.{◌≡◌, [], take, drop}
use Rattle.fx_check.specs.Acceptance.{decl_lines, first_refused}
use Rattle.fx_check.proofs.head.check_names.Given as goal

abbrev pub invariant-loop-index : goal.invariant-loop-index
invariant-loop-index l = first_refused (decl_lines (take l.index l.names) (drop l.index l.names)) ≡ first_refused (decl_lines [] l.names)
