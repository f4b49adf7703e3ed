-- What is written so far, with the declarations that are left, is the whole.
use Rattle.std.proofs.Common.{◌≡◌, ◌++◌, map, drop}
use Rattle.fx_script.specs.Canonical.{text_of}
use Rattle.fx_script.specs.Spelling.{decl_entry}
use Rattle.fx_script.proofs.print.put_names.Given as goal

abbrev pub invariant-loop-decl : goal.invariant-loop-decl
invariant-loop-decl l = l.out ++ text_of (map decl_entry (drop l.decl-index l.names)) ≡ l.fn.out ++ text_of (map decl_entry l.names)
