-- What is written so far, with the statements that are left, is the whole.
use Rattle.std.proofs.Common.{◌≡◌, ◌++◌, drop}
use Rattle.fx_script.specs.Canonical.{text_of}
use Rattle.fx_script.specs.Spelling.{stmts_entries}
use Rattle.fx_script.proofs.print_stmt.+printing.Given as goal

abbrev pub invariant-put_stmts-loop-stmt : goal.invariant-put_stmts-loop-stmt
invariant-put_stmts-loop-stmt l = l.out ++ text_of (stmts_entries (drop l.stmt-index l.stmts)) ≡ l.fn.out ++ text_of (stmts_entries l.stmts)
