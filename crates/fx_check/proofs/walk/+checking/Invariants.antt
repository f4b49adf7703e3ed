use Rattle.std.proofs.Common.{◌≡◌, drop}
use Rattle.fx_check.specs.Acceptance.{first_refused, stmts_lines}
use Rattle.fx_check.specs.Facts.{facts_of}
use Rattle.fx_check.proofs.walk.+checking.Given as goal

abbrev pub invariant-check_stmts-loop-statement : goal.invariant-check_stmts-loop-statement
invariant-check_stmts-loop-statement l =
    first_refused (stmts_lines (facts_of l.job) (drop l.statement-index l.body) l.place) ≡ first_refused (stmts_lines (facts_of l.job) l.body l.place)
