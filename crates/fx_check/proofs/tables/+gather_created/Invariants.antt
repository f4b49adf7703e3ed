use Rattle.std.proofs.Common.{drop}
use Rattle.fx_check.specs.Facts.{created_in}
use Rattle.fx_check.proofs.Gathering.{SameCreated}
use Rattle.fx_check.proofs.tables.+gather_created.Given as goal

abbrev pub invariant-gather_created-loop-statement : goal.invariant-gather_created-loop-statement
invariant-gather_created-loop-statement l = SameCreated l.created (created_in (drop l.statement-index l.body)) l.fn.created (created_in l.body)
