use Rattle.std.proofs.Common.{drop}
use Rattle.fx_check.specs.Facts.{attached_in}
use Rattle.fx_check.proofs.Gathering.{SameAttached}
use Rattle.fx_check.proofs.tables.+gather_attached.Given as goal

abbrev pub invariant-gather_attached-loop-statement : goal.invariant-gather_attached-loop-statement
invariant-gather_attached-loop-statement l = SameAttached l.attached (attached_in (drop l.statement-index l.body)) l.fn.attached (attached_in l.body)
