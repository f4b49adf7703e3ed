use Rattle.std.proofs.Common.{◌≡◌, drop}
use Rattle.fx_check.specs.Facts.{created_in, first_created}
use Rattle.fx_check.proofs.lookup.+created_in.Given as goal

abbrev pub invariant-created_in-loop-statement : goal.invariant-created_in-loop-statement
invariant-created_in-loop-statement l = first_created (created_in (drop l.statement-index l.body)) l.group ≡ first_created (created_in l.body) l.group
