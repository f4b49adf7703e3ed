-- The first of the statements that are left is the first of all.
use Rattle.std.proofs.Common.{◌≡◌, drop}
use Rattle.fx_cli.specs.Built.{body_marks, first_in}
use Rattle.fx_cli.proofs.built.+first_of_body.Given as goal

abbrev pub invariant-first_of_body-loop-statement : goal.invariant-first_of_body-loop-statement
invariant-first_of_body-loop-statement l = first_in (body_marks (drop l.statement-index l.body)) ≡ first_in (body_marks l.body)
