use Rattle.std.proofs.Common.{◌≡◌, drop}
use Rattle.fx_check.specs.Facts.{attached_in, first_attached}
use Rattle.fx_check.proofs.lookup.+attached_in.Given as goal

abbrev pub invariant-attached_in-loop-statement : goal.invariant-attached_in-loop-statement
invariant-attached_in-loop-statement l = first_attached (attached_in (drop l.statement-index l.body)) l.group l.member ≡ first_attached (attached_in l.body) l.group l.member
