use Rattle.std.proofs.Common.{◌≡◌, take}
use Rattle.std.specs.Prelude.{min}
use Rattle.fx_check.specs.Work.{work_of}
use Rattle.fx_check.proofs.work.+work.Given as goal

abbrev pub invariant-work_up_to_limit-loop-statement :
    goal.invariant-work_up_to_limit-loop-statement
invariant-work_up_to_limit-loop-statement l = l.work ≡ min (work_of (take l.statement-index l.body)) 20001
