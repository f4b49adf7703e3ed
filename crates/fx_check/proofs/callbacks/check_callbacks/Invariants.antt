use Rattle.std.proofs.Common.{◌≡◌, [], take, drop}
use Rattle.fx_check.specs.Acceptance.{callbacks_lines, first_refused}
use Rattle.fx_check.specs.Facts.{facts_of}
use Rattle.fx_check.proofs.callbacks.check_callbacks.Given as goal

abbrev pub invariant-loop-index : goal.invariant-loop-index
invariant-loop-index l = first_refused (callbacks_lines (facts_of l.job) (take l.index l.callbacks) (drop l.index l.callbacks)) ≡ first_refused (callbacks_lines (facts_of l.job) [] l.callbacks)
