use Rattle.std.proofs.Common.{◌≡◌, drop}
use Rattle.fx_check.specs.Acceptance.{callback_body_lines, first_refused}
use Rattle.fx_check.specs.Facts.{facts_of}
use Rattle.fx_check.proofs.callbacks.check_body.Given as goal

abbrev pub invariant-loop-index : goal.invariant-loop-index
invariant-loop-index l = first_refused (callback_body_lines (facts_of l.job) l.index (drop l.index l.body)) ≡ first_refused (callback_body_lines (facts_of l.job) 0 l.body)
