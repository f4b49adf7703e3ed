-- what is complete so far settles as the whole does
use Rattle.std.proofs.Common.{◌≡◌, length}
use Rattle.fx_script.specs.Exprs.{settled}
use Rattle.fx_script.proofs.expr.settle.Given as goal

abbrev pub invariant-loop-top : goal.invariant-loop-top
invariant-loop-top l = settled l.whole l.pending ≡ settled l.fn.expr l.fn.pending

abbrev pub decreases-loop-top : goal.decreases-loop-top
decreases-loop-top l = length l.pending
