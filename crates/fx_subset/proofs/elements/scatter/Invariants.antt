use Rattle.std.proofs.Common.{◌≡◌, drop}
use Rattle.std.specs.FinMap as finite
use Rattle.fx_subset.proofs.Written.{written}
use Rattle.fx_subset.proofs.elements.scatter.Given as goal

abbrev pub invariant-loop-at : goal.invariant-loop-at
invariant-loop-at l = written (drop l.at (finite.entries l.values)) l.into ≡ written (finite.entries l.values) l.fn.into
