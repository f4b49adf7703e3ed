use Rattle.std.proofs.Common.{◌≡◌, ◌++◌, drop, map, true}
use Rattle.std.specs.List.{list_all}
use Rattle.fx_check.specs.Rules.{pair_fits_32, pair_of}
use Rattle.fx_check.proofs.subsets.pairs_of.Given as goal

abbrev pub invariant-loop-pair : goal.invariant-loop-pair
invariant-loop-pair l = (l.made ++ map pair_of (drop l.pair-index l.pairs) ≡ map pair_of l.pairs) × (list_all pair_fits_32 (drop l.pair-index l.pairs) ≡ true)
