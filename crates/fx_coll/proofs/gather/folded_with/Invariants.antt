use Rattle.std.proofs.Common.{◌≡◌, drop}
use Rattle.fx_coll.specs.Keeping.{numbers}
use Rattle.fx_walk.specs.Values.{reduced_with}
use Rattle.fx_coll.proofs.gather.folded_with.Given as goal

abbrev pub invariant-loop-known : goal.invariant-loop-known
invariant-loop-known l = reduced_with l.op l.so_far (numbers (drop l.known-index l.more)) ≡ reduced_with l.op l.first (numbers l.more)
