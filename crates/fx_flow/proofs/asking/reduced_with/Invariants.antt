use Rattle.std.proofs.Common.{◌≡◌, drop}
use Rattle.fx_walk.specs.Values.{reduced_with}
use Rattle.fx_flow.proofs.asking.reduced_with.Given as goal

abbrev pub invariant-loop-element : goal.invariant-loop-element
invariant-loop-element l = reduced_with l.op l.so_far (drop l.element-index l.more) ≡ reduced_with l.op l.first l.more
