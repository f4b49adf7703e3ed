use Rattle.std.proofs.Common.{◌≡◌, take}
use Rattle.fx_flow.specs.Outward.{selected}
use Rattle.fx_flow.proofs.asking.selected.Given as goal

abbrev pub invariant-loop-index : goal.invariant-loop-index
invariant-loop-index l = l.made ≡ selected l.selection (take l.index l.elements)
