use Rattle.std.proofs.Common.{◌≡◌, ◌+◌, ◌-◌}
use Rattle.fx_base.specs.Bounds.{HasIndicesBelow256}
use Rattle.fx_pack.specs.Reading.{elements_put}
use Rattle.fx_pack.proofs.reading.read_elements.Given as goal

abbrev pub invariant-loop-index : goal.invariant-loop-index
invariant-loop-index l = record {
  read : elements_put (l.start + l.count - l.index) l.index l.rest l.elements ≡ elements_put l.fn.count l.fn.start l.fn.bytes l.fn.elements;
  indices : HasIndicesBelow256 l.elements;
}
