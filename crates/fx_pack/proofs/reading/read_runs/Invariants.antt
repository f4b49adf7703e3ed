use Rattle.std.proofs.Common.{◌≡◌, ◌-◌}
use Rattle.std.specs.FinMap.{empty}
use Rattle.fx_base.specs.Bounds.{HasIndicesBelow256}
use Rattle.fx_pack.specs.Reading.{runs_put}
use Rattle.fx_pack.proofs.reading.read_runs.Given as goal

abbrev pub invariant-loop : goal.invariant-loop
invariant-loop l = record {
  read : runs_put (l.count - l.counter) l.least l.rest l.elements ≡ runs_put l.fn.count 0 l.fn.bytes empty;
  indices : HasIndicesBelow256 l.elements;
}
