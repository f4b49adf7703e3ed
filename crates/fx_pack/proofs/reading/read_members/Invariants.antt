use Rattle.std.proofs.Common.{◌≡◌, ◌-◌, ◌≤◌}
use Rattle.std.specs.FinMap.{empty}
use Rattle.fx_pack.specs.Reading.{members_put}
use Rattle.fx_pack.proofs.reading.read_members.Given as goal

abbrev pub invariant-loop : goal.invariant-loop
invariant-loop l = record {
  read : members_put (l.count - l.counter) l.least l.rest l.snapshot ≡ members_put l.fn.count 0 l.fn.bytes empty;
  least : l.least ≤ 8;
}
