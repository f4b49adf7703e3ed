use Rattle.std.proofs.Common.{◌≡◌, ◌+◌, ◌≤◌, drop}
use Rattle.fx_walk.specs.State.{counter_slot}
use Rattle.fx_value.proofs.slots.counter_slot.Given as goal

abbrev pub invariant-loop-decl : goal.invariant-loop-decl
invariant-loop-decl l = record {
  within : l.slot ≤ l.decl-index;
  same : l.slot + counter_slot (drop l.decl-index l.names) l.name ≡ counter_slot l.names l.name;
}
