-- the rounds that are left lead to where all of them do
use Rattle.std.proofs.Common.{◌-◌}
use Rattle.fx_world.specs.Goes.{in_tail}
use Rattle.fx_world.specs.Standings.{IsOfSame}
use Rattle.fx_world.proofs.Going.{IsOnWay}
use Rattle.fx_world.proofs.world.World.run_tail.Given as goal

abbrev pub invariant-loop : goal.invariant-loop
invariant-loop g l = record {
  way : IsOnWay l.initial.self l.self l.shown (g.K.Sink.state l.fn.sink) (g.K.Sink.state l.sink) (in_tail l.bound) (in_tail (l.bound - l.counter));
  same : IsOfSame l.initial.self l.self;
}
