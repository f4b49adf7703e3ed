-- those so far have had their turns
use Rattle.fx_fleet.specs.Rounds.{in_rising_order}
use Rattle.fx_world.specs.Goes.{Goes, in_turn}
use Rattle.fx_world.specs.Standings.{IsOfSame}
use Rattle.std.proofs.Common.{Ok}
use Rattle.fx_world.proofs.world.World.go_round.Given as goal

abbrev pub invariant-loop-process : goal.invariant-loop-process
invariant-loop-process g l = record {
  goes : Goes (Unit {0}) l.initial.self l.self l.shown (g.K.Sink.state l.fn.sink) (g.K.Sink.state l.sink) (λ job w. in_rising_order (λ q. in_turn q job) l.process w) (Ok tt);
  same : IsOfSame l.initial.self l.self;
}
