-- so many rounds are over
use Rattle.std.proofs.Common.{Ok}
use Rattle.fx_fleet.specs.Rounds.{in_rising_order}
use Rattle.fx_world.specs.Goes.{Goes, in_round}
use Rattle.fx_world.specs.Standings.{IsOfSame}
use Rattle.fx_world.proofs.world.World.go_rounds.Given as goal

abbrev pub invariant-loop : goal.invariant-loop
invariant-loop g l = record {
  goes : Goes (Unit {0}) l.initial.self l.self l.shown (g.K.Sink.state l.fn.sink) (g.K.Sink.state l.sink) (λ job w. in_rising_order (λ i. in_round job) l.counter w) (Ok tt);
  same : IsOfSame l.initial.self l.self;
}
