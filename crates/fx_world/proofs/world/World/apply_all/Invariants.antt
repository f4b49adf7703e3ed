-- the moments that are left lead to where all of them do
use Rattle.std.proofs.Common.{drop}
use Rattle.fx_world.specs.Goes.{at_all}
use Rattle.fx_world.specs.Standings.{IsOfSame}
use Rattle.fx_world.proofs.Going.{IsOnWay}
use Rattle.fx_world.proofs.world.World.apply_all.Given as goal

abbrev pub invariant-loop-moment : goal.invariant-loop-moment
invariant-loop-moment g l = record {
  way : IsOnWay l.initial.self l.self l.shown (g.K.Sink.state l.fn.sink) (g.K.Sink.state l.sink) (at_all l.moments) (at_all (drop l.moment-index l.moments));
  same : IsOfSame l.initial.self l.self;
}
