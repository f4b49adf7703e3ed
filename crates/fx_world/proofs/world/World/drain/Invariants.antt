-- What is left to receive leads to where all of it does, and each message makes it less.
use Rattle.std.proofs.Common.{length}
use Rattle.fx_link.specs.LinkTable.{link_of}
use Rattle.fx_world.specs.Goes.{draining}
use Rattle.fx_world.specs.Standings.{IsOfSame}
use Rattle.fx_world.proofs.Going.{IsOnWay}
use Rattle.fx_world.proofs.world.World.drain.Given as goal

abbrev pub invariant-loop-p : goal.invariant-loop-p
invariant-loop-p g l = record {
  way : IsOnWay l.initial.self l.self l.shown (g.K.Sink.state l.fn.sink) (g.K.Sink.state l.sink) (draining l.p.0 l.q.0) (draining l.p.0 l.q.0);
  same : IsOfSame l.initial.self l.self;
}

abbrev pub decreases-loop-p : goal.decreases-loop-p
decreases-loop-p g l = length (link_of l.self.links l.p.0 l.q.0)
