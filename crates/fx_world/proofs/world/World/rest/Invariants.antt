-- The rest of the steps leads to where all of them do.
use Rattle.std.proofs.Common.{◌-◌}
use Rattle.fx_fleet.specs.Rounds.{rests}
use Rattle.fx_fleet.specs.Runs.{job_setup, rest_bound_of}
use Rattle.fx_world.specs.Goes.{resting}
use Rattle.fx_world.specs.Standings.{IsOfSame}
use Rattle.fx_world.proofs.Going.{IsOnWay}
use Rattle.fx_world.proofs.world.World.rest.Given as goal

abbrev pub invariant-loop : goal.invariant-loop
invariant-loop g l = record {
  way : IsOnWay l.initial.self l.self l.shown (g.K.Sink.state l.fn.sink) (g.K.Sink.state l.sink) (resting l.p.0) (λ job w. rests (job_setup job) (rest_bound_of job - l.counter) l.p.0 w);
  same : IsOfSame l.initial.self l.self;
}
