use Rattle.fx_fleet.specs.Runs.{job_setup, rest_bound_of}
use Rattle.fx_world.specs.Goes.{in_round}
use Rattle.fx_world.proofs.Going.{gives_up_at_once}
use Rattle.fx_world.proofs.Grows.{round_adds}
use Rattle.fx_world.proofs.world.World.round.Goals as goal

pub returns-then-self-clause-goes : goal.returns-then-self-clause-goes
returns-then-self-clause-goes g c =
    gives_up_at_once _ c.args.self.now c.args.self.now c.args.shown _ in_round (λ job w. round_adds (job_setup job) (rest_bound_of job) w)
