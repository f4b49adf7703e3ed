-- none of those so far is up
use Rattle.std.proofs.Common.{◌≡◌, ◌<◌, ℕ, false}
use Rattle.fx_fleet.specs.Runs.{job_setup}
use Rattle.fx_fleet.specs.World.{World, up}
use Rattle.fx_script.specs.declared.job.Job.{Job}
use Rattle.fx_world.specs.Standings.{IsWorldOf}
use Rattle.fx_world.proofs.world.World.is_over.Given as goal

abbrev pub invariant-loop-post : goal.invariant-loop-post
invariant-loop-post l = (job : Job) (w : World) → IsWorldOf job l.self w → (q : ℕ) → q < l.post-index → up (job_setup job) w q ≡ false
