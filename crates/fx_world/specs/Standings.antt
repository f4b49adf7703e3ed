-- What is kept of a world, and the world that it is defined to be.
use Rattle.std.specs.Prelude.{◌≡◌, ◌<◌, ◌≤◌, ℕ, Bool, true, false, not, if◌then◌else◌, List, [], map, length, slice_index_or, Option, Some, None, All}
use Rattle.fx_check.specs.Rules.{procs_of}
use Rattle.fx_fleet.specs.Runs.{job_setup, rest_bound_of}
use Rattle.fx_fleet.specs.World.{World, up}
use Rattle.fx_link.specs.LinkTable as links
use Rattle.fx_link.specs.LinkTable.{LinkTable, IsTable, is_closed, link_of}
use Rattle.fx_machine.specs.Messages.{wire_text}
use Rattle.fx_machine.specs.Nodes.{Node}
use Rattle.fx_node.specs.Standing.{Standing, IsNodeOf, processes}
use Rattle.fx_script.specs.declared.job.Job.{Job}
use Rattle.fx_world.specs.declared.counts.Counts.{Counts}

-- how many processes there are, and the most steps of a rest; each process as it stands, or nothing of one that was killed; what is
-- under way; the counts so far; and whether memory ran out
pub record Standings : Type 0 where
  pub procs : ℕ
  pub fuel : ℕ
  pub posts : List (Option Standing)
  pub links : LinkTable
  pub counts : Counts
  pub failed : Bool

-- a process, or nothing of it
abbrev pub post_of : Standings → ℕ → Option Standing
post_of c p = slice_index_or c.posts p None

-- a process that stands was made to be one of so many
abbrev pub IsOneOf : ℕ → Option Standing → Type 0
IsOneOf procs None = Unit {0}
IsOneOf procs (Some c) = processes c ≡ procs

-- one of them goes over into another; nothing of a process that was killed stays nothing
abbrev pub Passes : (old new : Option Standing) → (Standing → Standing → Type 0) → Type 0
Passes None None how = Unit {0}
Passes None (Some c') how = ⊥
Passes (Some c) None how = ⊥
Passes (Some c) (Some c') how = how c c'

-- there are 1 to 32 processes, each with its place and its links
pub record IsSound (c : Standings) : Type 0 where
  pub some : 1 ≤ c.procs
  pub few : c.procs ≤ 32
  pub places : length c.posts ≡ c.procs
  pub each : All (IsOneOf c.procs) c.posts
  pub table : IsTable c.links
  pub linked : links.procs_of c.links ≡ c.procs

-- as many processes, with as many steps of a rest
pub record IsOfSame (old new : Standings) : Type 0 where
  pub procs : new.procs ≡ old.procs
  pub fuel : new.fuel ≡ old.fuel

-- nothing is left of a process that was killed; another one stands as its node does
abbrev pub IsPost : Job → Option Standing → (killed : Bool) → Node → Type 0
IsPost job None killed n = killed ≡ true
IsPost job (Some c) killed n = (killed ≡ false) × IsNodeOf job c n

-- what is under way to a process that is up; nothing is to another
abbrev pub comes : Job → World → ℕ → ℕ → List Rattle.fx_machine.specs.Texts.Text
comes job w a b = if up (job_setup job) w b then w.link a b else []

-- It is this world of a job. Nothing is kept that is under way to who was killed or has ended, since nobody receives it.
pub record IsWorldOf (job : Job) (c : Standings) (w : World) : Type 0 where
  pub procs : c.procs ≡ procs_of job
  pub fuel : c.fuel ≡ rest_bound_of job
  pub posts : (p : ℕ) → p < c.procs → IsPost job (post_of c p) (w.killed p) (w.node p)
  pub comes : (a b : ℕ) → a < c.procs → b < c.procs → map wire_text (link_of c.links a b) ≡ comes job w a b
  pub closed : (b : ℕ) → b < c.procs → is_closed c.links b ≡ not (up (job_setup job) w b)
