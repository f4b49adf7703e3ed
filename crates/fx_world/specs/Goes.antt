-- What a call does to a world and to what was told of it, by what happens to the world that it is defined to be.
use Rattle.std.specs.Prelude.{◌≡◌, ◌≤◌, ◌==◌, ℕ, true, false, if◌then◌else◌, List, map, Option, Result, Ok, Err}
use Rattle.fx_check.specs.Rules.{procs_of}
use Rattle.fx_fleet.specs.Rounds as rounds
use Rattle.fx_fleet.specs.Rounds.{in_rising_order, rests, receives_all, fair_turn, fair_round, fair_rounds, happens, all_happen, all_over, tail}
use Rattle.fx_fleet.specs.Runs.{job_setup, moment_of, rest_bound_of}
use Rattle.fx_fleet.specs.World.{World, up, steps, delivers, kills, notices}
use Rattle.fx_io.specs.Faults.{Rose}
use Rattle.fx_io.specs.States.{SinkState}
use Rattle.fx_io.specs.Told.{Gains, GainsFront}
use Rattle.fx_io.specs.declared.whole.PutEnd.{PutEnd}
use Rattle.fx_io.specs.declared.whole.PutEnd.TheVariants as put_end
use Rattle.fx_item.specs.declared.item.Item.{Item}
use Rattle.fx_node.specs.Asking.{AsksCarried}
use Rattle.fx_sched.specs.declared.moment.Moment.{Moment}
use Rattle.fx_sched.specs.Moments.{event_of}
use Rattle.fx_script.specs.declared.job.Job.{Job}
use Rattle.fx_world.specs.declared.counts.Counts.{Counts}
use Rattle.fx_world.specs.declared.end.RunEnd.{RunEnd}
use Rattle.fx_world.specs.declared.end.RunEnd.TheVariants as end
use Rattle.fx_world.specs.declared.shown.Shown.{Shown}
use Rattle.fx_world.specs.Counting.{counted}
use Rattle.fx_world.specs.Standings.{Standings, IsWorldOf}
use Rattle.fx_world.specs.Texts.{shown_text}

-- ---- what is told

-- what the sink has got, where it tells, and the counts
pub record Told : Type 0 where
  pub written : Option (List ℕ)
  pub counts : Counts

abbrev pub told : Standings → SinkState → Told
told c sink = record { written = sink.written; counts = c.counts }

-- since the start these items were told: the lines of those that are shown were written, and nothing else, and all were counted
pub record Tells (shown : Shown) (start now : Told) (items : List Item) : Type 0 where
  pub text : Gains start.written now.written (shown_text shown items)
  pub counts : now.counts ≡ counted start.counts items

-- since the start a front of the text of these items was written
abbrev pub TellsFront : Shown → (start now : Told) → List Item → Type 0
TellsFront shown start now items = GainsFront start.written now.written (shown_text shown items)

-- ---- what a call does

-- why a piece wasn't written whole
abbrev pub cut_by : PutEnd → RunEnd
cut_by put_end.Failed = end.WriteFault
cut_by put_end.NoMemory = end.NoMemory

-- what is left by a call: the world, all of whose items are told; where it was cut short, a front of their text
abbrev pub Leaves : (A : Type 0) → Job → Standings → Shown → (start now : Told) → World → Result A RunEnd → Type 0
Leaves A job new shown start now w (Ok answer) = IsWorldOf job new w × Tells shown start now w.items
Leaves A job new shown start now w (Err end) = TellsFront shown start now w.items

-- It has this effect on each world of a job, and tells the items of it, where all items so far were told since the start. With a world
-- that has no items yet, and what the sink had got at the call as the start, this says what the call itself wrote, in the midst of a run
-- too. So far this is known of jobs that ask only for what is carried out.
pub record Goes (A : Type 0) (old new : Standings) (shown : Shown) (sink sink' : SinkState) (effect : Job → World → World) (answer : Result A RunEnd) : Type 0 where
  pub leads : (job : Job) (w : World) (start : Told) → AsksCarried job → IsWorldOf job old w → Tells shown start (told old sink) w.items
      → Leaves A job new shown start (told new sink') (effect job w) answer
  pub count_never_falls : sink.faults ≤ sink'.faults
  pub failed_only_if_count_rose : answer ≡ Err end.WriteFault → Rose sink.faults sink'.faults
  pub never_unfinished : answer ≡ Err end.Unfinished → ⊥

-- want of memory is for ever: a later call does nothing, and answers so too
pub record IsForEver (A : Type 0) (old new : Standings) (sink sink' : SinkState) (answer : Result A RunEnd) : Type 0 where
  pub begins : answer ≡ Err end.NoMemory → new.failed ≡ true
  pub stays : old.failed ≡ true → (answer ≡ Err end.NoMemory) × (new ≡ old) × (sink' ≡ sink)

-- ---- moments

-- the moment that the schedule of a job means
abbrev pub meant : Moment → rounds.Moment
meant m = moment_of (event_of m)

-- ---- what happens to the world of a job

-- a step of a process, and steps until it is quiet
abbrev pub stepping : ℕ → Job → World → World
stepping p job w = steps (job_setup job) p w

abbrev pub resting : ℕ → Job → World → World
resting p job w = rests (job_setup job) (rest_bound_of job) p w

-- a delivery, a kill and a notice
abbrev pub delivering : (p q : ℕ) → Job → World → World
delivering p q job w = delivers (job_setup job) p q w

abbrev pub killing : ℕ → Job → World → World
killing p job w = kills (job_setup job) p w

abbrev pub noticing : (p q : ℕ) → Job → World → World
noticing p q job w = notices (job_setup job) p q w

-- process q, if it is up, receives all that is under way from p
abbrev pub draining : (p q : ℕ) → Job → World → World
draining p q job w = if up (job_setup job) w q then receives_all p q (w.link p q) w else w

-- it does, if that is another one
abbrev pub draining_other : (q p : ℕ) → Job → World → World
draining_other q p job w = if p == q then w else draining p q job w

-- it receives all that is under way from the others
abbrev pub receiving : ℕ → Job → World → World
receiving q job w = in_rising_order (λ p. draining_other q p job) (procs_of job) w

-- it is told of each loss
abbrev pub learning : ℕ → Job → World → World
learning q job w = in_rising_order (λ p. noticing p q job) (procs_of job) w

-- it has its turn in a fair round
abbrev pub in_turn : ℕ → Job → World → World
in_turn q job w = fair_turn (job_setup job) (rest_bound_of job) q w

-- a fair round, and so many
abbrev pub in_round : Job → World → World
in_round job w = fair_round (job_setup job) (rest_bound_of job) w

abbrev pub in_rounds : ℕ → Job → World → World
in_rounds count job w = fair_rounds (job_setup job) (rest_bound_of job) count w

-- a moment, and moments one after another
abbrev pub at_moment : Moment → Job → World → World
at_moment m job w = happens (job_setup job) (rest_bound_of job) (meant m) w

abbrev pub at_all : List Moment → Job → World → World
at_all moments job w = all_happen (job_setup job) (rest_bound_of job) (map meant moments) w

-- a tail of at most so many rounds
abbrev pub in_tail : ℕ → Job → World → World
in_tail bound job w = tail (job_setup job) (rest_bound_of job) bound w

-- moments, and the tail behind them
abbrev pub in_run : List Moment → ℕ → Job → World → World
in_run moments bound job w = in_tail bound job (at_all moments job w)

-- ---- a whole run

-- what is left by a run, by its answer: each living process has ended, and the counts are those of all items; or so many rounds weren't
-- enough, and all items are told; or a front of their text was written
abbrev pub RunLeaves : Job → Standings → Shown → (start now : Told) → World → Result Counts RunEnd → Type 0
RunLeaves job new shown start now w (Ok counts) = IsWorldOf job new w × Tells shown start now w.items × (all_over (job_setup job) w ≡ true) × (counts ≡ now.counts)
RunLeaves job new shown start now w (Err end.Unfinished) = IsWorldOf job new w × Tells shown start now w.items × (all_over (job_setup job) w ≡ false)
RunLeaves job new shown start now w (Err end.WriteFault) = TellsFront shown start now w.items
RunLeaves job new shown start now w (Err end.NoMemory) = TellsFront shown start now w.items

pub record GoesWhole (old new : Standings) (shown : Shown) (sink sink' : SinkState) (effect : Job → World → World) (answer : Result Counts RunEnd) : Type 0 where
  pub leads : (job : Job) (w : World) (start : Told) → AsksCarried job → IsWorldOf job old w → Tells shown start (told old sink) w.items
      → RunLeaves job new shown start (told new sink') (effect job w) answer
  pub count_never_falls : sink.faults ≤ sink'.faults
  pub failed_only_if_count_rose : answer ≡ Err end.WriteFault → Rose sink.faults sink'.faults
