-- Calm runs, in which nobody is killed, of bodies that ask nothing; and what is voted and decided in them.
use Rattle.std.specs.Prelude.{◌≡◌, ◌≤◌, ℕ, suc, Bool, true, false, if◌then◌else◌, ◌==◌, List}
use Rattle.fx_base.specs.Sets.{those_below}
use Rattle.fx_ballot.specs.declared.poll.Poll.TheVariants as poll
use Rattle.fx_ballot.specs.Turn.{Phase, Round}
use Rattle.fx_comm.specs.Seats.{Seat, has_place, first_seats}
use Rattle.fx_link.specs.declared.slot.Slot.{Slot}
use Rattle.fx_link.specs.declared.slot.Slot.TheVariants as slot
use Rattle.fx_script.specs.declared.job.Job.{Job}
use Rattle.fx_machine.specs.Nodes.{Joining}
use Rattle.fx_machine.specs.Numbers.{of_each_below}
use Rattle.fx_machine.specs.Reading.{next_ballot, turn_in}
use Rattle.fx_fleet.specs.World.{World}
use Rattle.fx_fleet.specs.Rounds.{Moment, Step, Rest, Deliver, Kill, Notice, Run}
use Rattle.fx_legal.specs.Ledger.{ranks_of, procs_of}

-- no kill; where nobody was killed a notice has nothing to tell
abbrev pub is_calm : Moment → Bool
is_calm (Step p) = true
is_calm (Rest p) = true
is_calm (Deliver p q) = true
is_calm (Kill p) = false
is_calm (Notice p q) = true
is_calm (Run count) = true

-- who has which place, from the start to the end
abbrev pub seats_in : Job → List Seat
seats_in job = first_seats (ranks_of job)

-- all processes, in rising order
abbrev pub all_procs : Job → List ℕ
all_procs job = those_below (λ q. true) (procs_of job)

-- how a process joins an epoch: all of them start; then those that have a place are done, and the others are spares
abbrev pub vote_in : Job → (epoch process : ℕ) → Slot
vote_in job epoch q = if epoch == 1 then slot.Start else (if has_place (seats_in job) q then slot.Final else slot.Spare)

-- the votes of all processes
abbrev pub votes_in : Job → (epoch : ℕ) → List Slot
votes_in job epoch = of_each_below (procs_of job) (vote_in job epoch)

-- nobody was killed or is told lost, and nobody is past the first epoch, in which all have their places
pub record IsPeaceful (job : Job) (w : World) : Type 0 where
  pub living : (p : ℕ) → w.killed p ≡ false
  pub lost_none : (p q : ℕ) → (w.node p).lost q ≡ false
  pub early : (p : ℕ) → (w.node p).epoch ≤ 1
  pub seated : (p : ℕ) → (w.node p).comm ≡ seats_in job
  pub present : (p : ℕ) → (w.node p).present ≡ all_procs job

-- what is held as an estimate in the ballot of the next epoch, and what is decided there, are the votes of all
pub record HoldsAllVotes (job : Job) (w : World) : Type 0 where
  pub held : (p round : ℕ) (slots : List Slot) → (w.node p).stage ≡ Joining (Round round slots) → slots ≡ votes_in job (suc (w.node p).epoch)
  pub decided : (p : ℕ) (phase : Phase) (slots : List Slot) → (w.node p).stage ≡ Joining phase
      → (turn_in (next_ballot (w.node p)) (w.node p) phase).poll ≡ poll.Decided slots → slots ≡ votes_in job (suc (w.node p).epoch)
