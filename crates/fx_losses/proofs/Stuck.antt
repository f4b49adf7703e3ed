-- Where a process may be quiet that hasn't ended: in the ballot of an epoch, or as a spare.
use Rattle.std.proofs.Common.{◌≡◌, ℕ, Bool, true, false, ◌||◌, List, Option, Some, None, arith, refl, sym, ap, ◌∙◌}
use Rattle.std.specs.Prelude.{if◌then◌else◌, not, is_none}
use Rattle.std.proofs.lemmas.Bool.Decides.{nat_tests}
use Rattle.fx_ballot.specs.declared.poll.Poll.{Poll}
use Rattle.fx_ballot.specs.declared.poll.Poll.TheVariants as poll
use Rattle.fx_ballot.specs.Turn.{Phase, Turn}
use Rattle.fx_comm.specs.Seats.{has_place}
use Rattle.fx_link.specs.declared.slot.Slot.{Slot}
use Rattle.fx_link.specs.declared.slot.Slot.TheVariants as slot
use Rattle.fx_script.specs.declared.job.Job.{Job}
use Rattle.fx_walk.specs.Lengths.{OnlyPrints}
use Rattle.fx_walk.specs.Walk.{Walk, Ends, Passes, Prints, Asks}
use Rattle.fx_machine.specs.Ballots.{may_join, joined, joins, turned, decides_epoch}
use Rattle.fx_machine.specs.Nodes.{Node, Act, Stage, Begins, Joining, Arrived, Walking, Calling, Failed, Over, has_ended}
use Rattle.fx_machine.specs.Reading.{Ballot, next_ballot, turn_in}
use Rattle.fx_machine.specs.Setup.{Setup}
use Rattle.fx_machine.specs.Steps.{next, next_at, in_walk, may_help_out, inits}
use Rattle.fx_fleet.specs.Rounds.{is_quiet}
use Rattle.fx_fleet.specs.Runs.{job_setup}
use Rattle.fx_fleet.specs.World.{World, up}
use Rattle.fx_legal.specs.Stands.{Stand}
use Rattle.fx_losses.proofs.Standing.{OfStage, AtStage}

-- where it stands that no action is enabled
pub data Stuck (n : Node) : Type 0 where
  Polls : (phase : Phase) → n.stage ≡ Joining phase → (turn_in (next_ballot n) n phase).poll ≡ poll.NotYet → Stuck n
  Idles : n.stage ≡ Arrived → has_place n.comm n.me ≡ false → may_help_out n ≡ false → Stuck n

-- ---- a quiet process has no action

no_act : (o : Option Act) → is_none o ≡ true → o ≡ None
no_act None e = refl
no_act (Some act) e = absurd (let bad : false ≡ true = e in cc)

pub no_next : (s : Setup) (w : World) (p : ℕ) → up s w p ≡ true → is_quiet s p w ≡ true → next s (w.node p) ≡ None
no_next s w p on quiet = no_act (next s (w.node p)) (of (up s w p) (is_none (next s (w.node p))) on quiet)
  where
    of : (a b : Bool) → a ≡ true → (not a || b) ≡ true → b ≡ true
    of a b x y = grind (arith, nat_tests)

-- ---- stage by stage

some_not : (act : Act) → Some act ≡ None → ⊥
some_not act e = cc

joins_not : (kind : Slot) (n : Node) → may_join n ≡ true → joins kind n ≡ None → ⊥
joins_not kind n may e = some_not (joined kind n) (sym (ap (λ (b : Bool). if b then Some (joined kind n) else None) may) ∙ e)

-- a turn that does something is an action
waits_yet : (n : Node) (b : Ballot) (at : Phase → Stage) (decides : List Slot → Act) (t : Turn) → turned b n at (λ slots. Some (decides slots)) t ≡ None → t.poll ≡ poll.NotYet
waits_yet n b at decides t e = of t.poll e
  where
    of : (x : Poll) → turned b n at (λ slots. Some (decides slots)) (record { phase = t.phase; poll = x }) ≡ None → x ≡ poll.NotYet
    of poll.NotYet i = refl
    of poll.Moved i = absurd (let bad : Some _ ≡ None = i in cc)
    of (poll.SendEstimate slots) i = absurd (let bad : Some _ ≡ None = i in cc)
    of (poll.Decided slots) i = absurd (let bad : Some _ ≡ None = i in cc)

module _ (job : Job) (n : Node) (x : Stand) (may : may_join n ≡ true) (goes : has_ended n ≡ false) where
  abbrev s : Setup
  s = job_setup job

  walk_not : (walk : Walk) → OnlyPrints walk → in_walk s n walk ≡ None → ⊥
  walk_not (Ends state) only e = joins_not slot.Final n may e
  walk_not (Passes rest) only e = let bad : Some _ ≡ None = e in cc
  walk_not (Prints printed rest) only e = let bad : Some _ ≡ None = e in cc
  walk_not (Asks place wanted state rest) only e = only

  arrived : (a b : Bool) → has_place n.comm n.me ≡ a → may_help_out n ≡ b → n.stage ≡ Arrived → (if a then Some (inits s n) else (if b then joins slot.Spare n else None)) ≡ None → Stuck n
  arrived true b place help at e = absurd (some_not (inits s n) e)
  arrived false true place help at e = absurd (joins_not slot.Spare n may e)
  arrived false false place help at e = Idles at place help

  of_stage : (a : Stage) → n.stage ≡ a → OfStage job x n a → next_at s n a ≡ None → Stuck n
  of_stage Begins at is e = absurd (joins_not slot.Start n may e)
  of_stage (Joining phase) at is e = Polls phase at (waits_yet n (next_ballot n) Joining (decides_epoch s n) (turn_in (next_ballot n) n phase) e)
  of_stage Arrived at is e = arrived (has_place n.comm n.me) (may_help_out n) refl refl at e
  of_stage Walking at is e = absurd (walk_not n.walk is.only e)
  of_stage (Calling core) at is e = absurd is
  of_stage Failed at is e = absurd is
  of_stage Over at is e = absurd (let bad : true ≡ false = sym (ap (λ (a : Stage). has_ended (record n { stage = a })) at) ∙ goes in cc)

  pub stuck : AtStage job x n → next (job_setup job) n ≡ None → Stuck n
  stuck is e = of_stage n.stage refl is e
