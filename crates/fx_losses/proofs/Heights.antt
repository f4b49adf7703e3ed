-- How far a process has come: each action of it takes it further, where the body asks nothing.
use Rattle.std.proofs.Common.{◌≡◌, ◌<◌, ◌≤◌, ℕ, zero, suc, ◌+◌, ◌-◌, ◌==◌, Bool, true, false, ◌||◌, List, length, min, Option, Some, None, arith, refl, sym, ap, subst, ◌∙◌}
use Rattle.std.specs.Prelude.{nat_lt, if◌then◌else◌}
use Rattle.std.proofs.lemmas.Bool.Decides.{nat_tests}
use Rattle.fx_ballot.specs.declared.heard.Heard.{Heard}
use Rattle.fx_ballot.specs.declared.poll.Poll.TheVariants as poll
use Rattle.fx_ballot.specs.Names.{seat_of}
use Rattle.fx_ballot.specs.Turn.{Phase, Outside, Voting, Round, Decided, Turn, turn, form, speak, follow, decide, slots_of}
use Rattle.fx_check.specs.Facts.{facts_of}
use Rattle.fx_check.specs.Work.{work_of}
use Rattle.fx_link.specs.declared.slot.Slot.{Slot}
use Rattle.fx_script.specs.declared.job.Job.{Job}
use Rattle.fx_walk.specs.declared.wanted.Wanted.{Wanted}
use Rattle.fx_walk.specs.Lengths.{OnlyPrints, IsWithin}
use Rattle.fx_walk.specs.Walk.{Walk, Ends, Passes, Prints, Asks, Reply}
use Rattle.fx_walk.proofs.Lengths.{is_within_its_work}
use Rattle.fx_machine.specs.Nodes.{Node, Act, Stage, Core, Begins, Joining, Arrived, Walking, Calling, Failed, Over}
use Rattle.fx_machine.specs.Reading.{next_ballot, turn_in}
use Rattle.fx_machine.specs.Setup.{Setup}
use Rattle.fx_deeds.specs.Deeds.{AsksFor, IsIn, OfEpoch, OfCall, Reason, First, HelpsOut, HasFailed, IsDone, Deed, Joins, Moves, Speaks, EndsAll, Repairs, Inits, PassesOn, PrintsOut, IsRefused, Attaches, Stores, Commits, Restores, EntersBarrier, EntersReduction, EntersShift, EntersAgreement, EntersDeletion, EntersClosing, EntersCreation, PassesBarrier, Reduces, Shifts, GathersNoMore, VotesNo, VotesYes, VotesFresh, HelpsAndGives, VotesFinding, ReturnsError, ReturnsBits, Closes, Creates, Deletes}
use Rattle.fx_fleet.specs.Runs.{job_setup}
use Rattle.fx_legal.specs.Stands.{Stand}
use Rattle.fx_losses.proofs.Standing.{OfStage, AtStage}
use Rattle.fx_losses.proofs.Still.{place_of}

-- ---- walks

-- the actions that are left of a walk that asks nothing
abbrev pub steps_left : Walk → ℕ
steps_left (Ends state) = 0
steps_left (Passes rest) = suc (steps_left rest)
steps_left (Prints printed rest) = suc (steps_left rest)
steps_left (Asks place wanted state rest) = 0

left_few : (walk : Walk) (n : ℕ) → IsWithin walk n → steps_left walk ≤ n
left_few (Ends state) n is = omega arith
left_few (Passes rest) zero is = absurd is
left_few (Passes rest) (suc n) is = let few = left_few rest n is in omega (arith, few)
left_few (Prints printed rest) zero is = absurd is
left_few (Prints printed rest) (suc n) is = let few = left_few rest n is in omega (arith, few)
left_few (Asks place wanted state rest) n is = omega arith

-- ---- turns

-- the turn in a round, by whether it is one, and its own
abbrev in_round : (ℕ → Heard) → ℕ → List Slot → Bool → Bool → Turn
in_round known r held b c = if b then (if c then speak r held else follow r held (known r).estimate ((known r).lost || (known r).left)) else decide held

-- a turn that moves or says something leads to the next round
pub turn_further : (n i : ℕ) (known : ℕ → Heard) (phase : Phase) → ((turn n i known phase).poll ≡ poll.NotYet → ⊥) → ((slots : List Slot) → (turn n i known phase).poll ≡ poll.Decided slots → ⊥)
    → (place_of (turn n i known phase).phase ≡ suc (place_of phase)) × (place_of phase ≤ n)
turn_further n i known Outside some not_yet = absurd (some refl)
turn_further n i known Voting some goes = of (slots_of known n) some
  where
    of : (o : Option (List Slot)) → ((form o).poll ≡ poll.NotYet → ⊥) → (place_of (form o).phase ≡ 1) × (0 ≤ n)
    of None h = absurd (h refl)
    of (Some slots) h = (refl, omega arith)
turn_further n i known (Decided held) some goes = absurd (goes held refl)
turn_further n i known (Round r held) some goes = of (nat_lt r n) refl (r == i) some goes
  where
    by : (o : Option (List Slot)) (away : Bool) → ((follow r held o away).poll ≡ poll.NotYet → ⊥) → place_of (follow r held o away).phase ≡ suc (suc r)
    by (Some slots) away h = refl
    by None true h = refl
    by None false h = absurd (h refl)

    below : (a b : ℕ) → nat_lt a b ≡ true → suc a ≤ b
    below a b e = grind (arith, nat_tests)

    of : (b : Bool) → nat_lt r n ≡ b → (c : Bool) → ((in_round known r held b c).poll ≡ poll.NotYet → ⊥) → ((slots : List Slot) → (in_round known r held b c).poll ≡ poll.Decided slots → ⊥) → (place_of (in_round known r held b c).phase ≡ suc (suc r)) × (suc r ≤ n)
    of false e c h g = absurd (g held refl)
    of true e true h g = (refl, below r n e)
    of true e false h g = (by (known r).estimate ((known r).lost || (known r).left) h, below r n e)

-- ---- heights

-- with the work of the body and the number of processes
module _ (work procs : ℕ) where
  -- what an epoch adds
  abbrev pub epoch_height : ℕ
  epoch_height = work + procs + 4

  abbrev pub all_epochs : ℕ → ℕ
  all_epochs zero = 0
  all_epochs (suc e) = epoch_height + all_epochs e

  -- how far it has come in its epoch
  abbrev pub offset : Stage → Walk → ℕ
  offset Walking walk = 1 + (work - steps_left walk)
  offset (Joining phase) walk = work + 2 + min (place_of phase) (suc procs)
  offset Over walk = epoch_height
  offset other walk = 0

  abbrev pub height : Node → ℕ
  height n = all_epochs n.epoch + offset n.stage n.walk

  -- its walk is within the work
  abbrev pub WithinAt : Stage → Walk → Type 0
  WithinAt Walking walk = steps_left walk ≤ work
  WithinAt other walk = Unit {0}

  abbrev pub Within : Node → Type 0
  Within n = WithinAt n.stage n.walk

  pub offset_few : (a : Stage) (walk : Walk) → offset a walk ≤ epoch_height
  offset_few Begins walk = omega arith
  offset_few (Joining phase) walk = omega arith
  offset_few Arrived walk = omega arith
  offset_few Walking walk = omega arith
  offset_few (Calling core) walk = omega arith
  offset_few Failed walk = omega arith
  offset_few Over walk = omega arith

  pub epochs_rise : (a b : ℕ) → a ≤ b → all_epochs a ≤ all_epochs b
  epochs_rise zero b few = omega arith
  epochs_rise (suc a) zero few = absurd (omega (arith, few))
  epochs_rise (suc a) (suc b) few = let less = epochs_rise a b (omega (arith, few)) in omega (arith, less)

  pub height_few : (n : Node) (e : ℕ) → n.epoch ≤ e → height n ≤ all_epochs (suc e)
  height_few n e few =
      let below = offset_few n.stage n.walk in
      let less = epochs_rise n.epoch e few in
      omega (arith, below, less)

  offset_at : (n : Node) (a : Stage) → n.stage ≡ a → offset n.stage n.walk ≡ offset a n.walk
  offset_at n a e = ap (λ (o : Stage). offset o n.walk) e

  walk_few : (n : Node) → n.stage ≡ Walking → Within n → steps_left n.walk ≤ work
  walk_few n e is = subst (λ (o : Stage). WithinAt o n.walk) e is

-- ---- each action

module _ (job : Job) (n : Node) (x : Stand) (stands : AtStage job x n) (few : length n.present ≤ (job_setup job).procs) (within : Within (work_of job.body) (job_setup job).procs n) where
  abbrev s : Setup
  s = job_setup job

  abbrev work : ℕ
  work = work_of job.body

  abbrev Rises : Act → Type 0
  Rises act = (height (work_of job.body) (job_setup job).procs n < height (work_of job.body) (job_setup job).procs act.node) × Within (work_of job.body) (job_setup job).procs act.node

  at_stage : (a : Stage) → n.stage ≡ a → OfStage job x n a
  at_stage a e = subst (OfStage job x n) e stands

  asks_none : (v : Wanted) (rest : Reply → Walk) → AsksFor n v rest → ⊥
  asks_none v rest a = subst OnlyPrints a.walk (at_stage Walking a.stage).only

  in_none : (core : Core) (v : Wanted) (rest : Reply → Walk) → IsIn n core v rest → ⊥
  in_none core v rest i = at_stage (Calling core) i.stage

  joins_rise : (kind : Slot) → Reason n kind → offset work s.procs n.stage n.walk < work + 2 + min 0 (suc s.procs)
  joins_rise kind (First at) = let same = offset_at work s.procs n Begins at in omega (arith, same)
  joins_rise kind (HelpsOut at place may) = let same = offset_at work s.procs n Arrived at in omega (arith, same)
  joins_rise kind (HasFailed at) = absurd (at_stage Failed at)
  joins_rise kind (IsDone state at e) = let same = offset_at work s.procs n Walking at in omega (arith, same)

  turns_rise : (old : Phase) → n.stage ≡ Joining old → ((turn_in (next_ballot n) n old).poll ≡ poll.NotYet → ⊥) → ((slots : List Slot) → (turn_in (next_ballot n) n old).poll ≡ poll.Decided slots → ⊥)
      → offset work s.procs n.stage n.walk < work + 2 + min (place_of (turn_in (next_ballot n) n old).phase) (suc s.procs)
  turns_rise old at some goes =
      let same = offset_at work s.procs n (Joining old) at in
      let r = turn_further (length n.present) (seat_of n.present n.me) _ old some goes in
      let next : place_of (turn_in (next_ballot n) n old).phase ≡ suc (place_of old) = r.0 in
      let low : place_of old ≤ length n.present = r.1 in
      omega (arith, same, next, low, few)

  decides_rise : (old : Phase) → n.stage ≡ Joining old → offset work s.procs n.stage n.walk < epoch_height work s.procs
  decides_rise old at = let same = offset_at work s.procs n (Joining old) at in omega (arith, same)

  begun_within : (rest : Walk) → IsWithin rest work → steps_left rest ≤ work
  begun_within rest is = left_few rest work is

  pub deed_rises : (step : Act) → Deed (job_setup job) n step → Rises step
  deed_rises step (Joins kind why may) = let less = joins_rise kind why in (omega (arith, less), tt)
  deed_rises step (Moves b at phase (OfEpoch old stage) e) =
      let less = turns_rise old stage (λ i. let bad : poll.Moved ≡ poll.NotYet = sym e ∙ i in cc) (λ slots i. let bad : poll.Moved ≡ poll.Decided slots = sym e ∙ i in cc) in
      (omega (arith, less), tt)
  deed_rises step (Moves b at phase (OfCall v rest old i) e) = absurd (in_none _ v rest i)
  deed_rises step (Speaks b at phase slots (OfEpoch old stage) e) =
      let less = turns_rise old stage (λ i. let bad : poll.SendEstimate slots ≡ poll.NotYet = sym e ∙ i in cc) (λ held i. let bad : poll.SendEstimate slots ≡ poll.Decided held = sym e ∙ i in cc) in
      (omega (arith, less), tt)
  deed_rises step (Speaks b at phase slots (OfCall v rest old i) e) = absurd (in_none _ v rest i)
  deed_rises step (EndsAll phase slots at e last) = let less = decides_rise phase at in (omega (arith, less), tt)
  deed_rises step (Repairs phase slots at e goes_on) = let less = decides_rise phase at in (omega (arith, less), tt)
  deed_rises step (Inits at place) = let same = offset_at work s.procs n Arrived at in (omega (arith, same), begun_within _ (is_within_its_work (facts_of job) job.body _ _))
  deed_rises step (PassesOn rest at e) =
      let same : offset work s.procs n.stage n.walk ≡ 1 + (work - suc (steps_left rest)) = offset_at work s.procs n Walking at ∙ ap (offset work s.procs Walking) e in
      let few : suc (steps_left rest) ≤ work = subst (λ (o : Walk). steps_left o ≤ work) e (walk_few work s.procs n at within) in
      let now : offset work s.procs n.stage rest ≡ 1 + (work - steps_left rest) = ap (λ (o : Stage). offset work s.procs o rest) at in
      (omega (arith, same, few, now), subst (λ (o : Stage). WithinAt work s.procs o rest) (sym at) (omega (arith, few)))
  deed_rises step (PrintsOut printed rest at e) =
      let same : offset work s.procs n.stage n.walk ≡ 1 + (work - suc (steps_left rest)) = offset_at work s.procs n Walking at ∙ ap (offset work s.procs Walking) e in
      let few : suc (steps_left rest) ≤ work = subst (λ (o : Walk). steps_left o ≤ work) e (walk_few work s.procs n at within) in
      let now : offset work s.procs n.stage rest ≡ 1 + (work - steps_left rest) = ap (λ (o : Stage). offset work s.procs o rest) at in
      (omega (arith, same, few, now), subst (λ (o : Stage). WithinAt work s.procs o rest) (sym at) (omega (arith, few)))
  deed_rises step (IsRefused v rest r a e) = absurd (asks_none v rest a)
  deed_rises step (Attaches g m rest a may) = absurd (asks_none _ rest a)
  deed_rises step (Stores g m piece rest a may) = absurd (asks_none _ rest a)
  deed_rises step (Commits g rest a may) = absurd (asks_none _ rest a)
  deed_rises step (Restores g m stamp rest a may) = absurd (asks_none _ rest a)
  deed_rises step (EntersBarrier rest a) = absurd (asks_none _ rest a)
  deed_rises step (EntersReduction op value rest a) = absurd (asks_none _ rest a)
  deed_rises step (EntersShift by elements rest a) = absurd (asks_none _ rest a)
  deed_rises step (EntersAgreement flag rest a) = absurd (asks_none _ rest a)
  deed_rises step (EntersDeletion g stamp rest a may) = absurd (asks_none _ rest a)
  deed_rises step (EntersClosing g rest a may) = absurd (asks_none _ rest a)
  deed_rises step (EntersCreation g start depth rest a may) = absurd (asks_none _ rest a)
  deed_rises step (PassesBarrier rest i all) = absurd (in_none _ _ rest i)
  deed_rises step (Reduces op value rest i all) = absurd (in_none _ _ rest i)
  deed_rises step (Shifts by elements rest i all) = absurd (in_none _ _ rest i)
  deed_rises step (GathersNoMore v rest error kind i some e) = absurd (in_none _ v rest i)
  deed_rises step (VotesNo core v rest wait vote i at un) = absurd (in_none core v rest i)
  deed_rises step (VotesYes g rest i all) = absurd (in_none _ _ rest i)
  deed_rises step (VotesFresh g start depth rest i all none) = absurd (in_none _ _ rest i)
  deed_rises step (HelpsAndGives g start depth rest j i all known may) = absurd (in_none _ _ rest i)
  deed_rises step (VotesFinding g start depth rest j i known all) = absurd (in_none _ _ rest i)
  deed_rises step (ReturnsError v rest phase slots error i decided e) = absurd (in_none _ v rest i)
  deed_rises step (ReturnsBits flag rest slots i) = absurd (in_none _ _ rest i.within)
  deed_rises step (Closes g rest slots i) = absurd (in_none _ _ rest i.within)
  deed_rises step (Creates g start depth rest slots i) = absurd (in_none _ _ rest i.within)
  deed_rises step (Deletes g stamp rest slots i) = absurd (in_none _ _ rest i.within)
