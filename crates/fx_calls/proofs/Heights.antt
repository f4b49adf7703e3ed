-- How far a process has come: each action of it takes it further, where the body asks nothing but barriers, reductions and agreements.
use Rattle.std.proofs.Common.{◌≡◌, ◌≤◌, ℕ, zero, suc, ◌+◌, List, length, min, arith, refl, sym, subst, ◌∙◌}
use Rattle.fx_ballot.specs.declared.poll.Poll.TheVariants as poll
use Rattle.fx_ballot.specs.Names.{seat_of}
use Rattle.fx_ballot.specs.Turn.{Phase, Voting}
use Rattle.fx_check.specs.Facts.{facts_of}
use Rattle.fx_check.specs.Work.{work_of}
use Rattle.fx_link.specs.declared.slot.Slot.{Slot}
use Rattle.fx_script.specs.declared.job.Job.{Job}
use Rattle.fx_walk.specs.declared.printed.Printed.{Printed}
use Rattle.fx_walk.specs.declared.wanted.Wanted.{Wanted}
use Rattle.fx_walk.specs.declared.wanted.Wanted.TheVariants as wanted
use Rattle.fx_walk.specs.Lengths.{IsWithin}
use Rattle.fx_walk.specs.State.{State}
use Rattle.fx_walk.specs.Walk.{TextPlace, Walk, Passes, Prints, Asks, Reply}
use Rattle.fx_walk.proofs.Lengths.{is_within_its_work}
use Rattle.fx_machine.specs.Nodes.{Node, Act, Stage, Core, Begins, Joining, Arrived, Walking, Calling, Failed, Over, Gathering, Sharing, Telling, Giving, Balloting, members}
use Rattle.fx_machine.specs.Reading.{next_ballot, turn_in}
use Rattle.fx_machine.specs.Setup.{Setup}
use Rattle.fx_machine.specs.Waits.{Wait, ByLoss, ByLeaving, call_ballot}
use Rattle.fx_deeds.specs.Deeds.{AsksFor, IsIn, OfEpoch, OfCall, Reason, First, HelpsOut, HasFailed, IsDone, Deed, Joins, Moves, Speaks, EndsAll, Repairs, Inits, PassesOn, PrintsOut, IsRefused, Attaches, Stores, Commits, Restores, EntersBarrier, EntersReduction, EntersShift, EntersAgreement, EntersDeletion, EntersClosing, EntersCreation, PassesBarrier, Reduces, Shifts, GathersNoMore, VotesNo, VotesYes, VotesFresh, HelpsAndGives, VotesFinding, ReturnsError, ReturnsBits, Closes, Creates, Deletes, WaitsIn, ForShares, ForTells, ForHelps, ForGives}
use Rattle.fx_fleet.specs.Runs.{job_setup}
use Rattle.fx_losses.proofs.Heights.{turn_further}
use Rattle.fx_losses.proofs.Still.{place_of}
use Rattle.fx_calls.specs.Bodies.{IsOfNoGroup, OnlyAsks}
use Rattle.fx_calls.proofs.Calling.{none_refused}
use Rattle.fx_calls.proofs.Causes.{AsksAt}

-- ---- walks

-- an action less is left behind one that asks nothing
less_passes : (rest : Walk) (left : ℕ) → IsWithin (Passes rest) left → (m : ℕ) × (left ≡ suc m) × IsWithin rest m
less_passes rest zero is = absurd is
less_passes rest (suc m) is = (m, refl, is)

less_prints : (printed : Printed) (rest : Walk) (left : ℕ) → IsWithin (Prints printed rest) left → (m : ℕ) × (left ≡ suc m) × IsWithin rest m
less_prints printed rest zero is = absurd is
less_prints printed rest (suc m) is = (m, refl, is)

-- and behind a call, whatever it returned
less_asks : (place : TextPlace) (v : Wanted) (state : State) (rest : Reply → Walk) (left : ℕ) → IsWithin (Asks place v state rest) left
    → (m : ℕ) × (left ≡ suc m) × ((reply : Reply) → IsWithin (rest reply) m)
less_asks place v state rest zero is = absurd is
less_asks place v state rest (suc m) is = (m, refl, is)

-- ---- heights

-- with the work of the body and the number of processes
module _ (work procs : ℕ) where
  -- what so many actions of a walk add, with the turns in the ballot of each
  abbrev pub walked : ℕ → ℕ
  walked zero = 0
  walked (suc done) = procs + 4 + walked done

  -- what an epoch adds
  abbrev pub epoch_height : ℕ
  epoch_height = walked work + procs + 5

  abbrev pub all_epochs : ℕ → ℕ
  all_epochs zero = 0
  all_epochs (suc e) = epoch_height + all_epochs e

  -- how far it has come in a ballot
  abbrev pub in_rounds : Phase → ℕ
  in_rounds phase = min (place_of phase) (suc procs)

  abbrev pub in_call : Core → ℕ
  in_call Gathering = 0
  in_call Sharing = 0
  in_call Telling = 0
  in_call Giving = 0
  in_call (Balloting phase) = in_rounds phase

  -- how far it has come in its epoch, behind so many actions of its walk
  abbrev pub offset : Stage → ℕ → ℕ
  offset Walking done = 1 + walked done
  offset (Calling core) done = 2 + walked done + in_call core
  offset Failed done = walked work + 2
  offset (Joining phase) done = walked work + 3 + in_rounds phase
  offset Over done = epoch_height
  offset other done = 0

  -- at most so many are left
  abbrev pub IsLeft : Stage → Walk → ℕ → Type 0
  IsLeft Walking walk left = IsWithin walk left
  IsLeft (Calling core) walk left = IsWithin walk left
  IsLeft other walk left = Unit {0}

  -- it has come at least so far
  pub record HasCome (epoch : ℕ) (stage : Stage) (walk : Walk) (far : ℕ) : Type 0 where
    pub done : ℕ
    pub left : ℕ
    pub few : done + left ≤ work
    pub is_left : IsLeft stage walk left
    pub come : far ≤ all_epochs epoch + offset stage done

  walked_rise : (a b : ℕ) → a ≤ b → walked a ≤ walked b
  walked_rise zero b few = omega arith
  walked_rise (suc a) zero few = absurd (omega (arith, few))
  walked_rise (suc a) (suc b) few = let less = walked_rise a b (omega (arith, few)) in omega (arith, less)

  -- all actions of the walk add at least as much as those behind it
  pub walked_few : (done left : ℕ) → done + left ≤ work → walked done ≤ walked work
  walked_few done left few = walked_rise done work (omega (arith, few))

  -- and one more, where one is left
  pub walked_less : (done left m : ℕ) → done + left ≤ work → left ≡ suc m → procs + 4 + walked done ≤ walked work
  walked_less done left m few less = walked_rise (suc done) work (omega (arith, few, less))

  pub core_few : (core : Core) → in_call core ≤ suc procs
  core_few Gathering = omega arith
  core_few Sharing = omega arith
  core_few Telling = omega arith
  core_few Giving = omega arith
  core_few (Balloting phase) = omega arith

  offset_few : (a : Stage) (done left : ℕ) → done + left ≤ work → offset a done ≤ epoch_height
  offset_few Begins done left few = omega arith
  offset_few (Joining phase) done left few = omega arith
  offset_few Arrived done left few = omega arith
  offset_few Walking done left few = let less = walked_few done left few in omega (arith, less)
  offset_few (Calling core) done left few =
      let less = walked_few done left few in
      let rounds = core_few core in
      omega (arith, less, rounds)
  offset_few Failed done left few = omega arith
  offset_few Over done left few = omega arith

  epochs_rise : (a b : ℕ) → a ≤ b → all_epochs a ≤ all_epochs b
  epochs_rise zero b few = omega arith
  epochs_rise (suc a) zero few = absurd (omega (arith, few))
  epochs_rise (suc a) (suc b) few = let less = epochs_rise a b (omega (arith, few)) in omega (arith, less)

  -- and no further than its epoch goes
  pub come_few : (epoch : ℕ) (stage : Stage) (walk : Walk) (far e : ℕ) → HasCome epoch stage walk far → epoch ≤ e → far ≤ all_epochs (suc e)
  come_few epoch stage walk far e has few =
      let come = has.come in
      let below = offset_few stage has.done has.left has.few in
      let less = epochs_rise epoch e few in
      omega (arith, come, below, less)

  pub come_less : (epoch : ℕ) (stage : Stage) (walk : Walk) (j k : ℕ) → j ≤ k → HasCome epoch stage walk k → HasCome epoch stage walk j
  come_less epoch stage walk j k less has = record { done = has.done; left = has.left; few = has.few; is_left = has.is_left; come = let come = has.come in omega (arith, come, less) }

-- ---- each action

module _ (job : Job) (n : Node) (asks : AsksAt n.stage n.walk) (few : length n.present ≤ (job_setup job).procs) (few_places : length (members n) ≤ (job_setup job).procs) (far : ℕ)
    (has : HasCome (work_of job.body) (job_setup job).procs n.epoch n.stage n.walk far) where
  abbrev s : Setup
  s = job_setup job

  abbrev work : ℕ
  work = work_of job.body

  abbrev all_walked : ℕ
  all_walked = walked (work_of job.body) (job_setup job).procs (work_of job.body)

  abbrev Rises : Act → Type 0
  Rises act = HasCome (work_of job.body) (job_setup job).procs act.node.epoch act.node.stage act.node.walk (suc far)

  at_stage : (a : Stage) → n.stage ≡ a → far ≤ all_epochs work s.procs n.epoch + offset work s.procs a has.done
  at_stage a e = subst (λ (o : Stage). far ≤ all_epochs work s.procs n.epoch + offset work s.procs o has.done) e has.come

  left_at : (a : Stage) → n.stage ≡ a → IsLeft work s.procs a n.walk has.left
  left_at a e = subst (λ (o : Stage). IsLeft work s.procs o n.walk has.left) e has.is_left

  asked : (v : Wanted) (rest : Reply → Walk) → AsksFor n v rest → IsOfNoGroup v
  asked v rest a = (subst (OnlyAsks IsOfNoGroup) a.walk (subst (λ (o : Stage). AsksAt o n.walk) a.stage asks)).0

  asked_in : (core : Core) (v : Wanted) (rest : Reply → Walk) → IsIn n core v rest → IsOfNoGroup v
  asked_in core v rest i = (subst (OnlyAsks IsOfNoGroup) i.walk (subst (λ (o : Stage). AsksAt o n.walk) i.stage asks)).0

  no_wait : (core : Core) (v : Wanted) (wait : Wait) → WaitsIn s n core v wait → IsOfNoGroup v → ⊥
  no_wait core v wait (ForShares g) is = is
  no_wait core v wait (ForTells g start depth) is = is
  no_wait core v wait (ForHelps g start depth j all known none) is = is
  no_wait core v wait (ForGives g start depth j known) is = is

  joins_low : (kind : Slot) → Reason n kind → far ≤ all_epochs work s.procs n.epoch + (all_walked + 2)
  joins_low kind (First at) = let low = at_stage Begins at in omega (arith, low)
  joins_low kind (HelpsOut at place may) = let low = at_stage Arrived at in omega (arith, low)
  joins_low kind (HasFailed at) = at_stage Failed at
  joins_low kind (IsDone state at e) =
      let low = at_stage Walking at in
      let all = walked_few work s.procs has.done has.left has.few in
      omega (arith, low, all)

  -- behind no action of the walk in its epoch
  comes_by : (a : Stage) (walk : Walk) → IsLeft work s.procs a walk 0 → suc far ≤ all_epochs work s.procs n.epoch + offset work s.procs a 0 → HasCome work s.procs n.epoch a walk (suc far)
  comes_by a walk is come = record { done = 0; left = 0; few = omega arith; is_left = is; come = come }

  -- ---- turns

  turns_rise : (old : Phase) → n.stage ≡ Joining old → ((turn_in (next_ballot n) n old).poll ≡ poll.NotYet → ⊥) → ((slots : List Slot) → (turn_in (next_ballot n) n old).poll ≡ poll.Decided slots → ⊥)
      → suc far ≤ all_epochs work s.procs n.epoch + (all_walked + 3 + min (place_of (turn_in (next_ballot n) n old).phase) (suc s.procs))
  turns_rise old at some goes =
      let low = at_stage (Joining old) at in
      let r = turn_further (length n.present) (seat_of n.present n.me) _ old some goes in
      let next : place_of (turn_in (next_ballot n) n old).phase ≡ suc (place_of old) = r.0 in
      let below : place_of old ≤ length n.present = r.1 in
      omega (arith, low, next, below, few)

  call_turns_rise : (v : Wanted) (rest : Reply → Walk) (old : Phase) → IsIn n (Balloting old) v rest → ((turn_in (call_ballot n v) n old).poll ≡ poll.NotYet → ⊥) → ((slots : List Slot) → (turn_in (call_ballot n v) n old).poll ≡ poll.Decided slots → ⊥)
      → HasCome work s.procs n.epoch (Calling (Balloting (turn_in (call_ballot n v) n old).phase)) n.walk (suc far)
  call_turns_rise v rest old i some goes =
      let low = at_stage (Calling (Balloting old)) i.stage in
      let r = turn_further (length (members n)) (seat_of (members n) n.me) _ old some goes in
      let next : place_of (turn_in (call_ballot n v) n old).phase ≡ suc (place_of old) = r.0 in
      let below : place_of old ≤ length (members n) = r.1 in
      record { done = has.done; left = has.left; few = has.few; is_left = left_at (Calling (Balloting old)) i.stage; come = omega (arith, low, next, below, few_places) }

  -- ---- calls

  -- one that was entered
  enters_come : (core : Core) (v : Wanted) (rest : Reply → Walk) → AsksFor n v rest → HasCome work s.procs n.epoch (Calling core) n.walk (suc far)
  enters_come core v rest a = record { done = has.done; left = has.left; few = has.few; is_left = left_at Walking a.stage; come = let low = at_stage Walking a.stage in omega (arith, low) }

  in_few : (core : Core) → in_call work s.procs core ≤ suc s.procs
  in_few core = core_few work s.procs core

  -- one that returned, and one that failed
  returns_come : (core : Core) (v : Wanted) (rest : Reply → Walk) → IsIn n core v rest → (reply : Reply) → HasCome work s.procs n.epoch Walking (rest reply) (suc far)
  returns_come core v rest i reply =
      let r = less_asks i.place v i.state rest has.left (subst (λ (o : Walk). IsWithin o has.left) i.walk (left_at (Calling core) i.stage)) in
      let one : has.left ≡ suc r.0 = r.1 in
      let low = at_stage (Calling core) i.stage in
      let rounds = in_few core in
      let some = has.few in
      record { done = suc has.done; left = r.0; few = omega (arith, one, some); is_left = r.2 reply; come = omega (arith, low, rounds) }

  fails_come : (core : Core) (v : Wanted) (rest : Reply → Walk) → IsIn n core v rest → HasCome work s.procs n.epoch Failed n.walk (suc far)
  fails_come core v rest i =
      let r = less_asks i.place v i.state rest has.left (subst (λ (o : Walk). IsWithin o has.left) i.walk (left_at (Calling core) i.stage)) in
      let all = walked_less work s.procs has.done has.left r.0 has.few r.1 in
      let low = at_stage (Calling core) i.stage in
      let rounds = in_few core in
      comes_by Failed n.walk tt (omega (arith, low, all, rounds))

  -- along the walk
  walks_come : (rest : Walk) (m : ℕ) → n.stage ≡ Walking → has.left ≡ suc m → IsWithin rest m → HasCome work s.procs n.epoch n.stage rest (suc far)
  walks_come rest m at one is =
      let low = at_stage Walking at in
      let some = has.few in
      subst (λ (o : Stage). HasCome work s.procs n.epoch o rest (suc far)) (sym at) (record { done = suc has.done; left = m; few = omega (arith, one, some); is_left = is; come = omega (arith, low) })

  -- ---- deeds

  pub deed_rises : (step : Act) → Deed (job_setup job) n step → Rises step
  deed_rises step (Joins kind why may) = comes_by (Joining Voting) n.walk tt (let low = joins_low kind why in omega (arith, low))
  deed_rises step (Moves b at phase (OfEpoch old stage) e) =
      comes_by (Joining (turn_in (next_ballot n) n old).phase) n.walk tt
      (turns_rise old stage (λ i. let bad : poll.Moved ≡ poll.NotYet = sym e ∙ i in cc) (λ slots i. let bad : poll.Moved ≡ poll.Decided slots = sym e ∙ i in cc))
  deed_rises step (Moves b at phase (OfCall v rest old i) e) =
      call_turns_rise v rest old i (λ j. let bad : poll.Moved ≡ poll.NotYet = sym e ∙ j in cc) (λ slots j. let bad : poll.Moved ≡ poll.Decided slots = sym e ∙ j in cc)
  deed_rises step (Speaks b at phase slots (OfEpoch old stage) e) =
      comes_by (Joining (turn_in (next_ballot n) n old).phase) n.walk tt
      (turns_rise old stage (λ i. let bad : poll.SendEstimate slots ≡ poll.NotYet = sym e ∙ i in cc) (λ held i. let bad : poll.SendEstimate slots ≡ poll.Decided held = sym e ∙ i in cc))
  deed_rises step (Speaks b at phase slots (OfCall v rest old i) e) =
      call_turns_rise v rest old i (λ j. let bad : poll.SendEstimate slots ≡ poll.NotYet = sym e ∙ j in cc) (λ held j. let bad : poll.SendEstimate slots ≡ poll.Decided held = sym e ∙ j in cc)
  deed_rises step (EndsAll phase slots at e last) = comes_by Over n.walk tt (let low = at_stage (Joining phase) at in omega (arith, low))
  deed_rises step (Repairs phase slots at e goes_on) = let low = at_stage (Joining phase) at in record { done = 0; left = 0; few = omega arith; is_left = tt; come = omega (arith, low) }
  deed_rises step (Inits at place) =
      let low = at_stage Arrived at in
      record { done = 0; left = work; few = omega arith; is_left = is_within_its_work (facts_of job) job.body _ _; come = omega (arith, low) }
  deed_rises step (PassesOn rest at e) =
      let r = less_passes rest has.left (subst (λ (o : Walk). IsWithin o has.left) e (left_at Walking at)) in
      walks_come rest r.0 at r.1 r.2
  deed_rises step (PrintsOut printed rest at e) =
      let r = less_prints printed rest has.left (subst (λ (o : Walk). IsWithin o has.left) e (left_at Walking at)) in
      walks_come rest r.0 at r.1 r.2
  deed_rises step (IsRefused v rest r a t) = absurd (none_refused s n v r (asked v rest a) t)
  deed_rises step (Attaches g m rest a may) = absurd (asked (wanted.Attach g m) rest a)
  deed_rises step (Stores g m piece rest a may) = absurd (asked (wanted.Store g m piece) rest a)
  deed_rises step (Commits g rest a may) = absurd (asked (wanted.Commit g) rest a)
  deed_rises step (Restores g m stamp rest a may) = absurd (asked (wanted.Restore g m stamp) rest a)
  deed_rises step (EntersBarrier rest a) = enters_come Gathering wanted.Barrier rest a
  deed_rises step (EntersReduction op value rest a) = enters_come Gathering (wanted.Reduce op value) rest a
  deed_rises step (EntersShift by elements rest a) = enters_come Gathering (wanted.Shift by elements) rest a
  deed_rises step (EntersAgreement flag rest a) = enters_come (Balloting Voting) (wanted.Agree flag) rest a
  deed_rises step (EntersDeletion g stamp rest a may) = absurd (asked (wanted.Delete g stamp) rest a)
  deed_rises step (EntersClosing g rest a may) = absurd (asked (wanted.Close g) rest a)
  deed_rises step (EntersCreation g start depth rest a may) = absurd (asked (wanted.Group g start depth) rest a)
  deed_rises step (PassesBarrier rest i all) = returns_come Gathering wanted.Barrier rest i _
  deed_rises step (Reduces op value rest i all) = returns_come Gathering (wanted.Reduce op value) rest i _
  deed_rises step (Shifts by elements rest i all) = returns_come Gathering (wanted.Shift by elements) rest i _
  deed_rises step (GathersNoMore v rest (ByLoss x) kind i some t) = fails_come Gathering v rest i
  deed_rises step (GathersNoMore v rest (ByLeaving x) kind i some t) = fails_come Gathering v rest i
  deed_rises step (VotesNo core v rest wait vote i at un) = absurd (no_wait core v wait at (asked_in core v rest i))
  deed_rises step (VotesYes g rest i all) = absurd (asked_in Sharing (wanted.Close g) rest i)
  deed_rises step (VotesFresh g start depth rest i all none) = absurd (asked_in Telling (wanted.Group g start depth) rest i)
  deed_rises step (HelpsAndGives g start depth rest j i all known may) = absurd (asked_in Telling (wanted.Group g start depth) rest i)
  deed_rises step (VotesFinding g start depth rest j i known all) = absurd (asked_in Giving (wanted.Group g start depth) rest i)
  deed_rises step (ReturnsError v rest phase slots (ByLoss x) i decided t) = fails_come (Balloting phase) v rest i
  deed_rises step (ReturnsError v rest phase slots (ByLeaving x) i decided t) = fails_come (Balloting phase) v rest i
  deed_rises step (ReturnsBits flag rest slots i) = returns_come (Balloting i.phase) (wanted.Agree flag) rest i.within _
  deed_rises step (Closes g rest slots i) = absurd (asked_in (Balloting i.phase) (wanted.Close g) rest i.within)
  deed_rises step (Creates g start depth rest slots i) = absurd (asked_in (Balloting i.phase) (wanted.Group g start depth) rest i.within)
  deed_rises step (Deletes g stamp rest slots i) = absurd (asked_in (Balloting i.phase) (wanted.Delete g stamp) rest i.within)
