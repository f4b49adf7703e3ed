-- Each deed of a node, where the body asks nothing of data groups, does what it owes to the ballots, to the journal and to the calls.
use Rattle.std.proofs.Common.{◌≡◌, ◌<◌, ℕ, true, false, List, Option, Some, sym, subst}
use Rattle.fx_ballot.specs.declared.poll.Poll.TheVariants as poll
use Rattle.fx_ballot.specs.Turn.{Phase}
use Rattle.fx_ballot.specs.World.{put}
use Rattle.fx_ballot.specs.World as ballot
use Rattle.fx_link.specs.declared.slot.Slot.{Slot}
use Rattle.fx_script.specs.declared.job.Job.{Job}
use Rattle.fx_walk.specs.declared.wanted.Wanted.{Wanted}
use Rattle.fx_walk.specs.Walk.{Walk, Reply}
use Rattle.fx_machine.specs.Ballots.{moves, speaks}
use Rattle.fx_machine.specs.Nodes.{Node, Act, Core, Calling, has_ended, members}
use Rattle.fx_machine.specs.Reading.{turn_in}
use Rattle.fx_machine.specs.Setup.{Setup}
use Rattle.fx_fleet.specs.Runs.{job_setup}
use Rattle.fx_fleet.specs.World.{World, up}
use Rattle.fx_legal.specs.Ledger.{Ledger, procs_of}
use Rattle.fx_losses.proofs.Shows.{Shows, Truthful, up_parts}
use Rattle.fx_calls.specs.Bodies.{IsOfNoGroup, IsOfParts, OnlyAsks}
use Rattle.fx_calls.proofs.Hearings.{Polls}
use Rattle.fx_calls.proofs.Polled.{Polled}
use Rattle.fx_ballot.specs.World.{may_leave}
use Rattle.fx_calls.proofs.Linked.{Linked}
use Rattle.fx_calls.proofs.Owed.{Does}
use Rattle.fx_calls.proofs.Parts.{Spoken}
use Rattle.fx_calls.proofs.Stepped.{CoreFits, Inside, Stepped}
use Rattle.fx_machine.specs.Nodes.{Gathering, Sharing, Telling, Giving, Balloting, goes_on}
use Rattle.fx_machine.specs.Waits.{Wait, Error, returns_error}
use Rattle.fx_deeds.specs.Deeds.{AsksFor, IsIn, OfEpoch, OfCall, Deed, Joins, Moves, Speaks, EndsAll, Repairs, Inits, PassesOn, PrintsOut, IsRefused, Attaches, Stores, Commits, Restores, EntersBarrier, EntersReduction, EntersShift, EntersAgreement, EntersDeletion, EntersClosing, EntersCreation, PassesBarrier, Reduces, Shifts, GathersNoMore, VotesNo, VotesYes, VotesFresh, HelpsAndGives, VotesFinding, ReturnsError, ReturnsBits, Closes, Creates, Deletes, WaitsIn, ForShares, ForTells, ForHelps, ForGives}
use Rattle.fx_walk.specs.declared.wanted.Wanted.TheVariants as wanted
use Rattle.fx_calls.proofs.Calling.{has_cause, none_refused}
use Rattle.fx_ballot.specs.World.{Member, enters, is_outside}
use Rattle.fx_machine.specs.Reading.{OfCall}
use Rattle.fx_ballot.specs.World.{stays, own_after}
use Rattle.fx_machine.specs.Calls.{balloting}
use Rattle.fx_machine.specs.Waits.{call_ballot}
use Rattle.fx_machine.specs.Waits.{first_error}
use Rattle.fx_calls.proofs.Calling.{gathers_parts}
use Rattle.fx_calls.proofs.Owed.{Facts}
use Rattle.fx_calls.proofs.Walks as walks
use Rattle.fx_calls.proofs.Gathers as gathers
use Rattle.fx_calls.proofs.Agrees as agrees

module _ (job : Job) (w : World) (z : ℕ → ballot.World) (fate : ℕ → Option (List Slot)) (l : Ledger) (polls : Polls) (p : ℕ) (facts : Facts job w z fate l polls p) where
  abbrev s : Setup
  s = job_setup job

  abbrev n : Node
  n = w.node p

  abbrev d : ℕ
  d = n.epoch

  abbrev here : up (job_setup job) w p ≡ true
  here = facts.here

  abbrev h : Shows (job_setup job) w z fate
  h = facts.shows

  abbrev tr : Truthful (job_setup job) w z fate
  tr = facts.truthful

  abbrev t : Linked job w z fate l
  t = facts.linked

  abbrev in_step : Stepped job w l
  in_step = facts.stepped

  abbrev sp : Spoken l w
  sp = facts.spoken

  abbrev in_polls : Polled w l polls
  in_polls = facts.polled

  k : (p < s.procs) × (w.killed p ≡ false) × (has_ended n ≡ false)
  k = up_parts s w p here

  own : n.me ≡ p
  own = (h.sane p k.1).me

  few : n.me < procs_of job
  few = subst (λ (o : ℕ). o < procs_of job) (sym own) k.0

  -- ---- all deeds

  gathers_parts_here : (v : Wanted) (rest : Reply → Walk) → IsIn n Gathering v rest → IsOfParts v
  gathers_parts_here v rest i = let x : Inside job l p n Gathering = (walks.at_plan job w z fate l polls p facts) (Calling Gathering) i.stage in gathers_parts v (x.fits i.place v i.state rest i.walk)

  in_no_group : (core : Core) (v : Wanted) (rest : Reply → Walk) → IsIn n core v rest → IsOfNoGroup v
  in_no_group core v rest i = let x : Inside job l p n core = (walks.at_plan job w z fate l polls p facts) (Calling core) i.stage in (subst (OnlyAsks IsOfNoGroup) i.walk x.keeping.only).0

  asks_no_group : (v : Wanted) (rest : Reply → Walk) → AsksFor n v rest → IsOfNoGroup v
  asks_no_group v rest a = (subst (OnlyAsks IsOfNoGroup) a.walk ((walks.keeping_now job w z fate l polls p facts) a.stage).only).0

  in_ballot_fits : (phase : Phase) (v : Wanted) (rest : Reply → Walk) → IsIn n (Balloting phase) v rest → CoreFits v (Balloting phase)
  in_ballot_fits phase v rest i = let x : Inside job l p n (Balloting phase) = (walks.at_plan job w z fate l polls p facts) (Calling (Balloting phase)) i.stage in x.fits i.place v i.state rest i.walk

  no_wait : (core : Core) (v : Wanted) (wait : Wait) → WaitsIn s n core v wait → IsOfNoGroup v → ⊥
  no_wait core v wait (ForShares g) is = is
  no_wait core v wait (ForTells g start depth) is = is
  no_wait core v wait (ForHelps g start depth j all known none) is = is
  no_wait core v wait (ForGives g start depth j known) is = is

  moves_in_call : (v : Wanted) (rest : Reply → Walk) (old : Phase) → IsIn n (Balloting old) v rest → CoreFits v (Balloting old) → (turn_in (call_ballot n v) n old).poll ≡ poll.Moved
      → Does job p (moves n balloting (turn_in (call_ballot n v) n old).phase) w z fate l polls
  moves_in_call (wanted.Agree flag) rest old i fits e = (agrees.moves_call_does job w z fate l polls p facts) old flag rest i e
  moves_in_call wanted.Barrier rest old i fits e = absurd fits
  moves_in_call (wanted.Reduce op own_value) rest old i fits e = absurd fits
  moves_in_call (wanted.Shift by elements) rest old i fits e = absurd fits
  moves_in_call (wanted.Group g start depth) rest old i fits e = absurd fits
  moves_in_call (wanted.Attach g x) rest old i fits e = absurd fits
  moves_in_call (wanted.Store g x piece) rest old i fits e = absurd fits
  moves_in_call (wanted.Commit g) rest old i fits e = absurd fits
  moves_in_call (wanted.Close g) rest old i fits e = absurd fits
  moves_in_call (wanted.Restore g x stamp) rest old i fits e = absurd fits
  moves_in_call (wanted.Delete g stamp) rest old i fits e = absurd fits

  speaks_in_call : (v : Wanted) (rest : Reply → Walk) (old : Phase) (slots : List Slot) → IsIn n (Balloting old) v rest → CoreFits v (Balloting old) → (turn_in (call_ballot n v) n old).poll ≡ poll.SendEstimate slots
      → Does job p (speaks (call_ballot n v) n balloting (turn_in (call_ballot n v) n old).phase slots) w z fate l polls
  speaks_in_call (wanted.Agree flag) rest old slots i fits e = (agrees.speaks_call_does job w z fate l polls p facts) old flag rest i slots e
  speaks_in_call wanted.Barrier rest old slots i fits e = absurd fits
  speaks_in_call (wanted.Reduce op own_value) rest old slots i fits e = absurd fits
  speaks_in_call (wanted.Shift by elements) rest old slots i fits e = absurd fits
  speaks_in_call (wanted.Group g start depth) rest old slots i fits e = absurd fits
  speaks_in_call (wanted.Attach g x) rest old slots i fits e = absurd fits
  speaks_in_call (wanted.Store g x piece) rest old slots i fits e = absurd fits
  speaks_in_call (wanted.Commit g) rest old slots i fits e = absurd fits
  speaks_in_call (wanted.Close g) rest old slots i fits e = absurd fits
  speaks_in_call (wanted.Restore g x stamp) rest old slots i fits e = absurd fits
  speaks_in_call (wanted.Delete g stamp) rest old slots i fits e = absurd fits

  fails_in_call : (v : Wanted) (rest : Reply → Walk) (old : Phase) (slots : List Slot) (error : Error) → IsIn n (Balloting old) v rest → CoreFits v (Balloting old) → (turn_in (call_ballot n v) n old).poll ≡ poll.Decided slots
      → first_error (members n) slots ≡ Some error → Does job p (returns_error n error) w z fate l polls
  fails_in_call (wanted.Agree flag) rest old slots error i fits e is = (agrees.returns_error_does job w z fate l polls p facts) old flag rest i slots e error is
  fails_in_call wanted.Barrier rest old slots error i fits e is = absurd fits
  fails_in_call (wanted.Reduce op own_value) rest old slots error i fits e is = absurd fits
  fails_in_call (wanted.Shift by elements) rest old slots error i fits e is = absurd fits
  fails_in_call (wanted.Group g start depth) rest old slots error i fits e is = absurd fits
  fails_in_call (wanted.Attach g x) rest old slots error i fits e is = absurd fits
  fails_in_call (wanted.Store g x piece) rest old slots error i fits e is = absurd fits
  fails_in_call (wanted.Commit g) rest old slots error i fits e is = absurd fits
  fails_in_call (wanted.Close g) rest old slots error i fits e is = absurd fits
  fails_in_call (wanted.Restore g x stamp) rest old slots error i fits e is = absurd fits
  fails_in_call (wanted.Delete g stamp) rest old slots error i fits e is = absurd fits

  pub deed_does : (step : Act) → Deed (job_setup job) (w.node p) step → Does job p step w z fate l polls
  deed_does step (Joins kind why may) = (walks.joins_does job w z fate l polls p facts) kind why
  deed_does step (Moves b at phase (OfEpoch old stage) e) = (walks.moves_does job w z fate l polls p facts) old stage e
  deed_does step (Moves b at phase (OfCall v rest old i) e) = moves_in_call v rest old i (in_ballot_fits old v rest i) e
  deed_does step (Speaks b at phase slots (OfEpoch old stage) e) = (walks.speaks_does job w z fate l polls p facts) old slots stage e
  deed_does step (Speaks b at phase slots (OfCall v rest old i) e) = speaks_in_call v rest old slots i (in_ballot_fits old v rest i) e
  deed_does step (EndsAll phase slots at e last) = (walks.ends_does job w z fate l polls p facts) phase slots at e last
  deed_does step (Repairs phase slots at e goes_on) = (walks.repairs_does job w z fate l polls p facts) phase slots at e goes_on
  deed_does step (Inits at place) = (walks.inits_does job w z fate l polls p facts) at place
  deed_does step (PassesOn rest at e) = (walks.passes_does job w z fate l polls p facts) rest at e
  deed_does step (PrintsOut printed rest at e) = (walks.prints_does job w z fate l polls p facts) printed rest at e
  deed_does step (IsRefused v rest r a e) = absurd (none_refused s n v r (asks_no_group v rest a) e)
  deed_does step (Attaches g m rest a may) = absurd (asks_no_group (wanted.Attach g m) rest a)
  deed_does step (Stores g m piece rest a may) = absurd (asks_no_group (wanted.Store g m piece) rest a)
  deed_does step (Commits g rest a may) = absurd (asks_no_group (wanted.Commit g) rest a)
  deed_does step (Restores g m stamp rest a may) = absurd (asks_no_group (wanted.Restore g m stamp) rest a)
  deed_does step (EntersBarrier rest a) = (gathers.enters_barrier_does job w z fate l polls p facts) rest a
  deed_does step (EntersReduction op value rest a) = (gathers.enters_reduction_does job w z fate l polls p facts) op value rest a
  deed_does step (EntersShift by elements rest a) = (gathers.enters_shift_does job w z fate l polls p facts) by elements rest a
  deed_does step (EntersAgreement flag rest a) = (agrees.enters_agreement_does job w z fate l polls p facts) flag rest a
  deed_does step (EntersDeletion g stamp rest a may) = absurd (asks_no_group (wanted.Delete g stamp) rest a)
  deed_does step (EntersClosing g rest a may) = absurd (asks_no_group (wanted.Close g) rest a)
  deed_does step (EntersCreation g start depth rest a may) = absurd (asks_no_group (wanted.Group g start depth) rest a)
  deed_does step (PassesBarrier rest i all) = (gathers.passes_barrier_does job w z fate l polls p facts) rest i all
  deed_does step (Reduces op value rest i all) = (gathers.reduces_does job w z fate l polls p facts) op value rest i all
  deed_does step (Shifts by elements rest i all) = (gathers.shifts_does job w z fate l polls p facts) by elements rest i all
  deed_does step (GathersNoMore v rest error kind i some e) = (gathers.gathers_no_more_does job w z fate l polls p facts) v rest error i (gathers_parts_here v rest i) (has_cause n v error e)
  deed_does step (VotesNo core v rest wait vote i at un) = absurd (no_wait core v wait at (in_no_group core v rest i))
  deed_does step (VotesYes g rest i all) = absurd (in_no_group Sharing (wanted.Close g) rest i)
  deed_does step (VotesFresh g start depth rest i all none) = absurd (in_no_group Telling (wanted.Group g start depth) rest i)
  deed_does step (HelpsAndGives g start depth rest j i all known may) = absurd (in_no_group Telling (wanted.Group g start depth) rest i)
  deed_does step (VotesFinding g start depth rest j i known all) = absurd (in_no_group Giving (wanted.Group g start depth) rest i)
  deed_does step (ReturnsError v rest phase slots error i decided e) = fails_in_call v rest phase slots error i (in_ballot_fits phase v rest i) decided e
  deed_does step (ReturnsBits flag rest slots i) = (agrees.returns_bits_does job w z fate l polls p facts) i.phase flag rest i.within slots i.decided i.no_error i.affirmative
  deed_does step (Closes g rest slots i) = absurd (in_no_group (Balloting i.phase) (wanted.Close g) rest i.within)
  deed_does step (Creates g start depth rest slots i) = absurd (in_no_group (Balloting i.phase) (wanted.Group g start depth) rest i.within)
  deed_does step (Deletes g stamp rest slots i) = absurd (in_no_group (Balloting i.phase) (wanted.Delete g stamp) rest i.within)
