-- Each step of a node is one of the deeds.
use Rattle.std.proofs.lemmas.Bool.Decides.{nat_tests}
use Rattle.std.proofs.Common.{arith, ◌≡◌, ℕ, Bool, true, false, List, Option, Some, None, refl, subst}
use Rattle.std.specs.Prelude.{if◌then◌else◌, option_map}
use Rattle.fx_base.specs.declared.names.GroupId.{GroupId}
use Rattle.fx_base.specs.declared.names.Stamp.{Stamp}
use Rattle.fx_ballot.specs.declared.poll.Poll.{Poll}
use Rattle.fx_ballot.specs.declared.poll.Poll.TheVariants as poll
use Rattle.fx_ballot.specs.Turn.{Phase}
use Rattle.fx_comm.specs.Seats.{has_place}
use Rattle.fx_link.specs.declared.slot.Slot.{Slot}
use Rattle.fx_link.specs.declared.slot.Slot.TheVariants as slot
use Rattle.fx_walk.specs.declared.wanted.Wanted.{Wanted}
use Rattle.fx_walk.specs.declared.wanted.Wanted.TheVariants as wanted
use Rattle.fx_walk.specs.Walk.{Walk, Ends, Passes, Prints, Asks, Reply}
use Rattle.fx_machine.specs.Asking.{granted, unless_refused}
use Rattle.fx_machine.specs.Ballots.{in_ballot, turned, may_join, joins, is_end, decides_epoch}
use Rattle.fx_machine.specs.Calls.{balloting, affirmed, unless_error, decides_call, in_front, in_creation, in_call, in_asked_call}
use Rattle.fx_machine.specs.Closing.{share_wait}
use Rattle.fx_machine.specs.Creating.{creation, first_known, tell_wait, help_wait, give_wait, behind_tells, behind_gives}
use Rattle.fx_machine.specs.Gathering.{are_gathered, gathered, gathering_error, in_gathering}
use Rattle.fx_machine.specs.Groups.{holds}
use Rattle.fx_machine.specs.Local.{Refusal, refusal_of}
use Rattle.fx_machine.specs.Nodes.{Node, Act, Stage, Core, Begins, Joining, Arrived, Walking, Calling, Failed, Over, Gathering, Sharing, Telling, Giving, Balloting, members}
use Rattle.fx_machine.specs.Reading.{Ballot, next_ballot, turn_in}
use Rattle.fx_machine.specs.Setup.{Setup}
use Rattle.fx_machine.specs.Steps.{next, next_at, in_walk, may_help_out}
use Rattle.fx_machine.specs.Texts.{Known}
use Rattle.fx_machine.specs.Waits.{Wait, Error, is_settled, first_unheard, call_ballot, casts, behind, unless_unheard, first_error, all_agree, returns_error}
use Rattle.fx_deeds.specs.Deeds.{AsksFor, IsIn, InBallot, OfEpoch, OfCall, Reason, First, HelpsOut, HasFailed, IsDone, AllHeard, Unheard, ForShares, ForTells, ForHelps, ForGives, Holds, IsHelped, IsAffirmed, Gathers, ABarrier, AReduction, AShift, Deed, Joins, Moves, Speaks, EndsAll, Repairs, Inits, PassesOn, PrintsOut, IsRefused, Attaches, Stores, Commits, Restores, EntersBarrier, EntersReduction, EntersShift, EntersAgreement, EntersDeletion, EntersClosing, EntersCreation, PassesBarrier, Reduces, Shifts, GathersNoMore, VotesNo, VotesYes, VotesFresh, HelpsAndGives, VotesFinding, ReturnsError, ReturnsBits, Closes, Creates, Deletes}

-- whatever is done has the property
pub data Each (Is : Act → Type 0) : Option Act → Type 0 where
  Quiet : Each Is None
  Does : {act : Act} → Is act → Each Is (Some act)

-- a choice that is made by a test
by_test : {Is : Act → Type 0} (b : Bool) {x y : Option Act} → (b ≡ true → Each Is x) → (b ≡ false → Each Is y) → Each Is (if b then x else y)
by_test true a c = a refl
by_test false a c = c refl

either : (Is : Act → Type 0) (b : Bool) {x y : Act} → (b ≡ true → Is x) → (b ≡ false → Is y) → Is (if b then x else y)
either Is true a c = a refl
either Is false a c = c refl

-- an action of what is there
of_some : {X : Type 0} {Is : Act → Type 0} (act : X → Act) (x : Option X) → ((y : X) → x ≡ Some y → Is (act y)) → Each Is (option_map act x)
of_some act None all = Quiet
of_some act (Some y) all = Does (all y refl)

each_join : (s : Setup) (kind : Slot) (n : Node) → Reason n kind → Each (Deed s n) (joins kind n)
each_join s kind n why = by_test (may_join n) (λ is. Does (Joins kind why (grind (arith, nat_tests, is)))) (λ is. Quiet)

-- ---- ballots

each_turn : (s : Setup) (n : Node) (b : Ballot) (at : Phase → Stage) (phase : Phase) (decides : List Slot → Option Act) → InBallot n b at phase
    → ((slots : List Slot) → (turn_in b n phase).poll ≡ poll.Decided slots → Each (Deed s n) (decides slots))
    → (x : Poll) → (turn_in b n phase).poll ≡ x → Each (Deed s n) (turned b n at decides (record { phase = (turn_in b n phase).phase; poll = x }))
each_turn s n b at phase decides is all poll.NotYet e = Quiet
each_turn s n b at phase decides is all poll.Moved e = Does (Moves b at phase is e)
each_turn s n b at phase decides is all (poll.SendEstimate slots) e = Does (Speaks b at phase slots is e)
each_turn s n b at phase decides is all (poll.Decided slots) e = all slots e

each_ballot : (s : Setup) (n : Node) (b : Ballot) (at : Phase → Stage) (phase : Phase) (decides : List Slot → Option Act) → InBallot n b at phase
    → ((slots : List Slot) → (turn_in b n phase).poll ≡ poll.Decided slots → Each (Deed s n) (decides slots))
    → Each (Deed s n) (in_ballot b n at decides phase)
each_ballot s n b at phase decides is all = each_turn s n b at phase decides is all (turn_in b n phase).poll refl

-- ---- waits

each_unless : {Is : Act → Type 0} (n : Node) (w : Wait) {after : Option Act} → is_settled w ≡ true → ((x : Slot) → Unheard w x → Is (casts n x))
    → (AllHeard w → Each Is after) → (x : Option ℕ) → first_unheard w ≡ x → Each Is (unless_unheard n w x after)
each_unless n w ended against all None e = all (record { settled = ended; heard = e })
each_unless n w ended against all (Some x) e = of_some (casts n) (w.no x) (λ slot says. against slot (record { place = x; settled = ended; first = e; says = says }))

-- a wait: a no, or what is next
each_wait : {Is : Act → Type 0} (n : Node) (w : Wait) {after : Option Act} → ((x : Slot) → Unheard w x → Is (casts n x)) → (AllHeard w → Each Is after)
    → Each Is (behind n w after)
each_wait n w against all = by_test (is_settled w) (λ ended. each_unless n w ended against all (first_unheard w) refl) (λ is. Quiet)

-- ---- the ballot of a call

each_affirmed : (s : Setup) (n : Node) (w : Wanted) (rest : Reply → Walk) (slots : List Slot) → IsAffirmed n w rest slots → Each (Deed s n) (affirmed s n w rest slots)
each_affirmed s n (wanted.Agree flag) rest slots is = Does (ReturnsBits flag rest slots is)
each_affirmed s n (wanted.Close g) rest slots is = Does (Closes g rest slots is)
each_affirmed s n (wanted.Group g start depth) rest slots is = Does (Creates g start depth rest slots is)
each_affirmed s n (wanted.Delete g stamp) rest slots is = Does (Deletes g stamp rest slots is)
each_affirmed s n wanted.Barrier rest slots is = Quiet
each_affirmed s n (wanted.Reduce op own) rest slots is = Quiet
each_affirmed s n (wanted.Shift by elements) rest slots is = Quiet
each_affirmed s n (wanted.Attach g m) rest slots is = Quiet
each_affirmed s n (wanted.Store g m elements) rest slots is = Quiet
each_affirmed s n (wanted.Commit g) rest slots is = Quiet
each_affirmed s n (wanted.Restore g m stamp) rest slots is = Quiet

each_decision : (s : Setup) (n : Node) (w : Wanted) (rest : Reply → Walk) (phase : Phase) (slots : List Slot) → IsIn n (Balloting phase) w rest
    → (turn_in (call_ballot n w) n phase).poll ≡ poll.Decided slots → (x : Option Error) → first_error (members n) slots ≡ x
    → Each (Deed s n) (unless_error s n w rest slots x)
each_decision s n w rest phase slots is decided (Some error) e = Does (ReturnsError w rest phase slots error is decided e)
each_decision s n w rest phase slots is decided None e =
    by_test (all_agree slots)
    (λ all. each_affirmed s n w rest slots (record { phase = phase; within = is; decided = decided; no_error = e; affirmative = all })) (λ all. Quiet)

-- ---- calls

-- parts are gathered, or one is missing for good
each_gathering : (s : Setup) (n : Node) (w : Wanted) (rest : Reply → Walk) → Gathers w → IsIn n Gathering w rest
    → (are_gathered n w ≡ true → Each (Deed s n) (gathered n w rest)) → Each (Deed s n) (in_gathering n w rest)
each_gathering s n w rest kind is all =
    by_test (are_gathered n w) all (λ some. of_some (returns_error n) (gathering_error n w) (λ error e. GathersNoMore w rest error kind is some e))

each_tells : (s : Setup) (n : Node) (g : GroupId) (start : Stamp) (depth : ℕ) (rest : Reply → Walk) → IsIn n Telling (wanted.Group g start depth) rest
    → AllHeard (tell_wait n (creation g start depth)) → (k : Option Known) → first_known n (creation g start depth) ≡ k
    → Each (Deed s n) (behind_tells s n (creation g start depth) k)
each_tells s n g start depth rest is told None e = Does (VotesFresh g start depth rest is told e)
each_tells s n g start depth rest is told (Some k) e =
    by_test (holds (n.groups g.0)) (λ has. Does (HelpsAndGives g start depth rest k is told e (Holds has)))
    (λ none. each_wait n (help_wait n (creation g start depth) k)
    (λ x un. VotesNo Telling (wanted.Group g start depth) rest (help_wait n (creation g start depth) k) x is (ForHelps g start depth k told e none) un)
    (λ helped. Does (HelpsAndGives g start depth rest k is told e (IsHelped none helped))))

each_gives : (s : Setup) (n : Node) (g : GroupId) (start : Stamp) (depth : ℕ) (rest : Reply → Walk) → IsIn n Giving (wanted.Group g start depth) rest
    → (k : Option Known) → first_known n (creation g start depth) ≡ k → Each (Deed s n) (behind_gives s n (creation g start depth) k)
each_gives s n g start depth rest is None e = Quiet
each_gives s n g start depth rest is (Some k) e =
    each_wait n (give_wait s n (creation g start depth) k)
    (λ x un. VotesNo Giving (wanted.Group g start depth) rest (give_wait s n (creation g start depth) k) x is (ForGives g start depth k e) un)
    (λ given. Does (VotesFinding g start depth rest k is e given))

each_creation : (s : Setup) (n : Node) (g : GroupId) (start : Stamp) (depth : ℕ) (rest : Reply → Walk) (core : Core) → IsIn n core (wanted.Group g start depth) rest
    → Each (Deed s n) (in_creation s n (creation g start depth) core)
each_creation s n g start depth rest Telling is =
    each_wait n (tell_wait n (creation g start depth))
    (λ x un. VotesNo Telling (wanted.Group g start depth) rest (tell_wait n (creation g start depth)) x is (ForTells g start depth) un)
    (λ told. each_tells s n g start depth rest is told (first_known n (creation g start depth)) refl)
each_creation s n g start depth rest Giving is = each_gives s n g start depth rest is (first_known n (creation g start depth)) refl
each_creation s n g start depth rest Gathering is = Quiet
each_creation s n g start depth rest Sharing is = Quiet
each_creation s n g start depth rest (Balloting phase) is = Quiet

each_closing : (s : Setup) (n : Node) (g : GroupId) (rest : Reply → Walk) (core : Core) → IsIn n core (wanted.Close g) rest → Each (Deed s n) (in_front s n (wanted.Close g) rest core)
each_closing s n g rest Sharing is =
    each_wait n (share_wait s n (n.groups g.0)) (λ x un. VotesNo Sharing (wanted.Close g) rest (share_wait s n (n.groups g.0)) x is (ForShares g) un)
    (λ shared. Does (VotesYes g rest is shared))
each_closing s n g rest Gathering is = Quiet
each_closing s n g rest Telling is = Quiet
each_closing s n g rest Giving is = Quiet
each_closing s n g rest (Balloting phase) is = Quiet

each_front : (s : Setup) (n : Node) (w : Wanted) (rest : Reply → Walk) (core : Core) → IsIn n core w rest → Each (Deed s n) (in_front s n w rest core)
each_front s n (wanted.Close g) rest core is = each_closing s n g rest core is
each_front s n (wanted.Group g start depth) rest core is = each_creation s n g start depth rest core is
each_front s n wanted.Barrier rest Gathering is = each_gathering s n wanted.Barrier rest ABarrier is (λ all. Does (PassesBarrier rest is all))
each_front s n wanted.Barrier rest Sharing is = Quiet
each_front s n wanted.Barrier rest Telling is = Quiet
each_front s n wanted.Barrier rest Giving is = Quiet
each_front s n wanted.Barrier rest (Balloting phase) is = Quiet
each_front s n (wanted.Reduce op own) rest Gathering is = each_gathering s n (wanted.Reduce op own) rest (AReduction op own) is (λ all. Does (Reduces op own rest is all))
each_front s n (wanted.Reduce op own) rest Sharing is = Quiet
each_front s n (wanted.Reduce op own) rest Telling is = Quiet
each_front s n (wanted.Reduce op own) rest Giving is = Quiet
each_front s n (wanted.Reduce op own) rest (Balloting phase) is = Quiet
each_front s n (wanted.Agree flag) rest Gathering is = Quiet
each_front s n (wanted.Agree flag) rest Sharing is = Quiet
each_front s n (wanted.Agree flag) rest Telling is = Quiet
each_front s n (wanted.Agree flag) rest Giving is = Quiet
each_front s n (wanted.Agree flag) rest (Balloting phase) is = Quiet
each_front s n (wanted.Shift by elements) rest Gathering is = each_gathering s n (wanted.Shift by elements) rest (AShift by elements) is (λ all. Does (Shifts by elements rest is all))
each_front s n (wanted.Shift by elements) rest Sharing is = Quiet
each_front s n (wanted.Shift by elements) rest Telling is = Quiet
each_front s n (wanted.Shift by elements) rest Giving is = Quiet
each_front s n (wanted.Shift by elements) rest (Balloting phase) is = Quiet
each_front s n (wanted.Attach g m) rest Gathering is = Quiet
each_front s n (wanted.Attach g m) rest Sharing is = Quiet
each_front s n (wanted.Attach g m) rest Telling is = Quiet
each_front s n (wanted.Attach g m) rest Giving is = Quiet
each_front s n (wanted.Attach g m) rest (Balloting phase) is = Quiet
each_front s n (wanted.Store g m piece) rest Gathering is = Quiet
each_front s n (wanted.Store g m piece) rest Sharing is = Quiet
each_front s n (wanted.Store g m piece) rest Telling is = Quiet
each_front s n (wanted.Store g m piece) rest Giving is = Quiet
each_front s n (wanted.Store g m piece) rest (Balloting phase) is = Quiet
each_front s n (wanted.Commit g) rest Gathering is = Quiet
each_front s n (wanted.Commit g) rest Sharing is = Quiet
each_front s n (wanted.Commit g) rest Telling is = Quiet
each_front s n (wanted.Commit g) rest Giving is = Quiet
each_front s n (wanted.Commit g) rest (Balloting phase) is = Quiet
each_front s n (wanted.Restore g m stamp) rest Gathering is = Quiet
each_front s n (wanted.Restore g m stamp) rest Sharing is = Quiet
each_front s n (wanted.Restore g m stamp) rest Telling is = Quiet
each_front s n (wanted.Restore g m stamp) rest Giving is = Quiet
each_front s n (wanted.Restore g m stamp) rest (Balloting phase) is = Quiet
each_front s n (wanted.Delete g stamp) rest Gathering is = Quiet
each_front s n (wanted.Delete g stamp) rest Sharing is = Quiet
each_front s n (wanted.Delete g stamp) rest Telling is = Quiet
each_front s n (wanted.Delete g stamp) rest Giving is = Quiet
each_front s n (wanted.Delete g stamp) rest (Balloting phase) is = Quiet

each_call : (s : Setup) (n : Node) (w : Wanted) (rest : Reply → Walk) (core : Core) → IsIn n core w rest → Each (Deed s n) (in_call s n w rest core)
each_call s n w rest (Balloting phase) is =
    each_ballot s n (call_ballot n w) balloting phase (decides_call s n w rest) (OfCall w rest phase is)
    (λ slots e. each_decision s n w rest phase slots is e (first_error (members n) slots) refl)
each_call s n w rest Gathering is = each_front s n w rest Gathering is
each_call s n w rest Sharing is = each_front s n w rest Sharing is
each_call s n w rest Telling is = each_front s n w rest Telling is
each_call s n w rest Giving is = each_front s n w rest Giving is

calling : (s : Setup) (n : Node) (core : Core) → n.stage ≡ Calling core → (w : Walk) → n.walk ≡ w → Each (Deed s n) (in_asked_call s n core w)
calling s n core at (Asks place w state rest) e = each_call s n w rest core (record { place = place; state = state; stage = at; walk = e })
calling s n core at (Ends state) e = Quiet
calling s n core at (Passes rest) e = Quiet
calling s n core at (Prints printed rest) e = Quiet

-- ---- statements

of_granted : (s : Setup) (n : Node) (rest : Reply → Walk) (w : Wanted) → AsksFor n w rest → refusal_of s n w ≡ None → Deed s n (granted s n rest w)
of_granted s n rest wanted.Barrier is may = EntersBarrier rest is
of_granted s n rest (wanted.Reduce op own) is may = EntersReduction op own rest is
of_granted s n rest (wanted.Agree flag) is may = EntersAgreement flag rest is
of_granted s n rest (wanted.Shift by elements) is may = EntersShift by elements rest is
of_granted s n rest (wanted.Group g start depth) is may = EntersCreation g start depth rest is may
of_granted s n rest (wanted.Attach g m) is may = Attaches g m rest is may
of_granted s n rest (wanted.Store g m piece) is may = Stores g m piece rest is may
of_granted s n rest (wanted.Commit g) is may = Commits g rest is may
of_granted s n rest (wanted.Close g) is may = EntersClosing g rest is may
of_granted s n rest (wanted.Restore g m stamp) is may = Restores g m stamp rest is may
of_granted s n rest (wanted.Delete g stamp) is may = EntersDeletion g stamp rest is may

of_asked : (s : Setup) (n : Node) (rest : Reply → Walk) (w : Wanted) → AsksFor n w rest → (r : Option Refusal) → refusal_of s n w ≡ r
    → Deed s n (unless_refused n rest r (granted s n rest w))
of_asked s n rest w is None e = of_granted s n rest w is e
of_asked s n rest w is (Some r) e = IsRefused w rest r is e

walking : (s : Setup) (n : Node) → n.stage ≡ Walking → (w : Walk) → n.walk ≡ w → Each (Deed s n) (in_walk s n w)
walking s n at (Ends state) e = each_join s slot.Final n (IsDone state at e)
walking s n at (Passes rest) e = Does (PassesOn rest at e)
walking s n at (Prints printed rest) e = Does (PrintsOut printed rest at e)
walking s n at (Asks place w state rest) e = Does (of_asked s n rest w (record { place = place; state = state; stage = at; walk = e }) (refusal_of s n w) refl)

-- ---- all

each_stage : (s : Setup) (n : Node) (x : Stage) → n.stage ≡ x → Each (Deed s n) (next_at s n x)
each_stage s n Begins at = each_join s slot.Start n (First at)
each_stage s n (Joining phase) at =
    each_ballot s n (next_ballot n) Joining phase (λ slots. Some (decides_epoch s n slots)) (OfEpoch phase at)
    (λ slots e. Does (either (Deed s n) (is_end n slots) (λ is. EndsAll phase slots at e is) (λ is. Repairs phase slots at e is)))
each_stage s n Arrived at =
    by_test (has_place n.comm n.me) (λ is. Does (Inits at is))
    (λ is. by_test (may_help_out n) (λ may. each_join s slot.Spare n (HelpsOut at is may)) (λ may. Quiet))
each_stage s n Walking at = walking s n at n.walk refl
each_stage s n (Calling core) at = calling s n core at n.walk refl
each_stage s n Failed at = each_join s slot.Error n (HasFailed at)
each_stage s n Over at = Quiet

-- what is done is a deed
pub is_deed : (s : Setup) (n : Node) (act : Act) → next s n ≡ Some act → Deed s n act
is_deed s n act e = done (subst (Each (Deed s n)) e (each_stage s n n.stage refl))
  where
    done : Each (Deed s n) (Some act) → Deed s n act
    done (Does deed) = deed
