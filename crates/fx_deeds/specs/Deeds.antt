-- All that a node can do in a step, each deed with what enables it.
use Rattle.std.specs.Prelude.{◌≡◌, ◌<◌, ℕ, suc, ℤ, true, false, List, [], Some, None, unwrap_or}
use Rattle.fx_base.specs.declared.names.GroupId.{GroupId}
use Rattle.fx_base.specs.declared.names.MemberId.{MemberId}
use Rattle.fx_base.specs.declared.names.Op.{Op}
use Rattle.fx_base.specs.declared.names.Stamp.{Stamp}
use Rattle.fx_base.specs.declared.sparse.Sparse.{Sparse}
use Rattle.fx_ballot.specs.declared.poll.Poll.TheVariants as poll
use Rattle.fx_ballot.specs.Turn.{Phase}
use Rattle.fx_comm.specs.Seats.{has_place}
use Rattle.fx_link.specs.declared.slot.Slot.{Slot}
use Rattle.fx_link.specs.declared.slot.Slot.TheVariants as slot
use Rattle.fx_walk.specs.declared.printed.Printed.{Printed}
use Rattle.fx_walk.specs.declared.wanted.Wanted.{Wanted}
use Rattle.fx_walk.specs.declared.wanted.Wanted.TheVariants as wanted
use Rattle.fx_walk.specs.State.{State}
use Rattle.fx_walk.specs.Walk.{TextPlace, Walk, Ends, Passes, Prints, Asks, Reply}
use Rattle.fx_machine.specs.Asking.{enters_barrier, enters_reduction, enters_agreement, enters_deletion, enters_shift, enters_creation, frozen, enters_closing}
use Rattle.fx_machine.specs.Ballots.{moves, speaks, joined, is_end, voters, arrived, repairs, ends}
use Rattle.fx_machine.specs.Calls.{balloting, common_bits, deletes}
use Rattle.fx_machine.specs.Closing.{share_wait, closes}
use Rattle.fx_machine.specs.Creating.{creation, first_known, tell_wait, help_wait, give_wait, own_snapshots, finding, helps_and_gives, creates}
use Rattle.fx_machine.specs.Gathering.{are_gathered, gathering_error, passes, returns_number, returns_elements, total, numbers_of, source_of}
use Rattle.fx_machine.specs.Groups.{holds}
use Rattle.fx_machine.specs.Local.{Refusal, refusal_of, is_refused, found_at, attaches, stores, commits, restores}
use Rattle.fx_machine.specs.Nodes.{Node, Act, Stage, Core, Begins, Joining, Arrived, Walking, Calling, Failed, Gathering, Sharing, Telling, Giving, Balloting, members, size, my_place}
use Rattle.fx_machine.specs.Reading.{Ballot, is_join, next_ballot, turn_in}
use Rattle.fx_machine.specs.Setup.{Setup}
use Rattle.fx_machine.specs.Steps.{inits, may_help_out, passes_on, prints}
use Rattle.fx_machine.specs.Texts.{Known}
use Rattle.fx_machine.specs.Waits.{Wait, Error, is_settled, first_unheard, call_ballot, casts, first_error, all_agree, returns_error}

-- ---- where a node stands

-- its walk asks for this
pub record AsksFor (n : Node) (w : Wanted) (rest : Reply → Walk) : Type 0 where
  pub place : TextPlace
  pub state : State
  pub stage : n.stage ≡ Walking
  pub walk : n.walk ≡ Asks place w state rest

-- it is in the call that its walk asks for
pub record IsIn (n : Node) (core : Core) (w : Wanted) (rest : Reply → Walk) : Type 0 where
  pub place : TextPlace
  pub state : State
  pub stage : n.stage ≡ Calling core
  pub walk : n.walk ≡ Asks place w state rest

-- the ballot that it is in, and how its stage holds a phase
pub data InBallot (n : Node) : Ballot → (Phase → Stage) → Phase → Type 0 where
  OfEpoch : (phase : Phase) → n.stage ≡ Joining phase → InBallot n (next_ballot n) Joining phase
  OfCall : (w : Wanted) (rest : Reply → Walk) (phase : Phase) → IsIn n (Balloting phase) w rest → InBallot n (call_ballot n w) balloting phase

-- why it joins with this vote
pub data Reason (n : Node) : Slot → Type 0 where
  First : n.stage ≡ Begins → Reason n slot.Start
  HelpsOut : n.stage ≡ Arrived → has_place n.comm n.me ≡ false → may_help_out n ≡ true → Reason n slot.Spare
  HasFailed : n.stage ≡ Failed → Reason n slot.Error
  IsDone : (state : State) → n.stage ≡ Walking → n.walk ≡ Ends state → Reason n slot.Final

-- ---- waits

-- all that were awaited were heard
pub record AllHeard (w : Wait) : Type 0 where
  pub settled : is_settled w ≡ true
  pub heard : first_unheard w ≡ None

-- the first that wasn't heard has this no
pub record Unheard (w : Wait) (no : Slot) : Type 0 where
  pub place : ℕ
  pub settled : is_settled w ≡ true
  pub first : first_unheard w ≡ Some place
  pub says : w.no place ≡ Some no

-- the wait that a call is in
pub data WaitsIn (s : Setup) (n : Node) : Core → Wanted → Wait → Type 0 where
  ForShares : (g : GroupId) → WaitsIn s n Sharing (wanted.Close g) (share_wait s n (n.groups g.0))
  ForTells : (g : GroupId) (start : Stamp) (depth : ℕ) → WaitsIn s n Telling (wanted.Group g start depth) (tell_wait n (creation g start depth))
  ForHelps : (g : GroupId) (start : Stamp) (depth : ℕ) (k : Known) → AllHeard (tell_wait n (creation g start depth))
      → first_known n (creation g start depth) ≡ Some k → holds (n.groups g.0) ≡ false
      → WaitsIn s n Telling (wanted.Group g start depth) (help_wait n (creation g start depth) k)
  ForGives : (g : GroupId) (start : Stamp) (depth : ℕ) (k : Known) → first_known n (creation g start depth) ≡ Some k
      → WaitsIn s n Giving (wanted.Group g start depth) (give_wait s n (creation g start depth) k)

-- it may help: it holds something, or has the help of all that do
pub data MayHelp (n : Node) (g : GroupId) (start : Stamp) (depth : ℕ) (k : Known) : Type 0 where
  Holds : holds (n.groups g.0) ≡ true → MayHelp n g start depth k
  IsHelped : holds (n.groups g.0) ≡ false → AllHeard (help_wait n (creation g start depth) k) → MayHelp n g start depth k

-- the ballot of its call is decided, and all slots are affirmative
pub record IsAffirmed (n : Node) (w : Wanted) (rest : Reply → Walk) (slots : List Slot) : Type 0 where
  pub phase : Phase
  pub within : IsIn n (Balloting phase) w rest
  pub decided : (turn_in (call_ballot n w) n phase).poll ≡ poll.Decided slots
  pub no_error : first_error (members n) slots ≡ None
  pub affirmative : all_agree slots ≡ true

-- the statements that gather parts
pub data Gathers : Wanted → Type 0 where
  ABarrier : Gathers wanted.Barrier
  AReduction : (op : Op) (own : ℤ) → Gathers (wanted.Reduce op own)
  AShift : (by : ℕ) (elements : List ℤ) → Gathers (wanted.Shift by elements)

-- ---- deeds

pub data Deed (s : Setup) (n : Node) : Act → Type 0 where
  -- in ballots
  Joins : (kind : Slot) → Reason n kind → n.epoch < 4294967295 → Deed s n (joined kind n)
  Moves : (b : Ballot) (at : Phase → Stage) (phase : Phase) → InBallot n b at phase → (turn_in b n phase).poll ≡ poll.Moved
      → Deed s n (moves n at (turn_in b n phase).phase)
  Speaks : (b : Ballot) (at : Phase → Stage) (phase : Phase) (slots : List Slot) → InBallot n b at phase → (turn_in b n phase).poll ≡ poll.SendEstimate slots
      → Deed s n (speaks b n at (turn_in b n phase).phase slots)
  EndsAll : (phase : Phase) (slots : List Slot) → n.stage ≡ Joining phase → (turn_in (next_ballot n) n phase).poll ≡ poll.Decided slots
      → is_end n slots ≡ true → Deed s n (ends n)
  Repairs : (phase : Phase) (slots : List Slot) → n.stage ≡ Joining phase → (turn_in (next_ballot n) n phase).poll ≡ poll.Decided slots
      → is_end n slots ≡ false → Deed s n (repairs s (arrived (voters (is_join (suc n.epoch)) n.present slots) n))
  -- along the walk
  Inits : n.stage ≡ Arrived → has_place n.comm n.me ≡ true → Deed s n (inits s n)
  PassesOn : (rest : Walk) → n.stage ≡ Walking → n.walk ≡ Passes rest → Deed s n (passes_on rest n)
  PrintsOut : (printed : Printed) (rest : Walk) → n.stage ≡ Walking → n.walk ≡ Prints printed rest → Deed s n (prints printed rest n)
  IsRefused : (w : Wanted) (rest : Reply → Walk) (r : Refusal) → AsksFor n w rest → refusal_of s n w ≡ Some r → Deed s n (is_refused n rest r)
  Attaches : (g : GroupId) (m : MemberId) (rest : Reply → Walk) → AsksFor n (wanted.Attach g m) rest → refusal_of s n (wanted.Attach g m) ≡ None
      → Deed s n (attaches n rest g m)
  Stores : (g : GroupId) (m : MemberId) (piece : Sparse) (rest : Reply → Walk) → AsksFor n (wanted.Store g m piece) rest
      → refusal_of s n (wanted.Store g m piece) ≡ None → Deed s n (stores n rest g m piece)
  Commits : (g : GroupId) (rest : Reply → Walk) → AsksFor n (wanted.Commit g) rest → refusal_of s n (wanted.Commit g) ≡ None → Deed s n (commits n rest g)
  Restores : (g : GroupId) (m : MemberId) (stamp : Stamp) (rest : Reply → Walk) → AsksFor n (wanted.Restore g m stamp) rest
      → refusal_of s n (wanted.Restore g m stamp) ≡ None
      → Deed s n (restores n rest g m stamp (unwrap_or (found_at (s.member_len g m) m.0 (n.groups g.0) stamp.0) []))
  -- entering calls
  EntersBarrier : (rest : Reply → Walk) → AsksFor n wanted.Barrier rest → Deed s n (enters_barrier n)
  EntersReduction : (op : Op) (own : ℤ) (rest : Reply → Walk) → AsksFor n (wanted.Reduce op own) rest
      → Deed s n (enters_reduction n op own)
  EntersShift : (by : ℕ) (elements : List ℤ) (rest : Reply → Walk) → AsksFor n (wanted.Shift by elements) rest → Deed s n (enters_shift n by elements)
  EntersAgreement : (flag : ℤ) (rest : Reply → Walk) → AsksFor n (wanted.Agree flag) rest
      → Deed s n (enters_agreement n flag)
  EntersDeletion : (g : GroupId) (stamp : Stamp) (rest : Reply → Walk) → AsksFor n (wanted.Delete g stamp) rest → refusal_of s n (wanted.Delete g stamp) ≡ None
      → Deed s n (enters_deletion n g stamp)
  EntersClosing : (g : GroupId) (rest : Reply → Walk) → AsksFor n (wanted.Close g) rest → refusal_of s n (wanted.Close g) ≡ None
      → Deed s n (enters_closing s (frozen g n) g)
  EntersCreation : (g : GroupId) (start : Stamp) (depth : ℕ) (rest : Reply → Walk) → AsksFor n (wanted.Group g start depth) rest
      → refusal_of s n (wanted.Group g start depth) ≡ None → Deed s n (enters_creation n g)
  -- calls without a ballot
  PassesBarrier : (rest : Reply → Walk) → IsIn n Gathering wanted.Barrier rest → are_gathered n wanted.Barrier ≡ true → Deed s n (passes n rest)
  Reduces : (op : Op) (own : ℤ) (rest : Reply → Walk) → IsIn n Gathering (wanted.Reduce op own) rest → are_gathered n (wanted.Reduce op own) ≡ true
      → Deed s n (returns_number n rest (total op n (wanted.Reduce op own)))
  Shifts : (by : ℕ) (elements : List ℤ) (rest : Reply → Walk) → IsIn n Gathering (wanted.Shift by elements) rest
      → are_gathered n (wanted.Shift by elements) ≡ true
      → Deed s n (returns_elements n rest (numbers_of n (wanted.Shift by elements) (source_of (size n) by (my_place n))))
  GathersNoMore : (w : Wanted) (rest : Reply → Walk) (error : Error) → Gathers w → IsIn n Gathering w rest → are_gathered n w ≡ false → gathering_error n w ≡ Some error
      → Deed s n (returns_error n error)
  -- votes
  VotesNo : (core : Core) (w : Wanted) (rest : Reply → Walk) (wait : Wait) (no : Slot) → IsIn n core w rest → WaitsIn s n core w wait → Unheard wait no
      → Deed s n (casts n no)
  VotesYes : (g : GroupId) (rest : Reply → Walk) → IsIn n Sharing (wanted.Close g) rest → AllHeard (share_wait s n (n.groups g.0)) → Deed s n (casts n slot.Yes)
  VotesFresh : (g : GroupId) (start : Stamp) (depth : ℕ) (rest : Reply → Walk) → IsIn n Telling (wanted.Group g start depth) rest
      → AllHeard (tell_wait n (creation g start depth)) → first_known n (creation g start depth) ≡ None → Deed s n (casts n slot.Fresh)
  HelpsAndGives : (g : GroupId) (start : Stamp) (depth : ℕ) (rest : Reply → Walk) (k : Known) → IsIn n Telling (wanted.Group g start depth) rest
      → AllHeard (tell_wait n (creation g start depth)) → first_known n (creation g start depth) ≡ Some k → MayHelp n g start depth k
      → Deed s n (helps_and_gives s n (creation g start depth) k)
  VotesFinding : (g : GroupId) (start : Stamp) (depth : ℕ) (rest : Reply → Walk) (k : Known) → IsIn n Giving (wanted.Group g start depth) rest
      → first_known n (creation g start depth) ≡ Some k → AllHeard (give_wait s n (creation g start depth) k)
      → Deed s n (casts n (finding (own_snapshots s n (creation g start depth) k)))
  -- decisions of calls
  ReturnsError : (w : Wanted) (rest : Reply → Walk) (phase : Phase) (slots : List Slot) (error : Error) → IsIn n (Balloting phase) w rest
      → (turn_in (call_ballot n w) n phase).poll ≡ poll.Decided slots → first_error (members n) slots ≡ Some error → Deed s n (returns_error n error)
  ReturnsBits : (flag : ℤ) (rest : Reply → Walk) (slots : List Slot) → IsAffirmed n (wanted.Agree flag) rest slots → Deed s n (returns_number n rest (common_bits slots))
  Closes : (g : GroupId) (rest : Reply → Walk) (slots : List Slot) → IsAffirmed n (wanted.Close g) rest slots → Deed s n (closes s n g rest)
  Creates : (g : GroupId) (start : Stamp) (depth : ℕ) (rest : Reply → Walk) (slots : List Slot) → IsAffirmed n (wanted.Group g start depth) rest slots
      → Deed s n (creates s n (creation g start depth) rest slots)
  Deletes : (g : GroupId) (stamp : Stamp) (rest : Reply → Walk) (slots : List Slot) → IsAffirmed n (wanted.Delete g stamp) rest slots
      → Deed s n (deletes n g stamp rest)
