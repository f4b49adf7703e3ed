-- Each deed of a node in a calm run does what it owes; most deeds can't be.
use Rattle.std.proofs.lemmas.Bool.Decides.{nat_tests}
use Rattle.std.proofs.Common.{arith, ◌≡◌, ◌<◌, ℕ, zero, suc, Bool, true, false, ◌&&◌, ◌||◌, List, [], ◌∷◌, Option, Some, None, is_some, refl, sym, ap, subst, ◌∙◌, inl}
use Rattle.std.specs.Prelude.{if◌then◌else◌, nat_lt}
use Rattle.std.specs.List.{list_any}
use Rattle.fx_ballot.specs.declared.poll.Poll.{Poll}
use Rattle.fx_ballot.specs.declared.poll.Poll.TheVariants as poll
use Rattle.fx_ballot.specs.Names.{has}
use Rattle.fx_ballot.specs.Turn.{Phase}
use Rattle.fx_comm.specs.Seats.{Seat, has_place}
use Rattle.fx_link.specs.declared.slot.Slot.{Slot}
use Rattle.fx_link.specs.declared.slot.Slot.TheVariants as slot
use Rattle.fx_script.specs.declared.job.Job.{Job}
use Rattle.fx_walk.specs.declared.wanted.Wanted.{Wanted}
use Rattle.fx_walk.specs.Lengths.{OnlyPrints}
use Rattle.fx_walk.specs.Walk.{Walk, Reply}
use Rattle.fx_machine.specs.Ballots.{voters, arrived, repairs, ends, is_end, joined, all_final}
use Rattle.fx_machine.specs.Nodes.{Node, Act, Stage, Core, Begins, Joining, Arrived, Walking, Calling, Failed, members}
use Rattle.fx_machine.specs.Reading.{next_ballot, turn_in, vote_of, has_left, is_join}
use Rattle.fx_machine.specs.Steps.{may_help_out}
use Rattle.fx_fleet.specs.Runs.{AsksNothing, job_setup}
use Rattle.fx_deeds.specs.Deeds.{AsksFor, IsIn, OfEpoch, OfCall, Reason, First, HelpsOut, HasFailed, IsDone, Deed, Joins, Moves, Speaks, EndsAll, Repairs, Inits, PassesOn, PrintsOut, IsRefused, Attaches, Stores, Commits, Restores, EntersBarrier, EntersReduction, EntersShift, EntersAgreement, EntersDeletion, EntersClosing, EntersCreation, PassesBarrier, Reduces, Shifts, GathersNoMore, VotesNo, VotesYes, VotesFresh, HelpsAndGives, VotesFinding, ReturnsError, ReturnsBits, Closes, Creates, Deletes}
use Rattle.fx_legal.specs.Ledger.{Ledger, procs_of}
use Rattle.fx_legal.specs.Rules.{MayJoin, IsStirred}
use Rattle.fx_legal.specs.Stands as stand
use Rattle.fx_legal.specs.Stands.{shown}
use Rattle.fx_calm.specs.Calm.{seats_in, vote_in}
use Rattle.fx_calm.proofs.Seats.{has_all}
use Rattle.fx_calm.proofs.Standing.{IsEarly, Waits, Settled, AtStage, Agreed, IsCalm, Book, Owes}
use Rattle.fx_calm.proofs.Turns.{Agrees, vote_is, agrees}
use Rattle.fx_calm.proofs.Steps.{moves_owes, speaks_owes, passes_owes, prints_owes, join_owes}
use Rattle.fx_calm.proofs.Begins.{Peace, present_begun, begins_owes, arrives, inits_owes, is_the_end, ends_owes}

-- ---- a spare that was stirred

none_any : (test : ℕ → Bool) (qs : List ℕ) → ((q : ℕ) → test q ≡ false) → list_any test qs ≡ false
none_any test [] none = refl
none_any test (q ∷ qs) none = rw (none q) (none_any test qs none)

any_found : (test : ℕ → Bool) (qs : List ℕ) → list_any test qs ≡ true → (q : ℕ) × (test q ≡ true)
any_found test [] e = absurd cc
any_found test (q ∷ qs) e = here (test q) refl e (any_found test qs)
  where
    here : (b : Bool) → test q ≡ b → (b || list_any test qs) ≡ true → (list_any test qs ≡ true → (q : ℕ) × (test q ≡ true)) → (q : ℕ) × (test q ≡ true)
    here true is e rest = (q, is)
    here false is e rest = rest e

left_of : (a b : Bool) → (a && b) ≡ true → a ≡ true
left_of a b e = grind (arith, nat_tests, e)

right_of : (a b : Bool) → (a && b) ≡ true → b ≡ true
right_of a b e = grind (arith, nat_tests, e)

first_alone : (a b : Bool) → (a || b) ≡ true → b ≡ false → a ≡ true
first_alone a b e none = grind (arith, nat_tests, e, none)

there_is : (o : Option Slot) → is_some o ≡ true → (x : Slot) × (o ≡ Some x)
there_is None e = absurd cc
there_is (Some x) e = (x, refl)

true_less : (a b : ℕ) → nat_lt a b ≡ true → a < b
true_less a b e = grind (arith, nat_tests, e)

stirred : (job : Job) (l : Ledger) (n : Node) → IsCalm job l n → Book job l → Settled job l n.me n.epoch → may_help_out n ≡ true → (q : ℕ) × IsStirred l 1 q
stirred job l n is book at may =
    let found = any_found (has_left n) n.present (first_alone _ (list_any n.lost (members n)) may (none_any n.lost (members n) is.lost)) in
    let there = there_is (vote_of (next_ballot n) n found.0) (right_of (has n.present found.0) (is_some (vote_of (next_ballot n) n found.0)) found.1) in
    let vote = vote_is job l n is found.0 there.0 there.1 in
    let few = true_less found.0 (procs_of job) (sym (has_all (procs_of job) found.0) ∙ ap (λ (who : List ℕ). has who found.0) (sym is.present)
    ∙ left_of (has n.present found.0) (is_some (vote_of (next_ballot n) n found.0)) found.1) in
    (found.0, inl (present_begun job l book at.begun found.0 few, ap is_some (ap (λ (e : ℕ). l.joined (suc e) found.0) (sym at.first) ∙ vote.1)))

-- ---- deeds

module _ (job : Job) (l : Ledger) (n : Node) (few : n.me < procs_of job) (asks : AsksNothing job) (is : IsCalm job l n) (book : Book job l) (peace : Peace l) where
  at_stage : (x : Stage) → n.stage ≡ x → AtStage job l n.me n.epoch n.walk x
  at_stage x e = subst (AtStage job l n.me n.epoch n.walk) e is.at

  -- no call is asked for, and it is in none
  asks_none : (w : Wanted) (rest : Reply → Walk) → AsksFor n w rest → ⊥
  asks_none w rest a = subst OnlyPrints a.walk (at_stage Walking a.stage).only

  in_none : (core : Core) (w : Wanted) (rest : Reply → Walk) → IsIn n core w rest → ⊥
  in_none core w rest i = at_stage (Calling core) i.stage

  joins_owe : (kind : Slot) → Reason n kind → Owes job l n (joined kind n)
  joins_owe kind (First at) =
      let h = at_stage Begins at in
      join_owes job l n slot.Start few is book (subst (IsEarly l) (sym h.0) tt) (subst (λ (e : ℕ). slot.Start ≡ vote_in job (suc e) n.me) (sym h.0) refl)
      (subst (MayJoin l (suc n.epoch) slot.Start) (sym h.1) (refl, ap suc h.0))
  joins_owe kind (HelpsOut at place may) =
      let h = at_stage Arrived at in
      let none : has_place (seats_in job) n.me ≡ false = ap (λ (c : List Seat). has_place c n.me) (sym is.comm) ∙ place in
      join_owes job l n slot.Spare few is book (subst (IsEarly l) (sym h.first) h.begun)
      (subst (λ (e : ℕ). slot.Spare ≡ vote_in job (suc e) n.me) (sym h.first) (subst (λ (b : Bool). slot.Spare ≡ (if b then slot.Final else slot.Spare)) (sym none) refl))
      (subst (MayJoin l (suc n.epoch) slot.Spare) (sym (h.spare none)) (refl, ap suc h.first, stirred job l n is book h may))
  joins_owe kind (HasFailed at) = absurd (at_stage Failed at)
  joins_owe kind (IsDone state at walk) =
      let h = at_stage Walking at in
      join_owes job l n slot.Final few is book (subst (IsEarly l) (sym h.first) h.begun)
      (subst (λ (e : ℕ). slot.Final ≡ vote_in job (suc e) n.me) (sym h.first) (subst (λ (b : Bool). slot.Final ≡ (if b then slot.Final else slot.Spare)) (sym h.seated) refl))
      (subst (MayJoin l (suc n.epoch) slot.Final) (sym (h.stand ∙ ap (λ (w : Walk). stand.Walking h.stay (shown w)) walk)) (refl, ap suc (h.first ∙ sym h.within)))

  polled : (phase : Phase) → n.stage ≡ Joining phase → (x : Poll) → (turn_in (next_ballot n) n phase).poll ≡ x → Agrees job l (suc n.epoch) (turn_in (next_ballot n) n phase).phase x
  polled phase at x e = subst (Agrees job l (suc n.epoch) (turn_in (next_ballot n) n phase).phase) e (agrees job l n is phase (at_stage (Joining phase) at).holds)

  ends_owe : (slots : List Slot) (phase : Phase) → Waits job l n.me n.epoch phase → Agreed job l (suc n.epoch) slots → is_end n slots ≡ true
      → (e : ℕ) → n.epoch ≡ e → IsEarly l e → Owes job l n (ends n)
  ends_owe slots phase w agreed done zero at early = absurd (let bad : false ≡ true = ap (λ (e : ℕ). nat_lt 0 e && all_final n slots) (sym at) ∙ done in cc)
  ends_owe slots phase w agreed done (suc zero) at early = ends_owes job l n phase slots few is book w at early (subst (λ (e : ℕ). Agreed job l (suc e) slots) at agreed)
  ends_owe slots phase w agreed done (suc (suc e)) at early = absurd early

  repairs_owe : (slots : List Slot) (phase : Phase) → Waits job l n.me n.epoch phase → Agreed job l (suc n.epoch) slots → is_end n slots ≡ false
      → (e : ℕ) → n.epoch ≡ e → IsEarly l e → Owes job l n (repairs (job_setup job) (arrived (voters (is_join (suc n.epoch)) n.present slots) n))
  repairs_owe slots phase w agreed go zero at early =
      let first : Agreed job l 1 slots = subst (λ (e : ℕ). Agreed job l (suc e) slots) at agreed in
      subst (λ (m : Node). Owes job l n (repairs (job_setup job) m)) (sym (arrives job l n slots is at first.votes))
      (begins_owes job l book peace slots first n is few w.state (w.stand ∙ ap (λ (e : ℕ). stand.Joined (suc e) w.state) at))
  repairs_owe slots phase w agreed go (suc zero) at early =
      let second : Agreed job l 2 slots = subst (λ (e : ℕ). Agreed job l (suc e) slots) at agreed in
      absurd (let bad : true ≡ false = sym (is_the_end job l n slots is at second.votes) ∙ go in cc)
  repairs_owe slots phase w agreed go (suc (suc e)) at early = absurd early

  pub deed_owes : (act : Act) → Deed (job_setup job) n act → Owes job l n act
  deed_owes act (Joins kind why within) = joins_owe kind why
  deed_owes act (Moves b at phase (OfEpoch own stage) e) =
      moves_owes job l n own (turn_in (next_ballot n) n own).phase is book (at_stage (Joining own) stage) (polled own stage poll.Moved e)
  deed_owes act (Moves b at phase (OfCall w rest own i) e) = absurd (in_none _ w rest i)
  deed_owes act (Speaks b at phase slots (OfEpoch own stage) e) =
      let both = polled own stage (poll.SendEstimate slots) e in
      speaks_owes job l n own (turn_in (next_ballot n) n own).phase slots is book (at_stage (Joining own) stage) both.1 both.0.votes
  deed_owes act (Speaks b at phase slots (OfCall w rest own i) e) = absurd (in_none _ w rest i)
  deed_owes act (EndsAll phase slots at e done) =
      let w = at_stage (Joining phase) at in ends_owe slots phase w (polled phase at (poll.Decided slots) e) done n.epoch refl w.early
  deed_owes act (Repairs phase slots at e go) =
      let w = at_stage (Joining phase) at in repairs_owe slots phase w (polled phase at (poll.Decided slots) e) go n.epoch refl w.early
  deed_owes act (Inits at place) = inits_owes job l n few asks is book (at_stage Arrived at) (ap (λ (c : List Seat). has_place c n.me) (sym is.comm) ∙ place)
  deed_owes act (PassesOn rest at e) = passes_owes job l n rest is book (at_stage Walking at) e at
  deed_owes act (PrintsOut printed rest at e) = prints_owes job l n printed rest few is book (at_stage Walking at) e at
  deed_owes act (IsRefused w rest r a e) = absurd (asks_none w rest a)
  deed_owes act (Attaches g m rest a may) = absurd (asks_none _ rest a)
  deed_owes act (Stores g m piece rest a may) = absurd (asks_none _ rest a)
  deed_owes act (Commits g rest a may) = absurd (asks_none _ rest a)
  deed_owes act (Restores g m stamp rest a may) = absurd (asks_none _ rest a)
  deed_owes act (EntersBarrier rest a) = absurd (asks_none _ rest a)
  deed_owes act (EntersReduction op own rest a) = absurd (asks_none _ rest a)
  deed_owes act (EntersShift by elements rest a) = absurd (asks_none _ rest a)
  deed_owes act (EntersAgreement flag rest a) = absurd (asks_none _ rest a)
  deed_owes act (EntersDeletion g stamp rest a may) = absurd (asks_none _ rest a)
  deed_owes act (EntersClosing g rest a may) = absurd (asks_none _ rest a)
  deed_owes act (EntersCreation g start depth rest a may) = absurd (asks_none _ rest a)
  deed_owes act (PassesBarrier rest i all) = absurd (in_none _ _ rest i)
  deed_owes act (Reduces op own rest i all) = absurd (in_none _ _ rest i)
  deed_owes act (Shifts by elements rest i all) = absurd (in_none _ _ rest i)
  deed_owes act (GathersNoMore w rest error kind i some e) = absurd (in_none _ w rest i)
  deed_owes act (VotesNo core w rest wait vote i at un) = absurd (in_none core w rest i)
  deed_owes act (VotesYes g rest i all) = absurd (in_none _ _ rest i)
  deed_owes act (VotesFresh g start depth rest i all none) = absurd (in_none _ _ rest i)
  deed_owes act (HelpsAndGives g start depth rest k i all known may) = absurd (in_none _ _ rest i)
  deed_owes act (VotesFinding g start depth rest k i known all) = absurd (in_none _ _ rest i)
  deed_owes act (ReturnsError w rest phase slots error i decided e) = absurd (in_none _ w rest i)
  deed_owes act (ReturnsBits flag rest slots i) = absurd (in_none _ _ rest i.within)
  deed_owes act (Closes g rest slots i) = absurd (in_none _ _ rest i.within)
  deed_owes act (Creates g start depth rest slots i) = absurd (in_none _ _ rest i.within)
  deed_owes act (Deletes g stamp rest slots i) = absurd (in_none _ _ rest i.within)
