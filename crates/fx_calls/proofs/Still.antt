-- No processes wait for one another for ever whose bodies ask nothing but barriers, reductions and agreements: where nothing is under way, all losses are told and all are quiet, each has ended.
use Rattle.std.proofs.Common.{◌≡◌, ◌≢◌, ◌<◌, ◌≤◌, ◌⊎◌, inl, inr, ℕ, zero, suc, ◌==◌, Bool, true, false, ◌&&◌, ◌||◌, cond, List, [], ◌∷◌, ◌++◌, length, min, Option, Some, None, arith, refl, sym, ap, subst, ◌∙◌}
use Rattle.std.specs.Prelude.{ℤ, if◌then◌else◌, not, nat_lt, is_some, is_none}
use Rattle.std.specs.List.{list_any}
use Rattle.std.proofs.lemmas.Bool.Decides.{nat_tests}
use Rattle.std.proofs.lemmas.Bool.{cases_eq, cases_lt, cond-true}
use Rattle.fx_base.specs.Sets.{those_below}
use Rattle.fx_ballot.specs.declared.heard.Heard.{Heard}
use Rattle.fx_ballot.specs.declared.poll.Poll.TheVariants as poll
use Rattle.fx_ballot.specs.Laws.{vote_of, past, AllEntered, Attentive, Unblocked}
use Rattle.fx_ballot.specs.Names.{seat_at, seat_of, has}
use Rattle.fx_ballot.specs.Seats.{NoVote, NoEstimate, Awaits}
use Rattle.fx_ballot.specs.Turn.{Phase, Outside, Voting, Round, Decided, Message, Turn}
use Rattle.fx_ballot.specs.World.{Member, is_outside, may_leave, stays, among, turn_of}
use Rattle.fx_ballot.specs.World as ballot
use Rattle.fx_ballot.proofs.Face.{Sound}
use Rattle.fx_ballot.proofs.Names.{has_seat, names_apart, names_members, names_seats}
use Rattle.fx_ballot.proofs.Readings.{turn_waits}
use Rattle.fx_ballot.proofs.Trails.{hear_all}
use Rattle.fx_ballot.proofs.Runs.{Kept}
use Rattle.fx_ballot.proofs.Waiting.{clear_links_enable}
use Rattle.fx_comm.specs.Seats.{Seat, has_place}
use Rattle.fx_link.specs.declared.slot.Slot.{Slot}
use Rattle.fx_script.specs.declared.job.Job.{Job}
use Rattle.fx_walk.specs.declared.wanted.Wanted.{Wanted}
use Rattle.fx_walk.specs.declared.wanted.Wanted.TheVariants as wanted
use Rattle.fx_walk.specs.Plan.{common_of}
use Rattle.fx_walk.specs.State.{State}
use Rattle.fx_walk.specs.Walk.{TextPlace, Walk, Asks, Reply}
use Rattle.fx_machine.specs.Gathering.{own_part, part_of, due_from, are_gathered, gathering_error}
use Rattle.fx_machine.specs.Nodes as nodes
use Rattle.fx_machine.specs.Nodes.{Node, Stage, Core, Begins, Joining, Arrived, Walking, Calling, Failed, Over, Gathering, Sharing, Telling, Giving, Balloting, has_ended, members, size, proc_at, my_place}
use Rattle.fx_machine.specs.Reading as reading
use Rattle.fx_machine.specs.Reading.{Ballot, only, first_read, part_in, next_ballot, seen, turn_in, has_left}
use Rattle.fx_machine.specs.Setup.{Setup}
use Rattle.fx_machine.specs.Steps.{may_help_out}
use Rattle.fx_machine.specs.Texts.{Text}
use Rattle.fx_machine.specs.Waits.{call_ballot}
use Rattle.fx_fleet.specs.Runs.{job_setup}
use Rattle.fx_fleet.specs.World.{World, up}
use Rattle.fx_calm.proofs.Lists.{equal}
use Rattle.fx_calm.proofs.Standing.{noted}
use Rattle.fx_legal.specs.Ledger.{Chapter, Ledger, ranks_of, comm_in, comm_of}
use Rattle.fx_legal.specs.Legal.{ledger_of}
use Rattle.fx_legal.specs.Stands.{is_killed}
use Rattle.fx_losses.specs.Eras.{Era, first_era, era_of, is_last, next_of, next_era, era}
use Rattle.fx_losses.specs.Losses.{IsStill}
use Rattle.fx_losses.proofs.Actions.{distinct, kept_here, seat_here}
use Rattle.fx_losses.proofs.Closings.{era_places}
use Rattle.fx_losses.proofs.Counts.{era_below}
use Rattle.fx_losses.proofs.Eras.{era_dead}
use Rattle.fx_losses.proofs.Sizes.{Sized}
use Rattle.fx_losses.proofs.Moves.{some_era}
use Rattle.fx_losses.proofs.Plays.{polled}
use Rattle.fx_losses.proofs.Readings.{lost_heard, vote_shown, turn_shown}
use Rattle.fx_losses.proofs.Shows.{phase_of, is_later, is_placed, is_decided, EndedAs, up_parts, now_at}
use Rattle.fx_losses.proofs.Still.{place_of}
use Rattle.fx_losses.proofs.Stuck.{no_next}
use Rattle.fx_losses.proofs.Tests.{or_left, or_right, or_itself, first_of, second_of, both_true, less_is}
use Rattle.fx_losses.proofs.Texts.{append_none, of_epoch, knowing, shown}
use Rattle.fx_losses.proofs.Turns.{same_turn}
use Rattle.fx_calls.specs.Bodies.{IsOfParts}
use Rattle.fx_calls.proofs.Agreeing.{same_number, agreed, vote_reads, own_vote_reads, estimate_reads, sound_here}
use Rattle.fx_calls.proofs.Causes.{Caused, asked_at}
use Rattle.fx_calls.proofs.Causing.{agrees_so}
use Rattle.fx_calls.proofs.Delivered.{has_part, stream}
use Rattle.fx_calls.proofs.Legally.{Legally}
use Rattle.fx_calls.proofs.Linked.{own_chapter}
use Rattle.fx_calls.proofs.Missing.{part_readable, plan_before, part_is_due, parts_alike}
use Rattle.fx_calls.proofs.Phases.{decided_inside, decided_past, left_past, not_outside, call_phase, balloting_at, is_in_call}
use Rattle.fx_calls.proofs.Places as places
use Rattle.fx_calls.proofs.Places.{era_apart, procs_distinct, same_length}
use Rattle.fx_calls.proofs.Plans.{PlanAt, some_of, entered_alike}
use Rattle.fx_calls.proofs.Polled.{NodePolls, is_balloting, in_poll}
use Rattle.fx_calls.proofs.Sayings.{has_vote, has_estimate, seat_in}
use Rattle.fx_calls.proofs.Stepped.{AtPlan, Inside}
use Rattle.fx_calls.proofs.Stuck.{Stuck, Polls, Idles, Gathers, Agrees, stuck, awaited, none_absent}

-- ---- lists

any_of : (test : ℕ → Bool) (qs : List ℕ) (q : ℕ) → has qs q ≡ true → test q ≡ true → list_any test qs ≡ true
any_of test [] q e t = absurd (let bad : false ≡ true = e in cc)
any_of test (x ∷ xs) q e t = of (any_of test xs q) (x == q) refl e
  where
    of : (has xs q ≡ true → test q ≡ true → list_any test xs ≡ true) → (b : Bool) → (x == q) ≡ b → (b || has xs q) ≡ true → (test x || list_any test xs) ≡ true
    of later true same h = or_left (test x) (list_any test xs) (ap test (equal x q same) ∙ t)
    of later false same h = or_right (test x) (list_any test xs) (later h t)

any_member : (test : ℕ → Bool) (seats : List Seat) (q : ℕ) → has_place seats q ≡ true → test q ≡ true → list_any test (nodes.procs_of seats) ≡ true
any_member test [] q e t = absurd (let bad : false ≡ true = e in cc)
any_member test (x ∷ xs) q e t = of (any_member test xs q) (x.1.0 == q) refl e
  where
    of : (has_place xs q ≡ true → test q ≡ true → list_any test (nodes.procs_of xs) ≡ true) → (b : Bool) → (x.1.0 == q) ≡ b → (b || has_place xs q) ≡ true
        → (test x.1.0 || list_any test (nodes.procs_of xs)) ≡ true
    of later true same h = or_left (test x.1.0) (list_any test (nodes.procs_of xs)) (ap test (equal x.1.0 q same) ∙ t)
    of later false same h = or_right (test x.1.0) (list_any test (nodes.procs_of xs)) (later h t)

first_seat : (seats : List Seat) → 0 < length seats → (o : ℕ) × (has_place seats o ≡ true)
first_seat [] less = absurd (omega (arith, less))
first_seat (x ∷ xs) less = (x.1.0, or_itself x.1.0 (has_place xs x.1.0))

those_some : (f : ℕ → Bool) (n m : ℕ) → m < n → f m ≡ true → 0 < length (those_below f n)
unfolding those_below
those_some f zero m less e = absurd (omega (arith, less))
those_some f (suc n) m less e = elim (cases_eq m n) [
  | inl same ↦ last (those_below f n) (f n) (ap f (sym same) ∙ e)
  | inr ne ↦ more (those_below f n) (cond (f n) (n ∷ []) []) (those_some f n m (omega (arith, ne, less)) e)
]
  where
    last : (xs : List ℕ) (b : Bool) → b ≡ true → 0 < length (xs ++ cond b (n ∷ []) [])
    last [] true i = omega arith
    last [] false i = absurd (let bad : false ≡ true = i in cc)
    last (x ∷ xs) b i = omega arith

    more : (xs ys : List ℕ) → 0 < length xs → 0 < length (xs ++ ys)
    more [] ys i = absurd (omega (arith, i))
    more (x ∷ xs) ys i = omega arith

-- ---- tests

some_is : (o : Option Slot) → (o ≡ None → ⊥) → is_some o ≡ true
some_is None h = absurd (h refl)
some_is (Some x) h = refl

-- one's own part, or another that was read, is there
no_clash : {X : Type 0} (b : Bool) (mine : X) (o : Option X) → is_none (if b then Some mine else o) ≡ true → (b ≡ true → ⊥) × (is_some o ≡ true → ⊥)
no_clash true mine o none = absurd (let bad : false ≡ true = none in cc)
no_clash false mine None none = (λ i. let bad : false ≡ true = i in cc, λ i. let bad : false ≡ true = i in cc)
no_clash false mine (Some x) none = absurd (let bad : false ≡ true = none in cc)

-- one that is up in this epoch and has entered this call of it
record Came (s : Setup) (w : World) (l : Ledger) (d k q : ℕ) : Type 0 where
  pub there : up s w q ≡ true
  pub epoch : (w.node q).epoch ≡ d
  pub asked : Wanted
  pub entered : l.entered d k q ≡ Some asked

module _ (job : Job) (ps : List ℕ) (w : World) (caused : Caused job ps w) (small : (q : ℕ) → w.killed q ≡ false → (w.node q).epoch < 4294967295) (st : IsStill (job_setup job) w) where
  abbrev is : Legally job ps w
  is = caused.legally

  abbrev l : Ledger
  l = ledger_of job (noted w.items)

  abbrev s : Setup
  s = job_setup job

  abbrev z : ℕ → ballot.World
  z = is.worlds

  abbrev fate : ℕ → Option (List Slot)
  fate = is.fate

  -- ---- each process that is up is stuck

  stuck_at : (q : ℕ) → up s w q ≡ true → Stuck (w.node q)
  stuck_at q on =
      let k = up_parts s w q on in
      stuck job l q (w.node q) (l.stands q) (λ flag phase slots at. agreed job w z fate l is.polls q on is.shows is.linked is.polled flag phase at slots) (less_is (w.node q).epoch 4294967295 (small q k.1)) k.2 (is.linked.stands q k.1) (is.stepped.nodes q k.1).at (caused.causes.asks q k.1) (no_next s w q on (st.quiet q on))

  -- ---- what it has heard

  lost_not : (q c d : ℕ) (x : Era) → era (first_era s) fate d ≡ Some x → w.killed c ≡ false → (((z d).member q).heard c).lost ≡ false
  lost_not q c d x at living = of (((z d).member q).heard c).lost refl
    where
      of : (b : Bool) → (((z d).member q).heard c).lost ≡ b → (((z d).member q).heard c).lost ≡ false
      of false e = e
      of true e =
          let dead = ((is.shows.owes d).kept x at).sound.messages.knows.lost q c e in
          absurd (let bad : true ≡ false = sym ((is.shows.at d).living c ∙ ap not living) ∙ dead in cc)

  -- of one that lives it has heard the vote
  hears_vote : (q c : ℕ) → up s w q ≡ true → q ≢ c → c < s.procs → w.killed c ≡ false → (((z (w.node q).epoch).member q).heard c).vote ≡ vote_of (z (w.node q).epoch) c
  hears_vote q c on ne low living =
      let k = up_parts s w q on in
      let d = (w.node q).epoch in
      let sees = names_members (w.node q).present q ∙ (is.shows.sane q k.1).mine k.0 in
      let trail = (kept_here s w z fate q on is.shows).caught.trail q c sees ne (lost_not q c (w.node q).epoch (era_of (w.node q)) (is.shows.here q k.1) living) in
      let line : (z (w.node q).epoch).link c q ≡ [] = (is.shows.at (w.node q).epoch).link c q (λ same. ne (sym same)) on ∙ ap (of_epoch (suc (w.node q).epoch)) (st.clear c q low (λ same. ne (sym same)) on) in
      ap (λ (xs : List Message). (hear_all xs (((z (w.node q).epoch).member q).heard c)).vote) (sym line) ∙ trail.vote

  left_seen : (q c : ℕ) → up s w q ≡ true → q ≢ c → w.killed c ≡ false → has (w.node q).present c ≡ true → is_some (vote_of (z (w.node q).epoch) c) ≡ true → has_left (w.node q) c ≡ true
  left_seen q c on ne living there voted =
      both_true (has (w.node q).present c) (is_some (reading.vote_of (next_ballot (w.node q)) (w.node q) c)) there
      (ap is_some (vote_shown s w z fate q on is.shows is.truthful c ∙ hears_vote q c on ne (era_below s fate (w.node q).epoch (era_of (w.node q)) c (is.shows.here q (up_parts s w q on).1) there) living) ∙ voted)

  -- a spare isn't stuck where a member that lives has voted
  not_idle : (q c : ℕ) → up s w q ≡ true → may_help_out (w.node q) ≡ false → q ≢ c → w.killed c ≡ false → has (w.node q).present c ≡ true → is_some (vote_of (z (w.node q).epoch) c) ≡ true → ⊥
  not_idle q c on help ne living there voted =
      let bad : true ≡ false = sym (or_left (list_any (has_left (w.node q)) (w.node q).present) (list_any (w.node q).lost (members (w.node q)))
      (any_of (has_left (w.node q)) (w.node q).present c there (left_seen q c on ne living there voted))) ∙ help in cc

  -- in its own round it would say its estimate
  own_round_not : (q : ℕ) → up s w q ≡ true → (o : ℕ) (held : List Slot) → (w.node q).stage ≡ Joining (Round o held) → (turn_in (next_ballot (w.node q)) (w.node q) (Round o held)).poll ≡ poll.NotYet → o ≡ seat_of (w.node q).present q → ⊥
  own_round_not q on o held stage yet same =
      ((turn_waits (length (w.node q).present) (seat_of (w.node q).present q) (λ i. shown (suc (w.node q).epoch) (w.node q) (seat_at (w.node q).present i)) (Round o held)).0
      (ap (λ (x : Turn). x.poll) (sym (turn_shown s w z fate q on is.shows is.truthful (Round o held))) ∙ yet)).1 same

  own_call_round_not : (q : ℕ) → up s w q ≡ true → (o : ℕ) (held : List Slot) → (w.node q).stage ≡ Calling (Balloting (Round o held)) → o ≡ seat_of (members (w.node q)) q → ⊥
  own_call_round_not q on o held at same = of (stuck_at q on)
    where
      of : Stuck (w.node q) → ⊥
      of (Polls phase stage yet) = let bad : false ≡ true = sym (ap is_in_call stage) ∙ ap is_in_call at in cc
      of (Idles stage place help) = let bad : false ≡ true = sym (ap is_in_call stage) ∙ ap is_in_call at in cc
      of (Gathers place v state rest stage walk parts waiting calm) = let bad : false ≡ true = sym (ap is_balloting stage) ∙ ap is_balloting at in cc
      of (Agrees place flag state rest phase stage walk yet) =
          ((turn_waits (length (members (w.node q))) (seat_of (members (w.node q)) (w.node q).me) (λ i. seen (call_ballot (w.node q) (wanted.Agree flag)) (w.node q) (seat_at (members (w.node q)) i)) (Round o held)).0
          (ap (λ (x : Phase). (turn_in (call_ballot (w.node q) (wanted.Agree flag)) (w.node q) x).poll) (ap call_phase (sym at ∙ stage)) ∙ yet)).1 (same ∙ ap (seat_of (members (w.node q))) (sym (is.shows.sane q (up_parts s w q on).1).me))

  -- ---- one epoch, before which nobody is up

  module _ (p : ℕ) (on : up s w p ≡ true) (low : (q : ℕ) → up s w q ≡ true → (w.node p).epoch ≤ (w.node q).epoch) where
    abbrev n : Node
    n = w.node p

    abbrev d : ℕ
    d = n.epoch

    k : (p < s.procs) × (w.killed p ≡ false) × (has_ended n ≡ false)
    k = up_parts s w p on

    era_here : era (first_era s) fate d ≡ Some (era_of n)
    era_here = is.shows.here p k.1

    kept : Kept (length n.present) (seat_at n.present) (z d)
    kept = kept_here s w z fate p on is.shows

    same_era : (q : ℕ) → w.killed q ≡ false → (w.node q).epoch ≡ d → era_of (w.node q) ≡ era_of n
    same_era q living same = some_era (era_of (w.node q)) (era_of n) (sym (is.shows.here q living) ∙ ap (era (first_era s) fate) same ∙ era_here)

    -- a member that lives has decided, or is up in this epoch
    member_phase : (c : ℕ) → has n.present c ≡ true → w.killed c ≡ false → (is_decided ((z d).member c).phase ≡ true) ⊎ ((up s w c ≡ true) × ((w.node c).epoch ≡ d))
    member_phase c there living = of (has_ended (w.node c)) refl
      where
        ended_at : has_ended (w.node c) ≡ true → (w.node c).epoch < d → ⊥
        ended_at over before =
            let last : EndedAs fate (w.node c) = is.shows.over c living over in
            let behind : era (first_era s) fate (suc (w.node c).epoch) ≡ None =
            ap (λ (a : Option Era). next_era (w.node c).epoch a (fate (w.node c).epoch)) (is.shows.here c living) ∙ ap (λ (a : Option (List Slot)). next_era (w.node c).epoch (Some (era_of (w.node c))) a) last.is
            ∙ cond-true {A = Option Era} (is_last (w.node c).epoch (era_of (w.node c)) last.slots) None (Some (next_of (w.node c).epoch (era_of (w.node c)) last.slots)) last.ends in
            let bad : Some (era_of n) ≡ None = sym era_here ∙ era_dead (first_era s) fate (suc (w.node c).epoch) d (omega (arith, before)) behind in cc

        is_up : has_ended (w.node c) ≡ false → up s w c ≡ true
        is_up goes = all_three (nat_lt c s.procs) (w.killed c) (has_ended (w.node c)) (less_is c s.procs (era_below s fate d (era_of n) c era_here there)) living goes
          where
            all_three : (a b e : Bool) → a ≡ true → b ≡ false → e ≡ false → (a && (not b && not e)) ≡ true
            all_three a b e x y v = grind (arith, nat_tests)

        of : (b : Bool) → has_ended (w.node c) ≡ b → (is_decided ((z d).member c).phase ≡ true) ⊎ ((up s w c ≡ true) × ((w.node c).epoch ≡ d))
        of true over = elim (cases_lt d (w.node c).epoch) [
          | inl above ↦ inl (((is.shows.at d).fits c living).later above)
          | inr below ↦ elim (cases_eq (w.node c).epoch d) [
            | inl same ↦ inl (((is.shows.at d).fits c living).ended over same)
            | inr ne ↦ absurd (ended_at over (omega (arith, below, ne)))
          ]
        ]
        of false goes = elim (cases_eq (w.node c).epoch d) [
          | inl same ↦ inr (is_up goes, same)
          | inr ne ↦ let least : d ≤ (w.node c).epoch = low c (is_up goes) in inl (((is.shows.at d).fits c living).later (omega (arith, least, ne)))
        ]

    living_of : (c : ℕ) → stays ((z d).member c) ≡ true → w.killed c ≡ false
    living_of c here = of (w.killed c) refl
      where
        of : (b : Bool) → w.killed c ≡ b → w.killed c ≡ false
        of false e = e
        of true e = absurd (let bad : true ≡ false = sym (first_of ((z d).member c).living (not ((z d).member c).gone) here) ∙ (is.shows.at d).living c ∙ ap not e in cc)

    dead_of : (c : ℕ) → ((z d).member c).living ≡ false → w.killed c ≡ true
    dead_of c dead = of (w.killed c) refl
      where
        of : (b : Bool) → w.killed c ≡ b → w.killed c ≡ true
        of true e = e
        of false e = absurd (let bad : false ≡ true = sym dead ∙ (is.shows.at d).living c ∙ ap not e in cc)

    voted_inside : (c : ℕ) → is_outside ((z d).member c).phase ≡ false → is_some (vote_of (z d) c) ≡ true
    voted_inside c inside = some_is (vote_of (z d) c) (λ none. let bad : true ≡ false = sym (ap is_outside (kept.sound.messages.knows.entered c none)) ∙ inside in cc)

    -- the phase of one that polls in this epoch
    polls_phase : (q : ℕ) → up s w q ≡ true → (w.node q).epoch ≡ d → (phase : Phase) → (w.node q).stage ≡ Joining phase → ((z d).member q).phase ≡ phase
    polls_phase q up_q same phase at = now_at s d w (z d) (is.shows.at d) q up_q same ∙ ap phase_of at

    polls_inside : (q : ℕ) → up s w q ≡ true → (phase : Phase) → (w.node q).stage ≡ Joining phase → is_outside phase ≡ false
    polls_inside q up_q phase at = ((is.shows.sane q (up_parts s w q up_q).1).inside phase at).0

    -- ---- a call, where nobody of the epoch is in an earlier one

    comm_here : comm_in l d ≡ n.comm
    comm_here = let y = own_chapter job w is.worlds is.fate l p is.shows is.linked k.1 in ap comm_of y.at ∙ sym y.like.comm

    module _ (core : Core) (place : TextPlace) (v : Wanted) (state : State) (rest : Reply → Walk) (at : n.stage ≡ Calling core) (walk : n.walk ≡ Asks place v state rest)
        (first : (q : ℕ) → up s w q ≡ true → (w.node q).epoch ≡ d → (theirs : Core) → (w.node q).stage ≡ Calling theirs → (w.node q).calls < n.calls → ⊥) where
      abbrev inside : Inside job l p n core
      inside = subst (AtPlan job l p n) at (is.stepped.nodes p k.1).at

      entered : l.entered d n.calls p ≡ Some v
      entered = inside.entered place v state rest walk

      alike : (u : Wanted) (q : ℕ) → l.entered d n.calls q ≡ Some u → common_of u ≡ common_of v
      alike u q asked = entered_alike job l d n.calls u v (is.stepped.entries d n.calls q u asked) (is.stepped.entries d n.calls p v entered)

      has_own : has_place n.comm p ≡ true
      has_own = (is.shows.sane p k.1).placed (ap is_placed at)

      seated : (c : ℕ) → c < length (members n) → has_place n.comm (proc_at n c) ≡ true
      seated c low_seat = sym (places.has_seat n.comm (proc_at n c)) ∙ has_seat (members n) c low_seat

      seat_of_it : (c : ℕ) → c < length (members n) → seat_of (members n) (proc_at n c) ≡ c
      seat_of_it c low_seat = ((names_seats (members n) (procs_distinct n.comm (era_apart s fate d (era_of n) era_here))).process c low_seat).1

      present : (q : ℕ) → has_place n.comm q ≡ true → has n.present q ≡ true
      present q placed = era_places s fate d (era_of n) q ((is.shows.sane p k.1).later (ap is_later at)) era_here placed

      below : (q : ℕ) → has_place n.comm q ≡ true → q < s.procs
      below q placed = era_below s fate d (era_of n) q era_here (present q placed)

      -- who is in a call has come to this one
      in_call : (q : ℕ) → has_place n.comm q ≡ true → up s w q ≡ true → (w.node q).epoch ≡ d → (theirs : Core) (their_place : TextPlace) (u : Wanted) (their_state : State) (their_rest : Reply → Walk) → (w.node q).stage ≡ Calling theirs
          → (w.node q).walk ≡ Asks their_place u their_state their_rest → Came s w l d n.calls q
      in_call q placed up_q here theirs their_place u their_state their_rest their_stage their_walk = elim (cases_lt (w.node q).calls n.calls) [
        | inl earlier ↦ absurd (first q up_q here theirs their_stage earlier)
        | inr later ↦ elim (cases_eq (w.node q).calls n.calls) [
          | inl equals ↦ record {
            there = up_q;
            epoch = here;
            asked = u;
            entered = subst (λ (j : ℕ). l.entered d j q ≡ Some u) equals (subst (λ (o : ℕ). l.entered o (w.node q).calls q ≡ Some u) here (their_own.entered their_place u their_state their_rest their_walk));
          }
          | inr ne ↦
              let mine = inside.calls in
              let own_calls = their_own.calls in
              let plan = plan_before job l d their_own.before (suc inside.before) their_own.keeping.plan (omega (arith, later, ne, mine, own_calls)) (subst (λ (o : ℕ). PlanAt job l o their_own.before their_own.keeping.plan) here their_own.keeping.at) in
              let asked = some_of (l.entered d (suc inside.before) q) (asked_at (l.entered d (suc inside.before)) (comm_in l d) q plan.1.2 (ap (λ (seats : List Seat). has_place seats q) comm_here ∙ placed)) in
              record { there = up_q; epoch = here; asked = asked.0; entered = ap (λ (j : ℕ). l.entered d j q) inside.calls ∙ asked.1 }
        ]
      ]
        where
          their_own : Inside job l q (w.node q) theirs
          their_own = subst (AtPlan job l q (w.node q)) their_stage (is.stepped.nodes q (up_parts s w q up_q).1).at

      -- and so has each other place that isn't lost and hasn't left
      came : (q : ℕ) → has_place n.comm q ≡ true → p ≢ q → (n.lost q ≡ true → ⊥) → (has_left n q ≡ true → ⊥) → Came s w l d n.calls q
      came q placed apart unlost stayed = of (w.killed q) refl
        where
          gone : w.killed q ≡ false → is_outside ((z d).member q).phase ≡ false → ⊥
          gone living voted = stayed (left_seen p q on apart living (present q placed) (voted_inside q voted))

          stands : w.killed q ≡ false → up s w q ≡ true → (w.node q).epoch ≡ d → Stuck (w.node q) → Came s w l d n.calls q
          stands living up_q here (Polls phase stage yet) = absurd (gone living (ap is_outside (polls_phase q up_q here phase stage) ∙ polls_inside q up_q phase stage))
          stands living up_q here (Idles stage none help) = absurd (
              let bad : false ≡ true = sym none ∙ ap (has_place (w.node q).comm) (is.shows.sane q living).me
              ∙ ap (λ (o : Era). has_place o.comm q) (same_era q living here) ∙ placed in cc)
          stands living up_q here (Gathers their_place u their_state their_rest stage their_walk parts waiting calm) = in_call q placed up_q here Gathering their_place u their_state their_rest stage their_walk
          stands living up_q here (Agrees their_place flag their_state their_rest phase stage their_walk yet) = in_call q placed up_q here (Balloting phase) their_place (wanted.Agree flag) their_state their_rest stage their_walk

          of : (b : Bool) → w.killed q ≡ b → Came s w l d n.calls q
          of true dead = absurd (unlost (st.told q p (below q placed) dead on))
          of false living = elim (member_phase q (present q placed) living) [
            | inl decided ↦ absurd (gone living (decided_inside ((z d).member q).phase decided))
            | inr both ↦ stands living both.0 both.1 (stuck_at q both.0)
          ]

      -- ---- a call in which it gathers

      module _ (parts : IsOfParts v) (waiting : are_gathered n v ≡ false) (calm : gathering_error n v ≡ None) where
        missed : (x : ℕ) × (x < size n) × (is_none (part_of n v x) ≡ true)
        missed = awaited n v waiting

        -- whose part isn't there
        abbrev missing : ℕ
        missing = proc_at n missed.0

        abbrev heard : Option (List ℤ)
        heard = first_read (λ t. only (λ values. length values == due_from v (size n) (my_place n) missed.0) (part_in n.epoch n.calls t)) (n.texts missing)

        neither : ((missed.0 == my_place n) ≡ true → ⊥) × (is_some (first_read (λ t. only (λ values. length values == due_from v (size n) (my_place n) missed.0) (part_in n.epoch n.calls t)) (n.texts missing)) ≡ true → ⊥)
        neither = no_clash (missed.0 == my_place n) (own_part v) heard missed.2

        absent : (n.lost missing ≡ true → ⊥) × (has_left n missing ≡ true → ⊥)
        absent = none_absent n v missed.0 calm missed.1 missed.2

        below_all : missed.0 < length (members n)
        below_all = let few = missed.1 in let long = same_length n.comm in omega (arith, few, long)

        missing_placed : has_place n.comm missing ≡ true
        missing_placed = seated missed.0 below_all

        missing_below : missing < s.procs
        missing_below = below missing missing_placed

        apart : p ≢ missing
        apart same = neither.0 (same_number missed.0 (my_place n) (sym (seat_of_it missed.0 below_all) ∙ ap (seat_of (members n)) (sym same ∙ sym (is.shows.sane p k.1).me)))

        -- who entered the call has given its part
        not_entered : w.killed missing ≡ false → (u : Wanted) → l.entered d n.calls missing ≡ Some u → ⊥
        not_entered living u asked =
            let line : w.link missing p ≡ [] = st.clear missing p missing_below (λ same. apart (sym same)) on in
            let whole = is.delivered.there missing p d n.calls u living on (λ same. apart (sym same)) asked (parts_alike v u parts (alike u missing asked)) (ap (λ (seats : List Seat). has_place seats p) comm_here ∙ has_own) in
            let there : has_part d n.calls (n.texts missing) ≡ true =
            ap (has_part d n.calls) (sym (ap (λ (ts : List Text). n.texts missing ++ ts) line ∙ append_none (n.texts missing))) ∙ whole in
            neither.1 (part_readable l d n.calls missing p (λ values. length values == due_from v (size n) (my_place n) missed.0) (n.texts missing) (is.spoken.texts p missing)
            (part_is_due job l d n.calls n p missing missed.0 v parts comm_here (procs_distinct n.comm (era_apart s fate d (era_of n) era_here)) (is.shows.sane p k.1).me has_own missed.1 refl
            (is.stepped.entries d n.calls) entered) there)

        never_gathers : ⊥
        never_gathers = let c = came missing missing_placed apart absent.0 absent.1 in not_entered (up_parts s w missing c.there).1 c.asked c.entered

      -- ---- an agreement, where nobody in its ballot isn't as far

      module _ (flag : ℤ) (asks : v ≡ wanted.Agree flag) (old : Phase) (stage : n.stage ≡ Calling (Balloting old)) (waits : (turn_in (call_ballot n (wanted.Agree flag)) n old).poll ≡ poll.NotYet)
          (ahead : (q : ℕ) → up s w q ≡ true → (w.node q).epoch ≡ d → (w.node q).calls ≡ n.calls → (theirs : Phase) → (w.node q).stage ≡ Calling (Balloting theirs) → place_of theirs < place_of old → ⊥) where
        abbrev this : Ballot
        this = call_ballot n (wanted.Agree flag)

        abbrev poll_here : ballot.World
        poll_here = is.polls d n.calls

        sound : Sound (length (members n)) (seat_at (members n)) poll_here
        sound = sound_here job w z fate l is.polls p on is.shows is.linked is.polled flag old stage

        -- who came has voted
        came_voted : (q : ℕ) → Came s w l d n.calls q → is_some (vote_of poll_here q) ≡ true
        came_voted q c =
            let f = agrees_so c.asked (alike c.asked q c.entered ∙ ap common_of asks) in
            caused.voted d n.calls q f.0 (c.entered ∙ ap Some f.1)

        -- what is kept of it is all that it sent here
        all_here : (q : ℕ) → has_place n.comm q ≡ true → p ≢ q → stream w q p ≡ n.texts q
        all_here q placed apart = ap (λ (ts : List Text). n.texts q ++ ts) (st.clear q p (below q placed) (λ same. apart (sym same)) on) ∙ append_none (n.texts q)

        own_here : has_place (comm_in l d) p ≡ true
        own_here = ap (λ (seats : List Seat). has_place seats p) comm_here ∙ has_own

        no_vote : (c : ℕ) → c < length (members n) → NoVote (seen this n (seat_at (members n) c)) → ⊥
        no_vote c low_seat none =
            let q = seat_at (members n) c in
            let placed = seated c low_seat in
            let apart : p ≢ seat_at (members n) c = λ same. let bad : true ≡ false = sym (own_vote_reads job w z fate l is.polls p on is.shows is.linked is.polled flag old stage) ∙ ap (λ (o : ℕ). is_some (reading.vote_of this n o)) same ∙ ap is_some none.0 in cc in
            let came_too = came q placed apart (λ dead. let bad : true ≡ false = sym dead ∙ none.1 in cc) (λ gone. let bad : true ≡ false = sym gone ∙ none.2 in cc) in
            let said = caused.said.votes q p d n.calls (up_parts s w q came_too.there).1 on (λ same. apart (sym same)) own_here (came_voted q came_too) in
            let reads = vote_reads job w z fate l is.polls p on is.shows is.linked is.polled flag old stage q (ap (has_vote d n.calls) (sym (all_here q placed apart)) ∙ said) in
            let bad : true ≡ false = sym reads ∙ ap is_some none.0 in cc

        -- a member that is in this ballot is past that round
        past_there : (q r : ℕ) (own : List Slot) → old ≡ Round r own → seat_of (members n) q ≡ r → up s w q ≡ true → (w.node q).epoch ≡ d → (w.node q).calls ≡ n.calls → (theirs : Phase) → (w.node q).stage ≡ Calling (Balloting theirs)
            → is_outside theirs ≡ false → past r theirs ≡ true
        past_there q r own round seat up_q epoch calls Outside at_it entered_it = absurd (let bad : true ≡ false = entered_it in cc)
        past_there q r own round seat up_q epoch calls Voting at_it entered_it = absurd (ahead q up_q epoch calls Voting at_it (subst (λ (o : Phase). 0 < place_of o) (sym round) (omega arith)))
        past_there q r own round seat up_q epoch calls (Decided held) at_it entered_it = refl
        past_there q r own round seat up_q epoch calls (Round o held) at_it entered_it = elim (cases_lt r o) [
          | inl beyond ↦ less_is r o beyond
          | inr within ↦ elim (cases_eq o r) [
            | inl same ↦ absurd (own_call_round_not q up_q o held at_it (same ∙ sym seat ∙ ap (λ (x : Era). seat_of (nodes.procs_of x.comm) q) (sym (same_era q (up_parts s w q up_q).1 epoch))))
            | inr ne ↦ absurd (ahead q up_q epoch calls (Round o held) at_it (subst (λ (x : Phase). suc o < place_of x) (sym round) (omega (arith, within, ne))))
          ]
        ]

        -- and so is one that came, in this ballot or behind it
        is_past : (q r : ℕ) (own : List Slot) → old ≡ Round r own → seat_of (members n) q ≡ r → Came s w l d n.calls q → past r (poll_here.member q).phase ≡ true
        is_past q r own round seat c = of (in_poll (w.node q) n.calls) refl
          where
            polls_too : NodePolls is.polls q (w.node q)
            polls_too = is.polled.nodes q (up_parts s w q c.there).1

            entered_it : is_outside (poll_here.member q).phase ≡ false
            entered_it = not_outside (poll_here.member q).phase (λ out. let bad : true ≡ false = sym (came_voted q c) ∙ ap is_some (sound.messages.knows.outside q out) in cc)

            of : (b : Bool) → in_poll (w.node q) n.calls ≡ b → past r (poll_here.member q).phase ≡ true
            of false out = left_past r (poll_here.member q).phase (ap (λ (e : ℕ). may_leave ((is.polls e n.calls).member q).phase) (sym c.epoch) ∙ polls_too.free n.calls out) entered_it
            of true in_it =
                let b = balloting_at (w.node q).stage (first_of (is_balloting (w.node q).stage) (n.calls == (w.node q).calls) in_it) in
                let calls : n.calls ≡ (w.node q).calls = equal n.calls (w.node q).calls (second_of (is_balloting (w.node q).stage) (n.calls == (w.node q).calls) in_it) in
                let x = polls_too.balloting b.0 b.1 in
                ap (λ (e : ℕ). past r ((is.polls e n.calls).member q).phase) (sym c.epoch) ∙ ap (λ (e : ℕ). past r ((is.polls (w.node q).epoch e).member q).phase) calls ∙ ap (past r) x.stands
                ∙ past_there q r own round seat c.there c.epoch (sym calls) b.0 b.1 x.inside

        no_estimate : (r : ℕ) (own : List Slot) → old ≡ Round r own → r < length (members n) → r ≢ seat_of (members n) n.me → NoEstimate (seen this n (seat_at (members n) r)) → ⊥
        no_estimate r own round low_seat ne none =
            let q = seat_at (members n) r in
            let placed = seated r low_seat in
            let apart : p ≢ seat_at (members n) r = λ same. ne (sym (seat_of_it r low_seat) ∙ ap (seat_of (members n)) (sym same ∙ sym (is.shows.sane p k.1).me)) in
            let came_too = came q placed apart (λ dead. let bad : true ≡ false = sym dead ∙ none.1 in cc) (λ gone. let bad : true ≡ false = sym gone ∙ none.2 in cc) in
            let spoken = sound.spoken.said r low_seat (is_past q r own round (seat_of_it r low_seat) came_too) in
            let said = caused.said.estimates q p d n.calls (up_parts s w q came_too.there).1 on (λ same. apart (sym same)) own_here spoken in
            let reads = estimate_reads job w z fate l is.polls p on is.shows is.linked is.polled flag old stage q (has_seat (members n) r low_seat) (ap (has_estimate d n.calls (seat_in l d q)) (sym (all_here q placed apart)) ∙ said) in
            let bad : true ≡ false = sym reads ∙ ap is_some none.0 in cc

        never_waits : ⊥
        never_waits = by old refl ((turn_waits (length (members n)) (seat_of (members n) n.me) (λ j. seen this n (seat_at (members n) j)) old).0 waits)
          where
            by : (phase : Phase) → old ≡ phase → Awaits (length (members n)) (seat_of (members n) n.me) (λ j. seen (call_ballot n (wanted.Agree flag)) n (seat_at (members n) j)) phase → ⊥
            by Outside same awaits = let bad : true ≡ false = sym (ap is_outside same) ∙ ((is.polled.nodes p k.1).balloting old stage).inside in cc
            by Voting same awaits = no_vote awaits.0 awaits.1 awaits.2
            by (Round r own) same awaits = no_estimate r own same awaits.0 awaits.1 awaits.2
            by (Decided own) same awaits = awaits

    -- ---- a ballot in which somebody polls, and nobody of the epoch is in a call

    module _ (none_calling : (q : ℕ) → up s w q ≡ true → (w.node q).epoch ≡ d → (core : Core) → (w.node q).stage ≡ Calling core → ⊥) (old : Phase) (at : (w.node p).stage ≡ Joining old) (waits : (turn_in (next_ballot (w.node p)) (w.node p) old).poll ≡ poll.NotYet) where
      phase_here : ((z d).member p).phase ≡ old
      phase_here = polls_phase p on refl old at

      has_voted : is_some (vote_of (z d) p) ≡ true
      has_voted = voted_inside p (ap is_outside phase_here ∙ polls_inside p on old at)

      -- no spare of the epoch is stuck, since it has heard this vote
      no_idler : (q : ℕ) → up s w q ≡ true → (w.node q).epoch ≡ d → (w.node q).stage ≡ Arrived → may_help_out (w.node q) ≡ false → ⊥
      no_idler q up_q same arrived help =
          let kq = up_parts s w q up_q in
          not_idle q p up_q help (λ eq. let bad : true ≡ false = ap is_later (sym arrived ∙ ap (λ (o : ℕ). (w.node o).stage) eq ∙ at) in cc) k.1
          (ap (λ (o : Era). has o.who p) (same_era q kq.1 same) ∙ (is.shows.sane p k.1).mine k.0) (ap (λ (o : ℕ). is_some (vote_of (z o) p)) same ∙ has_voted)

      all_entered : AllEntered (length n.present) (seat_at n.present) (z d)
      all_entered c less here = of (member_phase (seat_at n.present c) (has_seat n.present c less) (living_of (seat_at n.present c) here))
        where
          of : (is_decided ((z d).member (seat_at n.present c)).phase ≡ true) ⊎ ((up s w (seat_at n.present c) ≡ true) × ((w.node (seat_at n.present c)).epoch ≡ d)) → is_outside ((z d).member (seat_at n.present c)).phase ≡ false
          of (inl decided) = decided_inside ((z d).member (seat_at n.present c)).phase decided
          of (inr both) = by (stuck_at (seat_at n.present c) both.0)
            where
              by : Stuck (w.node (seat_at n.present c)) → is_outside ((z d).member (seat_at n.present c)).phase ≡ false
              by (Polls phase stage yet) = ap is_outside (polls_phase (seat_at n.present c) both.0 both.1 phase stage) ∙ polls_inside (seat_at n.present c) both.0 phase stage
              by (Idles stage place help) = absurd (no_idler (seat_at n.present c) both.0 both.1 stage help)
              by (Gathers place v state rest stage walk parts waiting calm) = absurd (none_calling (seat_at n.present c) both.0 both.1 Gathering stage)
              by (Agrees place flag state rest phase stage walk yet) = absurd (none_calling (seat_at n.present c) both.0 both.1 (Balloting phase) stage)

      attentive : Attentive (length n.present) (seat_at n.present) (z d) p
      attentive = record {
        clear = λ c less ne. (is.shows.at d).link (seat_at n.present c) p ne on ∙ ap (of_epoch (suc d)) (st.clear (seat_at n.present c) p (era_below s fate d (era_of n) (seat_at n.present c) era_here (has_seat n.present c less)) ne on);
        told = λ c less ne dead.
            ap (λ (x : Heard). x.lost) ((is.shows.at d).heard p (seat_at n.present c) on) ∙ (lost_heard (suc d) (n.texts (seat_at n.present c)) (knowing (n.lost (seat_at n.present c)))).0
            ∙ st.told (seat_at n.present c) p (era_below s fate d (era_of n) (seat_at n.present c) era_here (has_seat n.present c less)) (dead_of (seat_at n.present c) dead) on;
      }

      -- Where nobody polls who isn't as far, it isn't held back.
      module _ (earlier : (q : ℕ) → up s w q ≡ true → (w.node q).epoch ≡ d → (phase : Phase) → (w.node q).stage ≡ Joining phase → place_of phase < place_of old → ⊥) where
        further : (r : ℕ) (slots : List Slot) → old ≡ Round r slots → r < length n.present → stays ((z d).member (seat_at n.present r)) ≡ true → past r ((z d).member (seat_at n.present r)).phase ≡ true
        further r slots round less here = of (member_phase q (has_seat n.present r less) (living_of q here))
          where
            q : ℕ
            q = seat_at n.present r

            of : (is_decided ((z d).member (seat_at n.present r)).phase ≡ true) ⊎ ((up s w (seat_at n.present r) ≡ true) × ((w.node (seat_at n.present r)).epoch ≡ d)) → past r ((z d).member (seat_at n.present r)).phase ≡ true
            of (inl decided) = decided_past r ((z d).member (seat_at n.present r)).phase decided
            of (inr both) = by (stuck_at (seat_at n.present r) both.0)
              where
                own_seat : seat_of n.present (seat_at n.present r) ≡ r
                own_seat = ((names_seats n.present (distinct s w z fate p on is.shows)).process r less).1

                at_round : (phase : Phase) → (w.node (seat_at n.present r)).stage ≡ Joining phase → (turn_in (next_ballot (w.node (seat_at n.present r))) (w.node (seat_at n.present r)) phase).poll ≡ poll.NotYet → past r phase ≡ true
                at_round Outside stage yet = absurd (let bad : true ≡ false = polls_inside (seat_at n.present r) both.0 Outside stage in cc)
                at_round Voting stage yet = absurd (earlier (seat_at n.present r) both.0 both.1 Voting stage (subst (λ (o : Phase). 0 < place_of o) (sym round) (omega arith)))
                at_round (Decided held) stage yet = refl
                at_round (Round o held) stage yet = elim (cases_lt r o) [
                  | inl beyond ↦ less_is r o beyond
                  | inr within ↦ elim (cases_eq o r) [
                    | inl same ↦ absurd (own_round_not (seat_at n.present r) both.0 o held stage yet
                        (same ∙ sym own_seat ∙ ap (λ (x : Era). seat_of x.who (seat_at n.present r)) (sym (same_era (seat_at n.present r) (up_parts s w (seat_at n.present r) both.0).1 both.1))))
                    | inr ne ↦ absurd (earlier (seat_at n.present r) both.0 both.1 (Round o held) stage (subst (λ (x : Phase). suc o < place_of x) (sym round) (omega (arith, within, ne))))
                  ]
                ]

                by : Stuck (w.node (seat_at n.present r)) → past r ((z d).member (seat_at n.present r)).phase ≡ true
                by (Polls phase stage yet) = ap (past r) (polls_phase (seat_at n.present r) both.0 both.1 phase stage) ∙ at_round phase stage yet
                by (Idles stage place help) = absurd (no_idler (seat_at n.present r) both.0 both.1 stage help)
                by (Gathers place v state rest stage walk parts waiting calm) = absurd (none_calling (seat_at n.present r) both.0 both.1 Gathering stage)
                by (Agrees place flag state rest phase stage walk yet) = absurd (none_calling (seat_at n.present r) both.0 both.1 (Balloting phase) stage)

        seat : (seat_of n.present p < length n.present) × (seat_at n.present (seat_of n.present p) ≡ p)
        seat = seat_here s w z fate p on is.shows

        unblocked : Unblocked (length n.present) (seat_at n.present) (z d) (seat_of n.present p)
        unblocked = record {
          here = ap (λ (o : ℕ). stays ((z d).member o)) seat.1 ∙ both_true ((z d).member p).living (not ((z d).member p).gone) ((is.shows.at d).living p ∙ ap not k.1) (ap not ((is.shows.at d).gone p));
          round = λ r slots phase less ne here. further r slots (sym phase_here ∙ ap (λ (o : ℕ). ((z d).member o).phase) (sym seat.1) ∙ phase) less here;
        }

        polls_not : ⊥
        polls_not =
            let same = same_turn s w z fate p on is.shows old at _ poll.NotYet (polled s w z fate p on is.shows is.truthful old poll.NotYet waits) in
            clear_links_enable (length n.present) (seat_at n.present) (z d) (names_apart n.present (distinct s w z fate p on is.shows)) kept (seat_of n.present p) seat.0 all_entered
            (subst (Attentive (length n.present) (seat_at n.present) (z d)) (sym seat.1) attentive) unblocked
            (ap (λ (o : ℕ). (turn_of (length n.present) (seat_at n.present) (seat_of n.present p) ((z d).member o)).poll) seat.1 ∙ ap (λ (x : Turn). x.poll) same)

  -- so nobody is in a call of an epoch before which nobody is up, call by call, and in the ballot of a call phase by phase
  abbrev NoneBefore : ℕ → ℕ → Type 0
  NoneBefore e calls = (q : ℕ) → up s w q ≡ true → (w.node q).epoch ≡ e → (core : Core) → (w.node q).stage ≡ Calling core → (w.node q).calls < calls → ⊥

  none_agrees : (e : ℕ) → ((q : ℕ) → up s w q ≡ true → e ≤ (w.node q).epoch) → (calls : ℕ) → NoneBefore e calls → (far p : ℕ) → up s w p ≡ true → (w.node p).epoch ≡ e → (w.node p).calls ≡ calls
      → (phase : Phase) → (w.node p).stage ≡ Calling (Balloting phase) → place_of phase < far → ⊥
  none_agrees e low calls first zero p on same here phase at behind = omega (arith, behind)
  none_agrees e low calls first (suc far) p on same here phase at behind = of (λ q up_q there here_too own own_at before. none_agrees e low calls first far q up_q (there ∙ same) (here_too ∙ here) own own_at (omega (arith, before, behind))) (stuck_at p on)
    where
      of : ((q : ℕ) → up s w q ≡ true → (w.node q).epoch ≡ (w.node p).epoch → (w.node q).calls ≡ (w.node p).calls → (own : Phase) → (w.node q).stage ≡ Calling (Balloting own) → place_of own < place_of phase → ⊥) → Stuck (w.node p) → ⊥
      of ahead (Polls theirs stage yet) = let bad : false ≡ true = sym (ap is_in_call stage) ∙ ap is_in_call at in cc
      of ahead (Idles stage place help) = let bad : false ≡ true = sym (ap is_in_call stage) ∙ ap is_in_call at in cc
      of ahead (Gathers place v state rest stage walk parts waiting calm) = let bad : false ≡ true = sym (ap is_balloting stage) ∙ ap is_balloting at in cc
      of ahead (Agrees place flag state rest old stage walk yet) =
          let phase_is : phase ≡ old = ap call_phase (sym at ∙ stage) in
          never_waits p on (λ q up_q. subst (λ (o : ℕ). o ≤ (w.node q).epoch) (sym same) (low q up_q)) (Balloting old) place (wanted.Agree flag) state rest stage walk
          (λ q up_q there core own before. first q up_q (there ∙ same) core own (subst (λ (o : ℕ). (w.node q).calls < o) here before)) flag refl old stage yet
          (λ q up_q there here_too own own_at before. ahead q up_q there here_too own own_at (subst (λ (o : Phase). place_of own < place_of o) (sym phase_is) before))

  none_calls : (e : ℕ) → ((q : ℕ) → up s w q ≡ true → e ≤ (w.node q).epoch) → (far p : ℕ) → up s w p ≡ true → (w.node p).epoch ≡ e → (core : Core) → (w.node p).stage ≡ Calling core → (w.node p).calls < far → ⊥
  none_calls e low zero p on same core at behind = omega (arith, behind)
  none_calls e low (suc far) p on same core at behind = of (λ q up_q there theirs own before. none_calls e low far q up_q there theirs own (omega (arith, before, behind))) (stuck_at p on)
    where
      of : NoneBefore e (w.node p).calls → Stuck (w.node p) → ⊥
      of first (Polls phase stage yet) = let bad : false ≡ true = sym (ap is_in_call stage) ∙ ap is_in_call at in cc
      of first (Idles stage place help) = let bad : false ≡ true = sym (ap is_in_call stage) ∙ ap is_in_call at in cc
      of first (Gathers place v state rest stage walk parts waiting calm) =
          never_gathers p on (λ q up_q. subst (λ (o : ℕ). o ≤ (w.node q).epoch) (sym same) (low q up_q)) Gathering place v state rest stage walk (λ q up_q there. first q up_q (there ∙ same)) parts waiting calm
      of first (Agrees place flag state rest phase stage walk yet) = none_agrees e low (w.node p).calls first (suc (place_of phase)) p on same refl phase stage (omega arith)

  no_caller : (p : ℕ) → ((q : ℕ) → up s w q ≡ true → (w.node p).epoch ≤ (w.node q).epoch) → (q : ℕ) → up s w q ≡ true → (w.node q).epoch ≡ (w.node p).epoch → (core : Core) → (w.node q).stage ≡ Calling core → ⊥
  no_caller p low q on same core at = none_calls (w.node p).epoch low (suc (w.node q).calls) q on same core at (omega arith)

  -- ---- nobody is stuck

  -- one that polls, where nobody polls who isn't as far
  least_polls : (p : ℕ) → up s w p ≡ true → ((q : ℕ) → up s w q ≡ true → (w.node p).epoch ≤ (w.node q).epoch) → (phase : Phase) → (w.node p).stage ≡ Joining phase
      → ((q : ℕ) → up s w q ≡ true → (w.node q).epoch ≡ (w.node p).epoch → (own : Phase) → (w.node q).stage ≡ Joining own → place_of own < place_of phase → ⊥) → ⊥
  least_polls p on low phase at earlier = of (stuck_at p on)
    where
      of : Stuck (w.node p) → ⊥
      of (Idles stage place help) = let bad : true ≡ false = ap is_later (sym stage ∙ at) in cc
      of (Gathers place v state rest stage walk parts waiting calm) = let bad : true ≡ false = ap is_later (sym stage ∙ at) in cc
      of (Agrees place flag state rest old stage walk yet) = let bad : true ≡ false = ap is_later (sym stage ∙ at) in cc
      of (Polls old stage yet) =
          let same : phase ≡ old = ap phase_of (sym at ∙ stage) in
          polls_not p on low (no_caller p low) old stage yet (λ q up_q here own own_at before. earlier q up_q here own own_at (subst (λ (o : Phase). place_of own < place_of o) (sym same) before))

  none_polls : (e : ℕ) → ((q : ℕ) → up s w q ≡ true → e ≤ (w.node q).epoch) → (far p : ℕ) → up s w p ≡ true → (w.node p).epoch ≡ e → (phase : Phase) → (w.node p).stage ≡ Joining phase → place_of phase < far → ⊥
  none_polls e low zero p on same phase at less = omega (arith, less)
  none_polls e low (suc far) p on same phase at less =
      least_polls p on (λ q up_q. subst (λ (o : ℕ). o ≤ (w.node q).epoch) (sym same) (low q up_q)) phase at
      (λ q up_q here own own_at before. none_polls e low far q up_q (here ∙ same) own own_at (omega (arith, before, less)))

  module _ (few : (job_setup job).procs ≤ 32) (some : 1 ≤ ranks_of job) (sized : Sized job (ledger_of job (noted w.items))) where
    -- somebody has a place
    place_holder : (p : ℕ) → up s w p ≡ true → (o : ℕ) × (has_place (w.node p).comm o ≡ true)
    place_holder p on =
        let k = up_parts s w p on in
        let y = own_chapter job w z fate (ledger_of job (noted w.items)) p is.shows is.linked k.1 in
        let there : y.chapter.present p ≡ true = present_of p y.chapter (y.chapter.present p) refl (λ gone. (y.like.rest p ((is.shows.sane p k.1).mine k.0) gone).0) (is.linked.killed p ∙ k.1) in
        let count : 0 < length (those_below y.chapter.present 32) = those_some y.chapter.present 32 p (let low : p < s.procs = k.0 in omega (arith, low, few)) there in
        let size : length y.chapter.comm ≡ min (ranks_of job) (length (those_below y.chapter.present 32)) = (sized.each (w.node p).epoch y.chapter y.at).size in
        let seat = first_seat y.chapter.comm (omega (arith, size, count, some)) in
        (seat.0, ap (λ (c : List Seat). has_place c seat.0) y.like.comm ∙ seat.1)
      where
        present_of : (p : ℕ) (c : Chapter) (b : Bool) → c.present p ≡ b → (c.present p ≡ false → is_killed ((ledger_of job (noted w.items)).stands p) ≡ true) → is_killed ((ledger_of job (noted w.items)).stands p) ≡ false → c.present p ≡ true
        present_of p c true e gone living = e
        present_of p c false e gone living = absurd (let bad : true ≡ false = sym (gone e) ∙ living in cc)

    -- a spare isn't stuck: it was told that somebody who has a place is lost, or has heard that one's join
    none_idles : (p : ℕ) → up s w p ≡ true → ((q : ℕ) → up s w q ≡ true → (w.node p).epoch ≤ (w.node q).epoch) → (w.node p).stage ≡ Arrived → has_place (w.node p).comm (w.node p).me ≡ false → may_help_out (w.node p) ≡ false → ⊥
    none_idles p on low arrived none help = of (w.killed holder.0) refl
      where
        holder : (o : ℕ) × (has_place (w.node p).comm o ≡ true)
        holder = place_holder p on

        kp : (p < s.procs) × (w.killed p ≡ false) × (has_ended (w.node p) ≡ false)
        kp = up_parts s w p on

        member_of : has (w.node p).present holder.0 ≡ true
        member_of = era_places s fate (w.node p).epoch (era_of (w.node p)) holder.0 ((is.shows.sane p kp.1).later (ap is_later arrived)) (is.shows.here p kp.1) holder.1

        apart : p ≢ holder.0
        apart same = let bad : false ≡ true = sym none ∙ ap (has_place (w.node p).comm) ((is.shows.sane p kp.1).me ∙ same) ∙ holder.1 in cc

        voted : w.killed holder.0 ≡ false → is_outside ((z (w.node p).epoch).member holder.0).phase ≡ false
        voted living = by (member_phase p on low holder.0 member_of living)
          where
            by : (is_decided ((z (w.node p).epoch).member holder.0).phase ≡ true) ⊎ ((up s w holder.0 ≡ true) × ((w.node holder.0).epoch ≡ (w.node p).epoch)) → is_outside ((z (w.node p).epoch).member holder.0).phase ≡ false
            by (inl decided) = decided_inside ((z (w.node p).epoch).member holder.0).phase decided
            by (inr both) = stands (stuck_at holder.0 both.0)
              where
                stands : Stuck (w.node holder.0) → is_outside ((z (w.node p).epoch).member holder.0).phase ≡ false
                stands (Polls phase stage yet) = ap is_outside (polls_phase p on low holder.0 both.0 both.1 phase stage) ∙ polls_inside p on low holder.0 both.0 phase stage
                stands (Idles stage place helps) = absurd (
                    let living_too = (up_parts s w holder.0 both.0).1 in
                    let bad : false ≡ true = sym place ∙ ap (has_place (w.node holder.0).comm) (is.shows.sane holder.0 living_too).me
                    ∙ ap (λ (x : Era). has_place x.comm holder.0) (same_era p on low holder.0 living_too both.1) ∙ holder.1 in cc)
                stands (Gathers place v state rest stage walk parts waiting calm) = absurd (no_caller p low holder.0 both.0 both.1 Gathering stage)
                stands (Agrees place flag state rest phase stage walk yet) = absurd (no_caller p low holder.0 both.0 both.1 (Balloting phase) stage)

        of : (b : Bool) → w.killed holder.0 ≡ b → ⊥
        of true dead =
            let bad : true ≡ false = sym (or_right (list_any (has_left (w.node p)) (w.node p).present) (list_any (w.node p).lost (members (w.node p)))
            (any_member (w.node p).lost (w.node p).comm holder.0 holder.1 (st.told holder.0 p (era_below s fate (w.node p).epoch (era_of (w.node p)) holder.0 (is.shows.here p kp.1) member_of) dead on))) ∙ help in cc
        of false living = not_idle p holder.0 on help apart living member_of (voted_inside p on low holder.0 (voted living))

    -- so nobody is up, epoch by epoch
    all_later : (e q : ℕ) → up s w q ≡ true → e ≤ (w.node q).epoch
    all_later zero q on = omega arith
    all_later (suc e) q on = elim (cases_eq (w.node q).epoch e) [
      | inl same ↦ absurd (none_here e (all_later e) q on same (stuck_at q on))
      | inr ne ↦ let least : e ≤ (w.node q).epoch = all_later e q on in omega (arith, least, ne)
    ]
      where
        none_here : (e : ℕ) → ((q : ℕ) → up s w q ≡ true → e ≤ (w.node q).epoch) → (q : ℕ) → up s w q ≡ true → (w.node q).epoch ≡ e → Stuck (w.node q) → ⊥
        none_here e low q on same (Polls phase stage yet) = none_polls e low (suc (place_of phase)) q on same phase stage (omega arith)
        none_here e low q on same (Idles stage place help) = none_idles q on (λ o up_o. subst (λ (x : ℕ). x ≤ (w.node o).epoch) (sym same) (low o up_o)) stage place help
        none_here e low q on same (Gathers place v state rest stage walk parts waiting calm) = none_calls e low (suc (w.node q).calls) q on same Gathering stage (omega arith)
        none_here e low q on same (Agrees place flag state rest phase stage walk yet) = none_calls e low (suc (w.node q).calls) q on same (Balloting phase) stage (omega arith)

    pub nobody_up : (q : ℕ) → up s w q ≡ false
    nobody_up q = of (up s w q) refl
      where
        of : (b : Bool) → up s w q ≡ b → up s w q ≡ false
        of false e = e
        of true e =
            let late : suc (w.node q).epoch ≤ (w.node q).epoch = all_later (suc (w.node q).epoch) q e in
            absurd (omega (arith, late))
