-- Each deed of a node, where the body asks nothing, does what it owes to the ballots and to the journal.
use Rattle.std.proofs.Common.{◌≡◌, ◌≢◌, ◌<◌, ℕ, zero, suc, Bool, true, false, ◌&&◌, ◌||◌, ◌==◌, List, [], ◌∷◌, Option, Some, inl, inr, arith, refl, sym, ap, subst, ◌∙◌}
use Rattle.std.specs.Prelude.{if◌then◌else◌, nat_lt, is_some}
use Rattle.std.specs.List.{list_any}
use Rattle.std.proofs.lemmas.Bool.Decides.{nat_tests}
use Rattle.std.proofs.lemmas.Bool.{cases_eq}
use Rattle.fx_ballot.specs.declared.poll.Poll.TheVariants as poll
use Rattle.fx_ballot.specs.Laws.{vote_of}
use Rattle.fx_ballot.specs.Names.{has}
use Rattle.fx_ballot.specs.Turn.{Phase, Outside}
use Rattle.fx_ballot.specs.World.{put}
use Rattle.fx_ballot.specs.World as ballot
use Rattle.fx_check.specs.Facts.{facts_of}
use Rattle.fx_comm.specs.Seats.{Seat, has_place}
use Rattle.fx_item.specs.declared.item.Item.{Item}
use Rattle.fx_item.specs.declared.item.Item.TheVariants as item
use Rattle.fx_link.specs.declared.slot.Slot.{Slot}
use Rattle.fx_link.specs.declared.slot.Slot.TheVariants as slot
use Rattle.fx_script.specs.declared.job.Job.{Job}
use Rattle.fx_walk.specs.declared.printed.Printed.{Printed}
use Rattle.fx_walk.specs.declared.wanted.Wanted.{Wanted}
use Rattle.fx_walk.specs.Callbacks.{view_at_init, body_start, state_at}
use Rattle.fx_walk.specs.Along.{stop_of}
use Rattle.fx_walk.specs.Lengths.{OnlyPrints}
use Rattle.fx_walk.specs.State.{State, blank}
use Rattle.fx_walk.specs.Walk.{Walk, Ends, Passes, Prints, Reply}
use Rattle.fx_machine.specs.Ballots.{voters, joined, moves, speaks, repairs, ends, arrived, is_end}
use Rattle.fx_machine.specs.Nodes as nodes
use Rattle.fx_machine.specs.Nodes.{Node, Act, Stage, Core, Begins, Joining, Arrived, Walking, Calling, Failed, Over, has_ended, members, my_place, size, state_of, to_others}
use Rattle.fx_machine.specs.Numbers.{proc, epoch_no}
use Rattle.fx_machine.specs.Reading.{is_join, next_ballot, turn_in, has_left}
use Rattle.fx_machine.specs.Setup.{Setup}
use Rattle.fx_machine.specs.Steps.{inits, may_help_out, passes_on, prints}
use Rattle.fx_deeds.specs.Deeds.{AsksFor, IsIn, OfEpoch, OfCall, Reason, First, HelpsOut, HasFailed, IsDone, Deed, Joins, Moves, Speaks, EndsAll, Repairs, Inits, PassesOn, PrintsOut, IsRefused, Attaches, Stores, Commits, Restores, EntersBarrier, EntersReduction, EntersShift, EntersAgreement, EntersDeletion, EntersClosing, EntersCreation, PassesBarrier, Reduces, Shifts, GathersNoMore, VotesNo, VotesYes, VotesFresh, HelpsAndGives, VotesFinding, ReturnsError, ReturnsBits, Closes, Creates, Deletes}
use Rattle.fx_fleet.specs.Runs.{AsksNothing, job_setup}
use Rattle.fx_fleet.specs.World.{World, up}
use Rattle.fx_calm.proofs.Standing.{noted}
use Rattle.fx_calm.proofs.Steps.{key_same, key_other}
use Rattle.fx_legal.specs.Effects as effects
use Rattle.fx_legal.specs.Effects.{written, state_left}
use Rattle.fx_legal.specs.Groups.{at_key}
use Rattle.fx_legal.specs.Ledger.{Chapter, Ledger, comm_in, comm_of, is_in, role_in, procs_of}
use Rattle.fx_legal.specs.Legal.{GoesOn, written_all}
use Rattle.fx_legal.specs.Rules.{MayJoin, IsStirred, IsPrint}
use Rattle.fx_legal.specs.Stands as stand
use Rattle.fx_legal.specs.Stands.{Stand, is_killed}
use Rattle.fx_losses.specs.Eras.{Era, first_era, era_of, era}
use Rattle.fx_losses.proofs.Actions.{member, behind_join, join_vote, join_votes}
use Rattle.fx_losses.proofs.Turns.{after_turn, after_votes, shown_turn}
use Rattle.fx_losses.proofs.Closings.{kinds_now, lossy, may_repair, repair_links, may_ending, end_links}
use Rattle.fx_losses.proofs.Eras.{born}
use Rattle.fx_losses.proofs.Asides.{Aside, writes_aside}
use Rattle.fx_losses.proofs.Plays.{Plays, aside_plays, join_plays, polled, moves_plays, speaks_plays, ends_plays, repairs_plays}
use Rattle.fx_losses.proofs.Linked.{Linked, Links, Stance, stance}
use Rattle.fx_losses.proofs.Moves.{at_one, one_here, one_far, some_era}
use Rattle.fx_losses.specs.Losses.{RepairLosses}
use Rattle.fx_losses.proofs.Voted.{Kinds, kinds_same, votes_one, loss_owed, no_losses, inits_no_repairs}
use Rattle.fx_losses.proofs.Openings.{Wrote, standing, wrote_none, wrote_one, inits_wrote, in_body}
use Rattle.fx_losses.proofs.Readings.{left_joined}
use Rattle.fx_losses.proofs.Shows.{phase_of, is_begin, is_later, is_placed, role_after, Shows, Truthful, up_parts}
use Rattle.fx_losses.proofs.Standing.{Like, liked, like_on, HasBegun, Waits, Settled, InBody, OfStage, AtStage}
use Rattle.fx_losses.proofs.Tests.{both_true, less_is, not_first, or_itself, or_right, some_slot}

-- ---- what a deed owes

pub record Does (job : Job) (p : ℕ) (act : Act) (w : World) (z : ℕ → ballot.World) (fate : ℕ → Option (List Slot)) (l : Ledger) : Type 0 where
  pub plays : Plays (job_setup job) p act w z fate
  pub goes : GoesOn job l (noted act.items)
  pub links : Links job p act w plays.fate_now plays.after l (written_all job l (noted act.items))
  pub kills : (written_all job l (noted act.items)).kills ≡ l.kills
  pub kinds : Kinds (job_setup job) (at_one (w.node p).epoch plays.after z) plays.fate_now
  pub losses : RepairLosses job l (noted act.items)

any_found : (test : ℕ → Bool) (qs : List ℕ) → list_any test qs ≡ true → (q : ℕ) × (test q ≡ true)
any_found test [] e = absurd (let bad : false ≡ true = e in cc)
any_found test (q ∷ qs) e = here (any_found test qs) (test q) refl e
  where
    here : (list_any test qs ≡ true → (q : ℕ) × (test q ≡ true)) → (b : Bool) → test q ≡ b → (b || list_any test qs) ≡ true → (q : ℕ) × (test q ≡ true)
    here rest true is e = (q, is)
    here rest false is e = rest e

-- where one of the members passes it has a place
member_found : (test : ℕ → Bool) (seats : List Seat) → list_any test (nodes.procs_of seats) ≡ true → (q : ℕ) × (has_place seats q ≡ true) × (test q ≡ true)
member_found test [] e = absurd (let bad : false ≡ true = e in cc)
member_found test (s ∷ seats) e = here (member_found test seats) (test s.1.0) refl e
  where
    here : (list_any test (nodes.procs_of seats) ≡ true → (q : ℕ) × (has_place seats q ≡ true) × (test q ≡ true)) → (b : Bool) → test s.1.0 ≡ b → (b || list_any test (nodes.procs_of seats)) ≡ true → (q : ℕ) × (has_place (s ∷ seats) q ≡ true) × (test q ≡ true)
    here rest true is e = (s.1.0, or_itself s.1.0 (has_place seats s.1.0), is)
    here rest false is e = let r = rest e in (r.0, or_right (s.1.0 == r.0) (has_place seats r.0) r.1, r.2)

pair_same : (a b : ℕ) → ((a == a) && (b == b)) ≡ true
pair_same a b = grind (arith, nat_tests)

pair_far : (a b c q : ℕ) → q ≢ b → ((c == a) && (q == b)) ≡ false
pair_far a b c q ne = grind (arith, nat_tests)

pair_else : (a b c q : ℕ) → c ≢ a → ((c == a) && (q == b)) ≡ false
pair_else a b c q ne = grind (arith, nat_tests)

module _ (job : Job) (asks : AsksNothing job) (w : World) (z : ℕ → ballot.World) (fate : ℕ → Option (List Slot)) (l : Ledger) (p : ℕ) (here : up (job_setup job) w p ≡ true) (h : Shows (job_setup job) w z fate)
    (tr : Truthful (job_setup job) w z fate) (t : Linked job w z fate l) (ks : Kinds (job_setup job) z fate) where
  abbrev s : Setup
  s = job_setup job

  abbrev n : Node
  n = w.node p

  abbrev d : ℕ
  d = n.epoch

  k : (p < s.procs) × (w.killed p ≡ false) × (has_ended n ≡ false)
  k = up_parts s w p here

  own : n.me ≡ p
  own = (h.sane p k.1).me

  few : n.me < procs_of job
  few = subst (λ (o : ℕ). o < procs_of job) (sym own) k.0

  at_stage : (a : Stage) → n.stage ≡ a → OfStage job (l.stands n.me) n a
  at_stage a e = subst (λ (o : ℕ). OfStage job (l.stands o) n a) (sym own) (subst (OfStage job (l.stands p) n) e (t.stands p k.1))

  alive : is_killed (l.stands p) ≡ false
  alive = t.killed p ∙ k.1

  -- no call is asked for, and it is in none
  asks_none : (v : Wanted) (rest : Reply → Walk) → AsksFor n v rest → ⊥
  asks_none v rest a = subst OnlyPrints a.walk (at_stage Walking a.stage).only

  in_none : (core : Core) (v : Wanted) (rest : Reply → Walk) → IsIn n core v rest → ⊥
  in_none core v rest i = at_stage (Calling core) i.stage

  -- ---- the ledger where only this process stands elsewhere

  standing_eras : (m : Ledger) → ((q : ℕ) → q ≢ p → m.stands q ≡ l.stands q) → m.joined ≡ l.joined → m.chapters ≡ l.chapters → (e : ℕ) → Like m e (era (first_era s) fate e) (m.chapters e)
  standing_eras m far joined chapters e =
      subst (λ (f : ℕ → Option Chapter). Like m e (era (first_era s) fate e) (f e)) (sym chapters)
      (like_on l m e (era (first_era s) fate e) (l.chapters e)
      (λ q dead. ap is_killed (far q (λ same. let bad : true ≡ false = sym (subst (λ o. is_killed (l.stands o) ≡ true) same dead) ∙ alive in cc)) ∙ dead)
      (λ q dead none. ap (λ (f : ℕ → ℕ → Option Slot). f (suc e) q) joined ∙ none) (t.eras e))

  -- a step that writes nothing, and votes nothing
  silent_links : (act : Act) (y : ballot.World) → ((q : ℕ) → vote_of y q ≡ vote_of (z d) q) → AtStage job (l.stands p) act.node → Links job p act w fate y l l
  silent_links act y votes mine = record {
    stands = λ q ne. refl;
    mine = mine;
    joined_here = λ q. t.joined d q ∙ sym (votes q);
    joined = λ e q ne. refl;
    eras = t.eras;
  }

  -- a step that only writes, and changes nothing but where it stands
  wrote_links : (act : Act) (items : List Item) (x : Stand) → Wrote job l p items x → AtStage job x act.node → Links job p act w fate (z d) l (written_all job l items)
  wrote_links act items x r mine = record {
    stands = r.stands;
    mine = subst (λ (o : Stand). AtStage job o act.node) (sym r.mine) mine;
    joined_here = λ q. ap (λ (f : ℕ → ℕ → Option Slot). f (suc d) q) r.joined ∙ t.joined d q;
    joined = λ e q ne. ap (λ (f : ℕ → ℕ → Option Slot). f (suc e) q) r.joined;
    eras = standing_eras (written_all job l items) r.stands r.joined r.chapters;
  }

  -- ---- joins

  module _ (kind : Slot) (out : phase_of (w.node p).stage ≡ Outside) (is : is_join (suc (w.node p).epoch) kind ≡ true) (may : MayJoin l (suc (w.node p).epoch) kind (l.stands (w.node p).me))
      (left : state_left (blank (facts_of job)) (l.stands (w.node p).me) ≡ state_of (w.node p)) (empty : (nat_lt 0 (w.node p).epoch && has_place (w.node p).comm (w.node p).me) ≡ false → state_of (w.node p) ≡ blank (facts_of job))
      (final : 0 < (w.node p).epoch → has_place (w.node p).comm p ≡ true → kind ≡ slot.Final) where
    abbrev act : Act
    act = joined kind n

    abbrev after : ballot.World
    after = behind_join w z p kind

    abbrev it : Item
    it = item.Join (proc n.me) (epoch_no (suc d)) kind

    abbrev m : Ledger
    m = written job l it

    abbrev x : Stand
    x = stand.Joined (suc d) (state_left (blank (facts_of job)) (l.stands n.me))

    far : (q : ℕ) → q ≢ p → m.stands q ≡ l.stands q
    far q ne = key_other n.me x l.stands q (λ e. ne (e ∙ own))

    joined_far : (e q : ℕ) → q ≢ p → m.joined e q ≡ l.joined e q
    joined_far e q ne = ap (λ (b : Bool). if b then Some kind else l.joined e q) (pair_far (suc d) n.me e q (λ same. ne (same ∙ own)))

    joined_own : m.joined (suc d) p ≡ Some kind
    joined_own = ap (λ (o : ℕ). m.joined (suc d) o) (sym own) ∙ ap (λ (b : Bool). if b then Some kind else l.joined (suc d) n.me) (pair_same (suc d) n.me)

    join_links : Links job p act w fate after l m
    join_links = record {
      stands = far;
      mine = subst (λ (o : Stand). AtStage job o act.node) (sym (ap (λ (o : ℕ). at_key o x l.stands p) own ∙ key_same p x l.stands))
          (record { stand = ap (λ (o : State). stand.Joined (suc d) o) left; empty = empty });
      joined_here = λ q. elim (cases_eq q p) [
        | inl same ↦ subst (λ o. m.joined (suc d) o ≡ vote_of after o) (sym same) (joined_own ∙ sym (join_vote s w z fate p here h kind out))
        | inr ne ↦ joined_far (suc d) q ne ∙ t.joined d q ∙ sym (join_votes s w z fate p here h kind out q ne)
      ];
      joined = λ e q ne. ap (λ (b : Bool). if b then Some kind else l.joined (suc e) q) (pair_else (suc d) n.me (suc e) q (λ same. ne (pred_same e d same)));
      eras = λ e.
          like_on l m e (era (first_era s) fate e) (l.chapters e)
          (λ q dead. ap is_killed (far q (dead_far q dead)) ∙ dead)
          (λ q dead none. joined_far (suc e) q (dead_far q dead) ∙ none) (t.eras e);
    }
      where
        pred_same : (a b : ℕ) → suc a ≡ suc b → a ≡ b
        pred_same a b e = omega (arith, e)

        dead_far : (q : ℕ) → is_killed (l.stands q) ≡ true → q ≢ p
        dead_far q dead same = let bad : true ≡ false = sym (subst (λ o. is_killed (l.stands o) ≡ true) same dead) ∙ alive in cc

    join_kinds : Kinds s (at_one d after z) fate
    join_kinds = record {
      final = λ e q v y pos is_now vote place. elim (cases_eq e d) [
        | inl same ↦ elim (cases_eq q p) [
          | inl it_is ↦
              own_final e q v y same it_is pos is_now (sym (ap (λ (o : ballot.World). vote_of o q) (here_now e same)) ∙ vote) place
          | inr ne ↦ ks.final e q v y pos is_now (sym (join_votes s w z fate p here h kind out q ne ∙ ap (λ (o : ℕ). vote_of (z o) q) (sym same)) ∙ sym (ap (λ (o : ballot.World). vote_of o q) (here_now e same)) ∙ vote) place
        ]
        | inr ne ↦ ks.final e q v y pos is_now (sym (ap (λ (o : ballot.World). vote_of o q) (one_far d e after z ne)) ∙ vote) place
      ];
    }
      where
        here_now : (e : ℕ) → e ≡ d → at_one d after z e ≡ after
        here_now e same = ap (at_one d after z) same ∙ one_here d after z

        own_final : (e q : ℕ) (v : Slot) (y : Era) → e ≡ d → q ≡ p → 0 < e → era (first_era s) fate e ≡ Some y → vote_of after q ≡ Some v → has_place y.comm q ≡ true → v ≡ slot.Final
        own_final e q v y same it_is pos is_now vote place =
            let its : y ≡ era_of n = some_era y (era_of n) (sym is_now ∙ ap (era (first_era s) fate) same ∙ h.here p k.1) in
            let cast : kind ≡ v = some_slot kind v (sym (join_vote s w z fate p here h kind out) ∙ ap (vote_of after) (sym it_is) ∙ vote) in
            sym cast ∙ final (subst (λ (o : ℕ). 0 < o) same pos) (ap (λ (o : ℕ). has_place n.comm o) (sym it_is) ∙ ap (λ (o : Era). has_place o.comm q) (sym its) ∙ place)

    join_does : Does job p (joined kind (w.node p)) w z fate l
    join_does = record {
      plays = join_plays s w z fate p here h tr kind out is;
      goes = ((few, may), tt);
      links = join_links;
      kills = refl;
      kinds = join_kinds;
      losses = (tt, tt);
    }

  -- ---- why a spare joins

  stirred : n.stage ≡ Arrived → may_help_out n ≡ true → (q : ℕ) × IsStirred l d q
  stirred at may = either (list_any (has_left n) n.present) refl may
    where
      st : Stance l n
      st = stance job w z fate l p h t here (ap phase_of at)

      comm_now : comm_in l d ≡ n.comm
      comm_now = ap comm_of st.chapter.at ∙ sym st.chapter.like.comm

      by_join : (q : ℕ) → has_left n q ≡ true → (q : ℕ) × IsStirred l d q
      by_join q left =
          let r = left_joined s w z fate p here h tr q left in
          let joined : is_some (l.joined (suc d) q) ≡ true = ap is_some (t.joined d q) ∙ r.1 in
          (q, inl (ap (λ (o : Option Chapter). is_in o q) st.chapter.at ∙ there q r.0 joined (st.chapter.chapter.present q) refl, joined))
        where
          there : (q : ℕ) → has n.present q ≡ true → is_some (l.joined (suc d) q) ≡ true → (b : Bool) → st.chapter.chapter.present q ≡ b → st.chapter.chapter.present q ≡ true
          there q member joined true e = e
          there q member joined false e = absurd (let bad : false ≡ true = sym (ap is_some (st.chapter.like.rest q member e).1) ∙ joined in cc)

      by_loss : list_any n.lost (members n) ≡ true → (q : ℕ) × IsStirred l d q
      by_loss some =
          let r = member_found n.lost n.comm some in
          (r.0, inr (ap (λ (c : List Seat). has_place c r.0) comm_now ∙ r.1, t.killed r.0 ∙ h.told p r.0 r.2))

      either : (b : Bool) → list_any (has_left n) n.present ≡ b → (b || list_any n.lost (members n)) ≡ true → (q : ℕ) × IsStirred l d q
      either true e m = let r = any_found (has_left n) n.present e in by_join r.0 r.1
      either false e m = by_loss m

  joins_does : (kind : Slot) → Reason n kind → Does job p (joined kind n) w z fate l
  joins_does kind (First at) =
      let b : HasBegun job (l.stands n.me) n = at_stage Begins at in
      let none : d ≡ 0 = (h.sane p k.1).fresh (ap is_begin at) in
      join_does slot.Start (ap phase_of at) (subst (λ (o : ℕ). is_join (suc o) slot.Start ≡ true) (sym none) refl)
      (subst (MayJoin l (suc d) slot.Start) (sym b.stand) (refl, ap suc none))
      (ap (state_left (blank (facts_of job))) b.stand ∙ sym b.empty) (λ e. b.empty) (λ pos place. absurd (omega (arith, none, pos)))
  joins_does kind (HelpsOut at place may) =
      let b : Settled job (l.stands n.me) n = at_stage Arrived at in
      let r = b.spare place in
      join_does slot.Spare (ap phase_of at) (not_first d ((h.sane p k.1).later (ap is_later at)))
      (subst (MayJoin l (suc d) slot.Spare) (sym r.0) (refl, refl, stirred at may))
      (ap (state_left (blank (facts_of job))) r.0 ∙ sym r.1) (λ e. r.1)
      (λ pos has. absurd (let bad : false ≡ true = sym place ∙ ap (has_place n.comm) own ∙ has in cc))
  joins_does kind (HasFailed at) = absurd (at_stage Failed at)
  joins_does kind (IsDone state at walk) =
      let b : InBody (l.stands n.me) n = at_stage Walking at in
      let stands : l.stands n.me ≡ stand.Walking b.stay (Ends state) = b.stand ∙ ap (λ (o : Walk). stand.Walking b.stay (stand.shown o)) walk in
      join_does slot.Final (ap phase_of at) (not_first d ((h.sane p k.1).later (ap is_later at)))
      (subst (MayJoin l (suc d) slot.Final) (sym stands) (refl, ap suc (sym b.within)))
      (ap (state_left (blank (facts_of job))) stands ∙ sym (ap (λ (o : Walk). state_at (stop_of o [])) walk))
      (λ e. absurd (let bad : true ≡ false = sym (both_true (nat_lt 0 d) (has_place n.comm n.me) (less_is 0 d ((h.sane p k.1).later (ap is_later at))) (ap (has_place n.comm) own ∙ (h.sane p k.1).placed (ap is_placed at))) ∙ e in cc))
      (λ pos place. refl)

  -- ---- turns in the ballot

  waiting : (old : Phase) → n.stage ≡ Joining old → Waits job (l.stands p) n
  waiting old at = subst (OfStage job (l.stands p) n) at (t.stands p k.1)

  moves_does : (old : Phase) → n.stage ≡ Joining old → (turn_in (next_ballot n) n old).poll ≡ poll.Moved → Does job p (moves n Joining (turn_in (next_ballot n) n old).phase) w z fate l
  moves_does old at e =
      let phase : Phase = (turn_in (next_ballot n) n old).phase in
      let is = polled s w z fate p here h tr old poll.Moved e in
      let b = waiting old at in
      record {
        plays = moves_plays s w z fate p here h tr old at e;
        goes = tt;
        links = silent_links (moves n Joining phase) _ (after_votes s w z fate p here h old at phase poll.Moved is) (record { stand = b.stand; empty = b.empty });
        kills = refl;
        kinds = kinds_same s z (at_one d (after_turn w z p (record { phase = phase; poll = poll.Moved })) z) fate (votes_one d (after_turn w z p (record { phase = phase; poll = poll.Moved })) z (after_votes s w z fate p here h old at phase poll.Moved is)) ks;
        losses = tt;
      }

  speaks_does : (old : Phase) (slots : List Slot) → n.stage ≡ Joining old → (turn_in (next_ballot n) n old).poll ≡ poll.SendEstimate slots
      → Does job p (speaks (next_ballot n) n Joining (turn_in (next_ballot n) n old).phase slots) w z fate l
  speaks_does old slots at e = record {
    plays = speaks_plays s w z fate p here h tr old at slots e;
    goes = tt;
    links = silent_links (speaks (next_ballot n) n Joining phase slots) (after_turn w z p (record { phase = (turn_in (next_ballot n) n old).phase; poll = poll.SendEstimate slots })) (after_votes s w z fate p here h old at phase (poll.SendEstimate slots) is) (record { stand = b.stand; empty = b.empty });
    kills = refl;
    kinds = kinds_same s z (at_one d (after_turn w z p (record { phase = (turn_in (next_ballot n) n old).phase; poll = poll.SendEstimate slots })) z) fate (votes_one d (after_turn w z p (record { phase = (turn_in (next_ballot n) n old).phase; poll = poll.SendEstimate slots })) z (after_votes s w z fate p here h old at phase (poll.SendEstimate slots) is)) ks;
    losses = tt;
  }
    where
      phase : Phase
      phase = (turn_in (next_ballot n) n old).phase

      is : shown_turn n p old ≡ record { phase = (turn_in (next_ballot n) n old).phase; poll = poll.SendEstimate slots }
      is = polled s w z fate p here h tr old (poll.SendEstimate slots) e

      b : Waits job (l.stands p) n
      b = waiting old at

  ends_does : (old : Phase) (slots : List Slot) → n.stage ≡ Joining old → (turn_in (next_ballot n) n old).poll ≡ poll.Decided slots → is_end n slots ≡ true → Does job p (ends n) w z fate l
  ends_does old slots at e last =
      let phase : Phase = (turn_in (next_ballot n) n old).phase in
      let is = polled s w z fate p here h tr old (poll.Decided slots) e in
      record {
        plays = ends_plays s w z fate p here h tr old at slots e last;
        goes = ((few, may_ending job w z fate l p here h t old at phase slots is last), tt);
        links = end_links job w z fate l p here h t old at phase slots is last;
        kills = refl;
        kinds = kinds_now job w z fate l p here h t old at phase slots is ks;
        losses = (tt, tt);
      }

  repairs_does : (old : Phase) (slots : List Slot) → n.stage ≡ Joining old → (turn_in (next_ballot n) n old).poll ≡ poll.Decided slots → is_end n slots ≡ false
      → Does job p (repairs s (arrived (voters (is_join (suc d)) n.present slots) n)) w z fate l
  repairs_does old slots at e goes_on =
      let phase : Phase = (turn_in (next_ballot n) n old).phase in
      let is = polled s w z fate p here h tr old (poll.Decided slots) e in
      record {
        plays = repairs_plays s w z fate p here h tr old at slots e goes_on;
        goes = ((few, may_repair job w z fate l p here h t old at phase slots is goes_on), tt);
        links = repair_links job w z fate l p here h t old at phase slots is goes_on;
        kills = refl;
        kinds = kinds_now job w z fate l p here h t old at phase slots is ks;
        losses = (loss_owed l d (lossy job w z fate l p here h t old at phase slots is goes_on ks), tt);
      }

  -- ---- along the walk

  at_own : (items : List Item) (x : Stand) → Wrote job l n.me items x → Wrote job l p items x
  at_own items x r = subst (λ (o : ℕ). Wrote job l o items x) own r

  -- a step outside the ballots that only writes
  writes_does : (items : List Item) (m : Node) (x : Stand) → Aside n (nodes.writing items m) → phase_of n.stage ≡ Outside → 0 < d → has_place n.comm p ≡ true → Wrote job l p (noted items) x → RepairLosses job l (noted items) → AtStage job x m
      → Does job p (nodes.writing items m) w z fate l
  writes_does items m x aside out later place r losses mine = record {
    plays = aside_plays s w z fate p here h tr (nodes.writing items m) aside out later place;
    goes = r.goes;
    links = wrote_links (nodes.writing items m) (noted items) x r mine;
    kills = r.kills;
    kinds = kinds_same s z (at_one d (z d) z) fate (votes_one d (z d) z (λ q. refl)) ks;
    losses = losses;
  }

  named : 0 < d → n.role ≡ role_in l d n.me
  named later = of d refl later
    where
      of : (e : ℕ) → d ≡ e → 0 < e → n.role ≡ role_in l d n.me
      of zero same e = absurd (omega (arith, e))
      of (suc e) same pos =
          let b = born e (era (first_era s) fate e) (fate e) (era_of n) (subst (λ (o : ℕ). era (first_era s) fate o ≡ Some (era_of n)) same (h.here p k.1)) in
          let y = liked l e b.before (era (first_era s) fate e) (l.chapters e) (t.eras e) b.at in
          h.role p e b.before k.1 same b.at ∙ role_is e b.before.comm (ap comm_of y.at ∙ sym y.like.comm) ∙ ap (λ (o : ℕ). role_in l (suc e) o) (sym own) ∙ ap (λ (o : ℕ). role_in l o n.me) (sym same)
        where
          role_is : (e : ℕ) (c : List Seat) → comm_in l e ≡ c → role_after e (has_place c p) ≡ role_in l (suc e) p
          role_is zero c same = refl
          role_is (suc e) c same = ap (λ (o : List Seat). role_after (suc e) (has_place o p)) (sym same)

  inits_does : n.stage ≡ Arrived → has_place n.comm n.me ≡ true → Does job p (inits s n) w z fate l
  inits_does at place =
      let st = stance job w z fate l p h t here (ap phase_of at) in
      let b : Settled job (l.stands n.me) n = at_stage Arrived at in
      let later : 0 < d = (h.sane p k.1).later (ap is_later at) in
      let sane = h.sane p k.1 in
      writes_does (inits s n).items (inits s n).node (in_body job n l few (ap comm_of st.chapter.at ∙ sym st.chapter.like.comm) (named later) place (b.seated place) st.current)
      (writes_aside n _ _ refl refl refl refl refl refl refl) (ap phase_of at) later (ap (has_place n.comm) (sym own) ∙ place)
      (at_own _ _ (inits_wrote job n l few (ap comm_of st.chapter.at ∙ sym st.chapter.like.comm) (named later) place (b.seated place) st.current))
      (no_losses job l (inits s n).items (inits_no_repairs s n))
      (record { stay = _; within = refl; stand = refl; only = asks (view_at_init n.role (my_place n) (size n)) (body_start (facts_of job) n.role (my_place n) (size n) (state_of n)) })

  walks_on : n.stage ≡ Walking → (0 < d) × (has_place n.comm p ≡ true)
  walks_on at = ((h.sane p k.1).later (ap is_later at), (h.sane p k.1).placed (ap is_placed at))

  passes_does : (rest : Walk) → n.stage ≡ Walking → n.walk ≡ Passes rest → Does job p (passes_on rest n) w z fate l
  passes_does rest at e =
      let b : InBody (l.stands p) n = subst (OfStage job (l.stands p) n) at (t.stands p k.1) in
      writes_does [] (record n { walk = rest }) (l.stands p) (writes_aside n _ _ refl refl refl refl refl refl (ap is_placed at)) (ap phase_of at) (walks_on at).0 (walks_on at).1 (wrote_none job l p (l.stands p) refl) tt
      (subst (OfStage job (l.stands p) (record n { walk = rest })) (sym at)
      (record { stay = b.stay; within = b.within; stand = b.stand ∙ ap (λ (o : Walk). stand.Walking b.stay (stand.shown o)) e; only = subst OnlyPrints e b.only }))

  prints_does : (what : Printed) (rest : Walk) → n.stage ≡ Walking → n.walk ≡ Prints what rest → Does job p (prints what rest n) w z fate l
  prints_does what rest at e =
      let st = stance job w z fate l p h t here (ap phase_of at) in
      let b : InBody (l.stands n.me) n = at_stage Walking at in
      let stands : l.stands n.me ≡ stand.Walking b.stay (Prints what rest) = b.stand ∙ ap (λ (o : Walk). stand.Walking b.stay (stand.shown o)) e in
      let x : Stand = stand.Walking b.stay (stand.shown rest) in
      writes_does (prints what rest n).items (record n { walk = rest }) (stand.Walking b.stay (stand.shown rest)) (writes_aside n _ _ refl refl refl refl refl refl (ap is_placed at)) (ap phase_of at) (walks_on at).0 (walks_on at).1
      (at_own _ _ (wrote_one job n few (state_of n) l _ (stand.Walking b.stay (stand.shown rest)) (stand.Walking b.stay (stand.shown rest)) [] (ap (λ (o : Stand). standing n.me o l) (ap effects.printed stands))
      ((few, (subst (IsPrint d what) (sym stands) (b.within, refl), st.current)), tt)
      (wrote_none job _ n.me _ (key_same n.me (stand.Walking b.stay (stand.shown rest)) l.stands))))
      (tt, tt)
      (subst (OfStage job (stand.Walking b.stay (stand.shown rest)) (record n { walk = rest })) (sym at)
      (record { stay = b.stay; within = b.within; stand = refl; only = (subst OnlyPrints e b.only).1 }))

  -- ---- all deeds

  pub deed_does : (step : Act) → Deed (job_setup job) (w.node p) step → Does job p step w z fate l
  deed_does step (Joins kind why within) = joins_does kind why
  deed_does step (Moves b at phase (OfEpoch old stage) e) = moves_does old stage e
  deed_does step (Moves b at phase (OfCall v rest old i) e) = absurd (in_none _ v rest i)
  deed_does step (Speaks b at phase slots (OfEpoch old stage) e) = speaks_does old slots stage e
  deed_does step (Speaks b at phase slots (OfCall v rest old i) e) = absurd (in_none _ v rest i)
  deed_does step (EndsAll phase slots at e last) = ends_does phase slots at e last
  deed_does step (Repairs phase slots at e goes_on) = repairs_does phase slots at e goes_on
  deed_does step (Inits at place) = inits_does at place
  deed_does step (PassesOn rest at e) = passes_does rest at e
  deed_does step (PrintsOut printed rest at e) = prints_does printed rest at e
  deed_does step (IsRefused v rest r a e) = absurd (asks_none v rest a)
  deed_does step (Attaches g m rest a may) = absurd (asks_none _ rest a)
  deed_does step (Stores g m piece rest a may) = absurd (asks_none _ rest a)
  deed_does step (Commits g rest a may) = absurd (asks_none _ rest a)
  deed_does step (Restores g m stamp rest a may) = absurd (asks_none _ rest a)
  deed_does step (EntersBarrier rest a) = absurd (asks_none _ rest a)
  deed_does step (EntersReduction op value rest a) = absurd (asks_none _ rest a)
  deed_does step (EntersShift by elements rest a) = absurd (asks_none _ rest a)
  deed_does step (EntersAgreement flag rest a) = absurd (asks_none _ rest a)
  deed_does step (EntersDeletion g stamp rest a may) = absurd (asks_none _ rest a)
  deed_does step (EntersClosing g rest a may) = absurd (asks_none _ rest a)
  deed_does step (EntersCreation g start depth rest a may) = absurd (asks_none _ rest a)
  deed_does step (PassesBarrier rest i all) = absurd (in_none _ _ rest i)
  deed_does step (Reduces op value rest i all) = absurd (in_none _ _ rest i)
  deed_does step (Shifts by elements rest i all) = absurd (in_none _ _ rest i)
  deed_does step (GathersNoMore v rest error kind i some e) = absurd (in_none _ v rest i)
  deed_does step (VotesNo core v rest wait vote i at un) = absurd (in_none core v rest i)
  deed_does step (VotesYes g rest i all) = absurd (in_none _ _ rest i)
  deed_does step (VotesFresh g start depth rest i all none) = absurd (in_none _ _ rest i)
  deed_does step (HelpsAndGives g start depth rest j i all known may) = absurd (in_none _ _ rest i)
  deed_does step (VotesFinding g start depth rest j i known all) = absurd (in_none _ _ rest i)
  deed_does step (ReturnsError v rest phase slots error i decided e) = absurd (in_none _ v rest i)
  deed_does step (ReturnsBits flag rest slots i) = absurd (in_none _ _ rest i.within)
  deed_does step (Closes g rest slots i) = absurd (in_none _ _ rest i.within)
  deed_does step (Creates g start depth rest slots i) = absurd (in_none _ _ rest i.within)
  deed_does step (Deletes g stamp rest slots i) = absurd (in_none _ _ rest i.within)
