-- Deeds of a node outside calls: joins, turns in the ballots of epochs, `Init`, and its walk.
use Rattle.std.proofs.Common.{◌++◌, ◌≡◌, ◌≢◌, ◌⊎◌, ◌<◌, ◌≤◌, ℕ, zero, suc, Bool, true, false, ◌&&◌, ◌||◌, ◌==◌, List, [], ◌∷◌, length, Option, Some, None, inl, inr, arith, refl, sym, ap, subst, ◌∙◌}
use Rattle.std.specs.Prelude.{if◌then◌else◌, nat_lt, is_some, ℤ}
use Rattle.std.specs.List.{list_any}
use Rattle.std.proofs.lemmas.Bool.Decides.{nat_tests}
use Rattle.std.proofs.lemmas.Bool.{cases_eq}
use Rattle.fx_ballot.specs.declared.poll.Poll.TheVariants as poll
use Rattle.fx_ballot.specs.Laws.{vote_of}
use Rattle.fx_ballot.specs.Names.{seat_of, has}
use Rattle.fx_ballot.specs.Turn.{Phase, Outside}
use Rattle.fx_ballot.specs.World.{put}
use Rattle.fx_ballot.specs.World as ballot
use Rattle.fx_check.specs.Facts.{facts_of}
use Rattle.fx_comm.specs.Seats.{Seat, has_place}
use Rattle.fx_item.specs.declared.item.Item.{Item}
use Rattle.fx_item.specs.declared.item.Item.TheVariants as item
use Rattle.fx_link.specs.declared.slot.Slot.{Slot}
use Rattle.fx_link.specs.declared.slot.Slot.TheVariants as slot
use Rattle.fx_script.specs.declared.job.Job.{Job}
use Rattle.fx_value.specs.Shape.{StaysShaped}
use Rattle.fx_value.proofs.Staying.{stays_shaped}
use Rattle.fx_walk.specs.declared.printed.Printed.{Printed}
use Rattle.fx_walk.specs.declared.wanted.Wanted.{Wanted}
use Rattle.fx_walk.specs.Callbacks.{view_at_init, body_start, state_at, no_latest}
use Rattle.fx_walk.specs.Along.{stop_of}
use Rattle.fx_walk.specs.Plan.{Keeps}
use Rattle.fx_walk.specs.InStep.{job_plan}
use Rattle.fx_walk.specs.State.{State, blank}
use Rattle.fx_walk.specs.Walk.{Walk, Ends, Passes, Prints}
use Rattle.fx_machine.specs.Ballots.{voters, joined, moves, speaks, repairs, ends, arrived, is_end}
use Rattle.fx_machine.specs.Nodes as nodes
use Rattle.fx_machine.specs.Nodes.{Node, Act, Stage, Core, Begins, Joining, Arrived, Walking, Calling, Failed, Over, has_ended, members, my_place, size, state_of, to_others}
use Rattle.fx_machine.specs.Numbers.{proc, epoch_no}
use Rattle.fx_machine.specs.Reading.{is_join, next_ballot, turn_in, has_left}
use Rattle.fx_machine.specs.Setup.{Setup}
use Rattle.fx_machine.specs.Steps.{inits, may_help_out, passes_on, prints}
use Rattle.fx_machine.specs.Texts as text
use Rattle.fx_machine.specs.Texts.{Text}
use Rattle.fx_deeds.specs.Deeds.{Reason, First, HelpsOut, HasFailed, IsDone}
use Rattle.fx_fleet.specs.Runs.{job_setup}
use Rattle.fx_fleet.specs.World.{World, up, sent_to}
use Rattle.fx_calm.proofs.Lists.{Each, chosen, equal}
use Rattle.fx_calm.proofs.Standing.{noted}
use Rattle.fx_calm.proofs.Steps.{key_same, key_other}
use Rattle.fx_legal.specs.Effects as effects
use Rattle.fx_legal.specs.Effects.{written, state_left, begun_by}
use Rattle.fx_legal.specs.Groups.{at_key}
use Rattle.fx_legal.specs.Ledger.{Chapter, Ledger, comm_in, comm_of, is_in, role_in, ranks_of, procs_of}
use Rattle.fx_legal.specs.Legal.{written_all}
use Rattle.fx_legal.specs.Rules.{MayJoin, IsStirred, IsPrint}
use Rattle.fx_legal.specs.Stands as stand
use Rattle.fx_legal.specs.Stands.{Stand, is_killed}
use Rattle.fx_losses.specs.Eras.{first_era, era_of, next_of, era}
use Rattle.fx_losses.proofs.Actions.{member, behind_join, join_vote, join_votes, no_vote_here}
use Rattle.fx_losses.proofs.Turns.{after_turn, after_votes, shown_turn}
use Rattle.fx_losses.proofs.Eras.{born}
use Rattle.fx_losses.proofs.Asides.{Aside, writes_aside}
use Rattle.fx_losses.proofs.Plays.{aside_plays, join_plays, polled, moves_plays, speaks_plays, ends_plays, repairs_plays, others_true}
use Rattle.fx_losses.proofs.Openings.{Wrote, standing, wrote_none, wrote_one, inits_wrote, in_body}
use Rattle.fx_losses.proofs.Readings.{left_joined}
use Rattle.fx_losses.proofs.Shows.{phase_of, is_begin, is_later, is_placed, role_after, Shows, Truthful, up_parts}
use Rattle.fx_losses.proofs.Standing.{Like, liked, like_on, HasBegun, Waits, Settled}
use Rattle.fx_losses.proofs.Tests.{both_true, less_is, not_first, or_itself, or_right, first_of, second_of}
use Rattle.fx_calls.specs.Bodies.{IsOfNoGroup, OnlyAsks}
use Rattle.fx_calls.proofs.Hearings.{Polls, TrueText}
use Rattle.fx_calls.proofs.Heeding.{heeds_leave, left_free}
use Rattle.fx_calls.proofs.Polled.{is_balloting, NodePolls, Polled, Heeds, heeds_none, told_same, node_quiet}
use Rattle.fx_ballot.specs.World.{may_leave}
use Rattle.fx_calls.proofs.Closings.{may_repair, repair_links, may_ending, end_links}
use Rattle.fx_calls.proofs.Linked.{Linked, Links, Stance, stance, own_chapter}
use Rattle.fx_losses.proofs.Texts.{put_other}
use Rattle.std.specs.Prelude.{not}
use Rattle.std.specs.List.{filter}
use Rattle.fx_calls.proofs.Delivered.{gives_none, same_all, stream, joins_ordered, is_no_join}
use Rattle.fx_calls.proofs.Owed.{Does, grows_by, kept_true, entered_same, inits_open, returns_same}
use Rattle.fx_calls.proofs.Parts.{TruePart, Spoken, parts_grow}
use Rattle.fx_calls.proofs.Plans.{first_plan, EntryAt, Grows, grows_none}
use Rattle.fx_calls.proofs.Standing.{InBody, OfStage, AtStage}
use Rattle.fx_calls.proofs.Starts.{begins_at_zero, begins_shaped, stop_shaped}
use Rattle.fx_calls.proofs.Stepped.{Keeping, AtPlan, InStep, Stepped, Adds, adds_none}
use Rattle.fx_legal.specs.Stands.{Stay, asked_of}
use Rattle.fx_machine.specs.Nodes.{Gathering, Sharing, Telling, Giving, Balloting, latest, goes_on}
use Rattle.fx_ballot.specs.Laws.{past}
use Rattle.fx_ballot.specs.World.{Member, enters, is_outside}
use Rattle.fx_ballot.specs.World.{stays, own_after}
use Rattle.fx_machine.specs.Nodes.{silently}
use Rattle.fx_calls.proofs.Owed.{Facts}

any_found : (test : ℕ → Bool) (qs : List ℕ) → list_any test qs ≡ true → (q : ℕ) × (test q ≡ true)
any_found test [] e = absurd (let bad : false ≡ true = e in cc)
any_found test (q ∷ qs) e = here (any_found test qs) (test q) refl e
  where
    here : (list_any test qs ≡ true → (q : ℕ) × (test q ≡ true)) → (b : Bool) → test q ≡ b → (b || list_any test qs) ≡ true → (q : ℕ) × (test q ≡ true)
    here rest true is e = (q, is)
    here rest false is e = rest e

-- where one of the members passes it has a place
member_found : (test : ℕ → Bool) (seats : List Seat) → list_any test (nodes.procs_of seats) ≡ true → (q : ℕ) × (has_place seats q ≡ true) × (test q ≡ true)
member_found test [] e = absurd (let bad : false ≡ true = e in cc)
member_found test (s ∷ seats) e = here (member_found test seats) (test s.1.0) refl e
  where
    here : (list_any test (nodes.procs_of seats) ≡ true → (q : ℕ) × (has_place seats q ≡ true) × (test q ≡ true)) → (b : Bool) → test s.1.0 ≡ b → (b || list_any test (nodes.procs_of seats)) ≡ true → (q : ℕ) × (has_place (s ∷ seats) q ≡ true) × (test q ≡ true)
    here rest true is e = (s.1.0, or_itself s.1.0 (has_place seats s.1.0), is)
    here rest false is e = let r = rest e in (r.0, or_right (s.1.0 == r.0) (has_place seats r.0) r.1, r.2)

pair_same : (a b : ℕ) → ((a == a) && (b == b)) ≡ true
pair_same a b = grind (arith, nat_tests)

pair_far : (a b c q : ℕ) → q ≢ b → ((c == a) && (q == b)) ≡ false
pair_far a b c q ne = grind (arith, nat_tests)

pair_else : (a b c q : ℕ) → c ≢ a → ((c == a) && (q == b)) ≡ false
pair_else a b c q ne = grind (arith, nat_tests)

module _ (job : Job) (w : World) (z : ℕ → ballot.World) (fate : ℕ → Option (List Slot)) (l : Ledger) (polls : Polls) (p : ℕ) (facts : Facts job w z fate l polls p) where
  abbrev s : Setup
  s = job_setup job

  abbrev n : Node
  n = w.node p

  abbrev d : ℕ
  d = n.epoch

  abbrev here : up (job_setup job) w p ≡ true
  here = facts.here

  abbrev h : Shows (job_setup job) w z fate
  h = facts.shows

  abbrev tr : Truthful (job_setup job) w z fate
  tr = facts.truthful

  abbrev t : Linked job w z fate l
  t = facts.linked

  abbrev in_step : Stepped job w l
  in_step = facts.stepped

  abbrev sp : Spoken l w
  sp = facts.spoken

  abbrev in_polls : Polled w l polls
  in_polls = facts.polled

  k : (p < s.procs) × (w.killed p ≡ false) × (has_ended n ≡ false)
  k = up_parts s w p here

  own : n.me ≡ p
  own = (h.sane p k.1).me

  few : n.me < procs_of job
  few = subst (λ (o : ℕ). o < procs_of job) (sym own) k.0

  pub at_stage : (a : Stage) → n.stage ≡ a → OfStage job (l.stands n.me) n a
  at_stage a e = subst (λ (o : ℕ). OfStage job (l.stands o) n a) (sym own) (subst (OfStage job (l.stands p) n) e (t.stands p k.1))

  pub alive : is_killed (l.stands p) ≡ false
  alive = t.killed p ∙ k.1

  pub mine_before : InStep job l p (w.node p)
  mine_before = in_step.nodes p k.1

  pub at_plan : (a : Stage) → n.stage ≡ a → AtPlan job l p n a
  at_plan a e = subst (AtPlan job l p n) e mine_before.at

  pub entries_before : (e j : ℕ) (v : Wanted) → l.entered e j p ≡ Some v → EntryAt job l e j v
  entries_before e j v is = in_step.entries e j p v is

  -- a step that enters nothing, behind which it stands so in its walk
  adds_same : (m : Node) (g : Ledger) → g.entered ≡ l.entered → Grows l g → StaysShaped job.names m.walk → ((x : ℕ) → (m.groups x).created ≡ false) → ((e j : ℕ) (v : Wanted) → l.entered e j p ≡ Some v → (e < m.epoch) ⊎ ((e ≡ m.epoch) × (j ≤ m.calls)))
      → AtPlan job l p m m.stage → Adds job p m l g
  adds_same m g same grows shaped none past at = adds_none job p m l g same grows entries_before (record { shaped = shaped; uncreated = none; past = past; at = at })

  pub texts_then : (g : Ledger) → Grows l g → (c : ℕ) → Each (TruePart g c p) (n.texts c)
  texts_then g grows c = parts_grow l g grows c p (n.texts c) (sp.texts p c)

  pub polls_before : NodePolls polls p n
  polls_before = in_polls.nodes p k.1

  -- a step in no ballot of a call, by which nothing is returned
  pub heeds_quiet : (step : Act) (g : Ledger) → Grows l g → g.joined ≡ l.joined → g.returns ≡ l.returns → step.node.epoch ≡ d → is_balloting n.stage ≡ false → is_balloting step.node.stage ≡ false
      → ((c : ℕ) → Each (TrueText polls c) (step.node.texts c)) → ((b : ℕ) → Each (TrueText polls p) (sent_to b step.sends)) → Heeds p step l g polls
  heeds_quiet step g grows joined returns epoch before after texts sends =
      heeds_none w p step l g polls in_polls grows joined (told_same w l g polls in_polls grows returns) (node_quiet polls p n step.node epoch before after polls_before) texts sends

  -- ---- the ledger where only this process stands elsewhere

  pub standing_eras : (m : Ledger) → ((q : ℕ) → q ≢ p → m.stands q ≡ l.stands q) → m.joined ≡ l.joined → m.chapters ≡ l.chapters → (e : ℕ) → Like m e (era (first_era s) fate e) (m.chapters e)
  standing_eras m far joined chapters e =
      subst (λ (f : ℕ → Option Chapter). Like m e (era (first_era s) fate e) (f e)) (sym chapters)
      (like_on l m e (era (first_era s) fate e) (l.chapters e)
      (λ q dead. ap is_killed (far q (λ same. let bad : true ≡ false = sym (subst (λ o. is_killed (l.stands o) ≡ true) same dead) ∙ alive in cc)) ∙ dead)
      (λ q dead none. ap (λ (f : ℕ → ℕ → Option Slot). f (suc e) q) joined ∙ none) (t.eras e))

  -- a step that writes nothing, and votes nothing
  pub silent_links : (act : Act) (y : ballot.World) → ((q : ℕ) → vote_of y q ≡ vote_of (z d) q) → AtStage job (l.stands p) act.node → Links job p act w fate y l l
  silent_links act y votes mine = record {
    stands = λ q ne. refl;
    mine = mine;
    joined_here = λ q. t.joined d q ∙ sym (votes q);
    joined = λ e q ne. refl;
    eras = t.eras;
  }

  -- a step that only writes, and changes nothing but where it stands
  wrote_links : (act : Act) (items : List Item) (x : Stand) → Wrote job l p items x → AtStage job x act.node → Links job p act w fate (z d) l (written_all job l items)
  wrote_links act items x r mine = record {
    stands = r.stands;
    mine = subst (λ (o : Stand). AtStage job o act.node) (sym r.mine) mine;
    joined_here = λ q. ap (λ (f : ℕ → ℕ → Option Slot). f (suc d) q) r.joined ∙ t.joined d q;
    joined = λ e q ne. ap (λ (f : ℕ → ℕ → Option Slot). f (suc e) q) r.joined;
    eras = standing_eras (written_all job l items) r.stands r.joined r.chapters;
  }

  -- ---- joins

  module _ (kind : Slot) (out : phase_of (w.node p).stage ≡ Outside) (is : is_join (suc (w.node p).epoch) kind ≡ true) (may : MayJoin l (suc (w.node p).epoch) kind (l.stands (w.node p).me))
      (left : state_left (blank (facts_of job)) (l.stands (w.node p).me) ≡ state_of (w.node p)) (empty : (nat_lt 0 (w.node p).epoch && has_place (w.node p).comm (w.node p).me) ≡ false → state_of (w.node p) ≡ blank (facts_of job))
      (quiet : is_balloting (w.node p).stage ≡ false) where
    abbrev act : Act
    act = joined kind n

    abbrev after : ballot.World
    after = behind_join w z p kind

    abbrev it : Item
    it = item.Join (proc n.me) (epoch_no (suc d)) kind

    abbrev m : Ledger
    m = written job l it

    abbrev x : Stand
    x = stand.Joined (suc d) (state_left (blank (facts_of job)) (l.stands n.me))

    far : (q : ℕ) → q ≢ p → m.stands q ≡ l.stands q
    far q ne = key_other n.me x l.stands q (λ e. ne (e ∙ own))

    joined_far : (e q : ℕ) → q ≢ p → m.joined e q ≡ l.joined e q
    joined_far e q ne = ap (λ (b : Bool). if b then Some kind else l.joined e q) (pair_far (suc d) n.me e q (λ same. ne (same ∙ own)))

    joined_own : m.joined (suc d) p ≡ Some kind
    joined_own = ap (λ (o : ℕ). m.joined (suc d) o) (sym own) ∙ ap (λ (b : Bool). if b then Some kind else l.joined (suc d) n.me) (pair_same (suc d) n.me)

    join_links : Links job p act w fate after l m
    join_links = record {
      stands = far;
      mine = subst (λ (o : Stand). AtStage job o act.node) (sym (ap (λ (o : ℕ). at_key o x l.stands p) own ∙ key_same p x l.stands))
          (record { stand = ap (λ (o : State). stand.Joined (suc d) o) left; empty = empty });
      joined_here = λ q. elim (cases_eq q p) [
        | inl same ↦ subst (λ o. m.joined (suc d) o ≡ vote_of after o) (sym same) (joined_own ∙ sym (join_vote s w z fate p here h kind out))
        | inr ne ↦ joined_far (suc d) q ne ∙ t.joined d q ∙ sym (join_votes s w z fate p here h kind out q ne)
      ];
      joined = λ e q ne. ap (λ (b : Bool). if b then Some kind else l.joined (suc e) q) (pair_else (suc d) n.me (suc e) q (λ same. ne (pred_same e d same)));
      eras = λ e.
          like_on l m e (era (first_era s) fate e) (l.chapters e)
          (λ q dead. ap is_killed (far q (dead_far q dead)) ∙ dead)
          (λ q dead none. joined_far (suc e) q (dead_far q dead) ∙ none) (t.eras e);
    }
      where
        pred_same : (a b : ℕ) → suc a ≡ suc b → a ≡ b
        pred_same a b e = omega (arith, e)

        dead_far : (q : ℕ) → is_killed (l.stands q) ≡ true → q ≢ p
        dead_far q dead same = let bad : true ≡ false = sym (subst (λ o. is_killed (l.stands o) ≡ true) same dead) ∙ alive in cc

    join_grows : Grows l m
    join_grows = record {
      chapters = λ e c is. is;
      entered = λ e j q v is. is;
      joined = λ e q v is. chosen (λ (o : Option Slot). o ≡ Some v) ((e == suc d) && (q == n.me)) (Some kind) (l.joined e q) (λ b. absurd (unjoined e q v is b)) (λ b. is);
      killed = λ q dead. ap is_killed (far q (λ same. let bad : true ≡ false = sym (subst (λ (o : ℕ). is_killed (l.stands o) ≡ true) same dead) ∙ alive in cc)) ∙ dead;
    }
      where
        unjoined : (e q : ℕ) (v : Slot) → l.joined e q ≡ Some v → ((e == suc d) && (q == n.me)) ≡ true → ⊥
        unjoined e q v is b =
            let epoch : e ≡ suc d = equal e (suc d) (first_of (e == suc d) (q == n.me) b) in
            let me : q ≡ p = equal q n.me (second_of (e == suc d) (q == n.me) b) ∙ own in
            let none : l.joined (suc d) p ≡ None = t.joined d p ∙ no_vote_here s w z fate p here h kind out in
            let bad : None ≡ Some v = sym none ∙ ap (l.joined (suc d)) (sym me) ∙ ap (λ (o : ℕ). l.joined o q) (sym epoch) ∙ is in cc

    join_begun : is_some (l.chapters d) ≡ true
    join_begun = ap is_some (own_chapter job w z fate l p h t k.1).at

    may_go : (j : ℕ) → may_leave ((polls d j).member p).phase ≡ true
    may_go j = polls_before.free j (ap (λ (b : Bool). b && (j == n.calls)) quiet)

    join_far : (e q : ℕ) → (e ≡ suc d → q ≡ p → ⊥) → m.joined e q ≡ l.joined e q
    join_far e q ne = chosen (λ (o : Option Slot). o ≡ l.joined e q) ((e == suc d) && (q == n.me)) (Some kind) (l.joined e q)
        (λ b. absurd (ne (equal e (suc d) (first_of (e == suc d) (q == n.me) b)) (equal q n.me (second_of (e == suc d) (q == n.me) b) ∙ own))) (λ b. refl)

    join_heeds : Heeds p (joined kind (w.node p)) l m polls
    join_heeds =
        heeds_leave w p act l m polls in_polls join_grows d join_begun may_go (ap is_some joined_own) join_far refl refl
        (record {
          balloting = λ phase at. absurd (let bad : false ≡ true = ap is_balloting at in cc);
          free = λ j out. left_free w p act l m polls in_polls join_grows d join_begun may_go (ap is_some joined_own) join_far j;
        })
        (kept_true (TrueText polls) n.me n.texts (text.Join (suc d) kind) tt (in_polls.texts p)) (λ b. others_true (TrueText polls p) (text.Join (suc d) kind) tt n.me b n.present)

    join_does : Does job p (joined kind (w.node p)) w z fate l polls
    join_does = record {
      plays = join_plays s w z fate p here h tr kind out is;
      goes = ((few, may), tt);
      links = join_links;
      kills = refl;
      adds = adds_same act.node m refl join_grows mine_before.shaped mine_before.uncreated mine_before.past tt;
      texts = kept_true (λ c t. TruePart m c p t) n.me n.texts (text.Join (suc d) kind) tt (texts_then m join_grows);
      sends = λ b. others_true (TruePart m p b) (text.Join (suc d) kind) tt n.me b n.present;
      heeds = join_heeds;
      gives = record {
        other = λ c ne. put_other n.texts n.me c (n.texts n.me ++ text.Join (suc d) kind ∷ []) (λ e. ne (e ∙ own));
        fresh = λ b e j v ne at is_parts place. inl at;
        early = λ b u ne. same_all l m p (λ e j. refl) (stream w p b);
        late = λ b u ne. joins_ordered m p b d kind (stream w p b) (filter (λ q. not (q == n.me)) n.present)
            (λ j v at is_parts place. facts.delivered.there p b d j v k.1 u (λ e. ne (sym e)) at is_parts place);
      };
    }

  -- ---- why a spare joins

  stirred : n.stage ≡ Arrived → may_help_out n ≡ true → (q : ℕ) × IsStirred l d q
  stirred at may = either (list_any (has_left n) n.present) refl may
    where
      st : Stance l n
      st = stance job w z fate l p h t here (ap phase_of at)

      comm_now : comm_in l d ≡ n.comm
      comm_now = ap comm_of st.chapter.at ∙ sym st.chapter.like.comm

      by_join : (q : ℕ) → has_left n q ≡ true → (q : ℕ) × IsStirred l d q
      by_join q left =
          let r = left_joined s w z fate p here h tr q left in
          let joined : is_some (l.joined (suc d) q) ≡ true = ap is_some (t.joined d q) ∙ r.1 in
          (q, inl (ap (λ (o : Option Chapter). is_in o q) st.chapter.at ∙ there q r.0 joined (st.chapter.chapter.present q) refl, joined))
        where
          there : (q : ℕ) → has n.present q ≡ true → is_some (l.joined (suc d) q) ≡ true → (b : Bool) → st.chapter.chapter.present q ≡ b → st.chapter.chapter.present q ≡ true
          there q member joined true e = e
          there q member joined false e = absurd (let bad : false ≡ true = sym (ap is_some (st.chapter.like.rest q member e).1) ∙ joined in cc)

      by_loss : list_any n.lost (members n) ≡ true → (q : ℕ) × IsStirred l d q
      by_loss some =
          let r = member_found n.lost n.comm some in
          (r.0, inr (ap (λ (c : List Seat). has_place c r.0) comm_now ∙ r.1, t.killed r.0 ∙ h.told p r.0 r.2))

      either : (b : Bool) → list_any (has_left n) n.present ≡ b → (b || list_any n.lost (members n)) ≡ true → (q : ℕ) × IsStirred l d q
      either true e m = let r = any_found (has_left n) n.present e in by_join r.0 r.1
      either false e m = by_loss m

  -- one that has a place joins with it
  has_place_too : is_later n.stage ≡ true → is_placed n.stage ≡ true → (nat_lt 0 d && has_place n.comm n.me) ≡ false → ⊥
  has_place_too later placed e =
      let bad : true ≡ false = sym (both_true (nat_lt 0 d) (has_place n.comm n.me) (less_is 0 d ((h.sane p k.1).later later)) (ap (has_place n.comm) own ∙ (h.sane p k.1).placed placed)) ∙ e in cc

  pub joins_does : (kind : Slot) → Reason n kind → Does job p (joined kind n) w z fate l polls
  joins_does kind (First at) =
      let b : HasBegun job (l.stands n.me) n = at_stage Begins at in
      let none : d ≡ 0 = (h.sane p k.1).fresh (ap is_begin at) in
      join_does slot.Start (ap phase_of at) (subst (λ (o : ℕ). is_join (suc o) slot.Start ≡ true) (sym none) refl)
      (subst (MayJoin l (suc d) slot.Start) (sym b.stand) (refl, ap suc none))
      (ap (state_left (blank (facts_of job))) b.stand ∙ sym b.empty) (λ e. b.empty) (ap is_balloting at)
  joins_does kind (HelpsOut at place may) =
      let b : Settled job (l.stands n.me) n = at_stage Arrived at in
      let r = b.spare place in
      join_does slot.Spare (ap phase_of at) (not_first d ((h.sane p k.1).later (ap is_later at)))
      (subst (MayJoin l (suc d) slot.Spare) (sym r.0) (refl, refl, stirred at may))
      (ap (state_left (blank (facts_of job))) r.0 ∙ sym r.1) (λ e. r.1) (ap is_balloting at)
  joins_does kind (HasFailed at) =
      let b : l.stands n.me ≡ stand.Failed n.epoch (state_of n) = at_stage Failed at in
      join_does slot.Error (ap phase_of at) (not_first d ((h.sane p k.1).later (ap is_later at)))
      (subst (MayJoin l (suc d) slot.Error) (sym b) (refl, refl))
      (ap (state_left (blank (facts_of job))) b)
      (λ e. absurd (has_place_too (ap is_later at) (ap is_placed at) e)) (ap is_balloting at)
  joins_does kind (IsDone state at walk) =
      let b : InBody (l.stands n.me) n = at_stage Walking at in
      let stands : l.stands n.me ≡ stand.Walking b.stay (Ends state) = b.stand ∙ ap (λ (o : Walk). stand.Walking b.stay (stand.shown o)) walk in
      join_does slot.Final (ap phase_of at) (not_first d ((h.sane p k.1).later (ap is_later at)))
      (subst (MayJoin l (suc d) slot.Final) (sym stands) (refl, ap suc (sym b.stays.within)))
      (ap (state_left (blank (facts_of job))) stands ∙ sym (ap (λ (o : Walk). state_at (stop_of o [])) walk))
      (λ e. absurd (has_place_too (ap is_later at) (ap is_placed at) e)) (ap is_balloting at)

  -- ---- turns in the ballot

  waiting : (old : Phase) → n.stage ≡ Joining old → Waits job (l.stands p) n
  waiting old at = subst (OfStage job (l.stands p) n) at (t.stands p k.1)

  pub moves_does : (old : Phase) → n.stage ≡ Joining old → (turn_in (next_ballot n) n old).poll ≡ poll.Moved → Does job p (moves n Joining (turn_in (next_ballot n) n old).phase) w z fate l polls
  moves_does old at e =
      let phase : Phase = (turn_in (next_ballot n) n old).phase in
      let is = polled s w z fate p here h tr old poll.Moved e in
      let b = waiting old at in
      record {
        plays = moves_plays s w z fate p here h tr old at e;
        goes = tt;
        links = silent_links (moves n Joining phase) _ (after_votes s w z fate p here h old at phase poll.Moved is) (record { stand = b.stand; empty = b.empty });
        kills = refl;
        adds = adds_same (moves n Joining phase).node l refl (grows_none l) mine_before.shaped mine_before.uncreated mine_before.past tt;
        texts = sp.texts p;
        sends = λ b. tt;
        heeds = heeds_quiet (moves n Joining phase) l (grows_none l) refl refl refl (ap is_balloting at) refl (in_polls.texts p) (λ b. tt);
        gives = gives_none s p (moves n Joining phase) w l l refl (λ c ne. refl) (λ b. tt);
      }

  pub speaks_does : (old : Phase) (slots : List Slot) → n.stage ≡ Joining old → (turn_in (next_ballot n) n old).poll ≡ poll.SendEstimate slots
      → Does job p (speaks (next_ballot n) n Joining (turn_in (next_ballot n) n old).phase slots) w z fate l polls
  speaks_does old slots at e = record {
    plays = speaks_plays s w z fate p here h tr old at slots e;
    goes = tt;
    links = silent_links (speaks (next_ballot n) n Joining phase slots) (after_turn w z p (record { phase = (turn_in (next_ballot n) n old).phase; poll = poll.SendEstimate slots })) (after_votes s w z fate p here h old at phase (poll.SendEstimate slots) is) (record { stand = b.stand; empty = b.empty });
    kills = refl;
    adds = adds_same (speaks (next_ballot n) n Joining phase slots).node l refl (grows_none l) mine_before.shaped mine_before.uncreated mine_before.past tt;
    texts = kept_true (λ c t. TruePart l c p t) n.me n.texts (text.Jest (suc d) (seat_of n.present n.me) slots) tt (sp.texts p);
    sends = λ b. others_true (TruePart l p b) (text.Jest (suc d) (seat_of n.present n.me) slots) tt n.me b n.present;
    heeds = heeds_quiet (speaks (next_ballot n) n Joining phase slots) l (grows_none l) refl refl refl (ap is_balloting at) refl
        (kept_true (TrueText polls) n.me n.texts (text.Jest (suc d) (seat_of n.present n.me) slots) tt (in_polls.texts p)) (λ b. others_true (TrueText polls p) (text.Jest (suc d) (seat_of n.present n.me) slots) tt n.me b n.present);
    gives = gives_none s p (speaks (next_ballot n) n Joining phase slots) w l l refl (λ c ne. put_other n.texts n.me c (n.texts n.me ++ text.Jest (suc d) (seat_of n.present n.me) slots ∷ []) (λ i. ne (i ∙ own)))
        (λ b. others_true (λ x. is_no_join x ≡ true) (text.Jest (suc d) (seat_of n.present n.me) slots) refl n.me b n.present);
  }
    where
      phase : Phase
      phase = (turn_in (next_ballot n) n old).phase

      is : shown_turn n p old ≡ record { phase = (turn_in (next_ballot n) n old).phase; poll = poll.SendEstimate slots }
      is = polled s w z fate p here h tr old (poll.SendEstimate slots) e

      b : Waits job (l.stands p) n
      b = waiting old at

  abbrev end_ledger : Ledger
  end_ledger = written job l (item.Ended (proc n.me))

  end_grows : Grows l end_ledger
  end_grows = grows_by l end_ledger p alive (λ q ne. key_other n.me stand.Ended l.stands q (λ e. ne (e ∙ own))) refl refl refl

  pub ends_does : (old : Phase) (slots : List Slot) → n.stage ≡ Joining old → (turn_in (next_ballot n) n old).poll ≡ poll.Decided slots → is_end n slots ≡ true → Does job p (ends n) w z fate l polls
  ends_does old slots at e last =
      let phase : Phase = (turn_in (next_ballot n) n old).phase in
      let is = polled s w z fate p here h tr old (poll.Decided slots) e in
      record {
        plays = ends_plays s w z fate p here h tr old at slots e last;
        goes = ((few, may_ending job w z fate l p here h t old at phase slots is last), tt);
        links = end_links job w z fate l p here h t old at phase slots is last;
        kills = refl;
        adds = adds_same (record n { stage = Over }) end_ledger refl end_grows mine_before.shaped mine_before.uncreated mine_before.past tt;
        texts = texts_then end_ledger end_grows;
        sends = λ b. tt;
        heeds = heeds_quiet (ends n) end_ledger end_grows refl refl refl (ap is_balloting at) refl (in_polls.texts p) (λ b. tt);
        gives = gives_none s p (ends n) w l end_ledger refl (λ c ne. refl) (λ b. tt);
      }

  abbrev behind : List Slot → Ledger
  behind slots =
      written job l (item.Repaired (proc n.me) (epoch_no (suc d)) (length (next_of d (era_of n) slots).comm) (nat_lt (length (next_of d (era_of n) slots).comm) (ranks_of job)) (next_of d (era_of n) slots).comm)

  repair_grows : (slots : List Slot) → ((q : ℕ) → q ≢ p → (behind slots).stands q ≡ l.stands q) → Grows l (behind slots)
  repair_grows slots far = record {
    chapters = λ e c is. chosen (λ (o : Option Chapter). o ≡ Some c) (e == suc d) (begun_by l (suc d) (next_of d (era_of n) slots).comm (l.chapters (suc d))) (l.chapters e)
        (λ b. again (suc d) (next_of d (era_of n) slots).comm c (l.chapters (suc d)) (ap l.chapters (sym (equal e (suc d) b)) ∙ is)) (λ b. is);
    entered = λ e j q v is. is;
    joined = λ e q v is. is;
    killed = λ q dead. ap is_killed (far q (λ e. let bad : true ≡ false = sym (subst (λ (o : ℕ). is_killed (l.stands o) ≡ true) e dead) ∙ alive in cc)) ∙ dead;
  }
    where
      again : (e : ℕ) (comm : List Seat) (c : Chapter) (o : Option Chapter) → o ≡ Some c → begun_by l e comm o ≡ Some c
      again e comm c None is = absurd (let bad : None ≡ Some c = is in cc)
      again e comm c (Some chapter) is = is

  -- what it entered was of its epoch or an earlier one
  before : (e j : ℕ) (v : Wanted) → l.entered e j p ≡ Some v → e < suc d
  before e j v is = elim (mine_before.past e j v is) [ inl less ↦ omega (arith, less) | inr now ↦ (let same = now.0 in omega (arith, same)) ]

  none_later : (j : ℕ) → l.entered (suc d) j p ≡ None
  none_later j = of (l.entered (suc d) j p) refl
    where
      of : (o : Option Wanted) → l.entered (suc d) j p ≡ o → l.entered (suc d) j p ≡ None
      of None i = i
      of (Some v) i = absurd (let less = before (suc d) j v i in omega (arith, less))

  pub repairs_does : (old : Phase) (slots : List Slot) → n.stage ≡ Joining old → (turn_in (next_ballot n) n old).poll ≡ poll.Decided slots → is_end n slots ≡ false
      → Does job p (repairs s (arrived (voters (is_join (suc d)) n.present slots) n)) w z fate l polls
  repairs_does old slots at e goes_on =
      let phase : Phase = (turn_in (next_ballot n) n old).phase in
      let is = polled s w z fate p here h tr old (poll.Decided slots) e in
      let links = repair_links job w z fate l p here h t old at phase slots is goes_on in
      record {
        plays = repairs_plays s w z fate p here h tr old at slots e goes_on;
        goes = ((few, may_repair job w z fate l p here h t old at phase slots is goes_on), tt);
        links = links;
        kills = refl;
        adds = adds_same (arrived (voters (is_join (suc d)) n.present slots) n) (behind slots) refl (repair_grows slots links.stands) mine_before.shaped (λ x. refl) (λ e j v i. inl (before e j v i)) refl;
        texts = texts_then (behind slots) (repair_grows slots links.stands);
        sends = λ b. tt;
        heeds =
            heeds_none w p (repairs s (arrived (voters (is_join (suc d)) n.present slots) n)) l (behind slots) polls in_polls (repair_grows slots links.stands) refl
            (told_same w l (behind slots) polls in_polls (repair_grows slots links.stands) refl)
            (record {
              balloting = λ o i. absurd (let bad : false ≡ true = ap is_balloting i in cc);
              free = λ j out. ap may_leave (in_polls.outside (suc d) j p (none_later j));
            }) (in_polls.texts p) (λ b. tt);
        gives = gives_none s p (repairs s (arrived (voters (is_join (suc d)) n.present slots) n)) w l (behind slots) refl (λ c ne. refl) (λ b. tt);
      }

  -- ---- along the walk

  at_own : (items : List Item) (x : Stand) → Wrote job l n.me items x → Wrote job l p items x
  at_own items x r = subst (λ (o : ℕ). Wrote job l o items x) own r

  write_grows : (items : List Item) (x : Stand) → Wrote job l p (noted items) x → (written_all job l (noted items)).entered ≡ l.entered → Grows l (written_all job l (noted items))
  write_grows items x r same = grows_by l (written_all job l (noted items)) p alive r.stands r.chapters r.joined same

  -- a step outside the ballots that only writes, and enters nothing
  pub writes_does : (items : List Item) (m : Node) (x : Stand) → Aside n (nodes.writing items m) → phase_of n.stage ≡ Outside → 0 < d → has_place n.comm p ≡ true → Wrote job l p (noted items) x
      → (written_all job l (noted items)).entered ≡ l.entered → AtStage job x m → ((c : ℕ) → m.texts c ≡ n.texts c) → StaysShaped job.names m.walk → ((g : ℕ) → (m.groups g).created ≡ false) → m.epoch ≡ n.epoch → m.calls ≡ n.calls
      → AtPlan job l p m m.stage → Heeds p (nodes.writing items m) l (written_all job l (noted items)) polls → Does job p (nodes.writing items m) w z fate l polls
  writes_does items m x aside out later place r same mine texts shaped none epoch calls at heeds = record {
    plays = aside_plays s w z fate p here h tr (nodes.writing items m) aside out later place;
    goes = r.goes;
    links = wrote_links (nodes.writing items m) (noted items) x r mine;
    kills = r.kills;
    adds = adds_same m (written_all job l (noted items)) same grows shaped none
        (λ e j v is. subst (λ (o : ℕ). (e < o) ⊎ ((e ≡ o) × (j ≤ m.calls))) (sym epoch) (subst (λ (o : ℕ). (e < d) ⊎ ((e ≡ d) × (j ≤ o))) (sym calls) (mine_before.past e j v is))) at;
    texts = λ c. subst (Each (TruePart (written_all job l (noted items)) c p)) (sym (texts c)) (texts_then (written_all job l (noted items)) grows c);
    sends = λ b. tt;
    heeds = heeds;
    gives = gives_none s p (nodes.writing items m) w l (written_all job l (noted items)) same (λ c ne. texts c) (λ b. tt);
  }
    where
      grows : Grows l (written_all job l (noted items))
      grows = write_grows items x r same

  named : 0 < d → n.role ≡ role_in l d n.me
  named later = of d refl later
    where
      of : (e : ℕ) → d ≡ e → 0 < e → n.role ≡ role_in l d n.me
      of zero same e = absurd (omega (arith, e))
      of (suc e) same pos =
          let b = born e (era (first_era s) fate e) (fate e) (era_of n) (subst (λ (o : ℕ). era (first_era s) fate o ≡ Some (era_of n)) same (h.here p k.1)) in
          let y = liked l e b.before (era (first_era s) fate e) (l.chapters e) (t.eras e) b.at in
          h.role p e b.before k.1 same b.at ∙ role_is e b.before.comm (ap comm_of y.at ∙ sym y.like.comm) ∙ ap (λ (o : ℕ). role_in l (suc e) o) (sym own) ∙ ap (λ (o : ℕ). role_in l o n.me) (sym same)
        where
          role_is : (e : ℕ) (c : List Seat) → comm_in l e ≡ c → role_after e (has_place c p) ≡ role_in l (suc e) p
          role_is zero c same = refl
          role_is (suc e) c same = ap (λ (o : List Seat). role_after (suc e) (has_place o p)) (sym same)

  abbrev begun_walk : Walk
  begun_walk = (inits s n).node.walk

  -- the walk of the body keeps to the first plan
  begins_keeping : is_some (l.chapters d) ≡ true → comm_in l d ≡ n.comm → Keeping job l (inits s n).node 0
  begins_keeping begun comm = record {
    plan = first_plan job (size n);
    at = (begun, ap (λ (seats : List Seat). first_plan job (length seats)) (sym comm));
    keeps = subst (λ (cs : List ℤ). Keeps (begun_walk) (job_plan job (record { size = size n; latest = no_latest; counters = cs })) no_latest) (begins_at_zero job facts.rules n.role (my_place n) (size n) (state_of n) (stop_shaped job.names n.walk mine_before.shaped))
        (facts.planned (view_at_init n.role (my_place n) (size n)) (body_start (facts_of job) n.role (my_place n) (size n) (state_of n)));
    only = facts.asks (view_at_init n.role (my_place n) (size n)) (body_start (facts_of job) n.role (my_place n) (size n) (state_of n));
  }

  -- and stops in states of the declared shape
  begins_shaped_now : StaysShaped job.names (inits s n).node.walk
  begins_shaped_now =
      stays_shaped (facts_of job) job.body facts.rules.body (body_start (facts_of job) n.role (my_place n) (size n) (state_of n))
      (begins_shaped job facts.rules n.role (my_place n) (size n) (state_of n) (stop_shaped job.names n.walk mine_before.shaped)) (view_at_init n.role (my_place n) (size n))

  pub inits_does : n.stage ≡ Arrived → has_place n.comm n.me ≡ true → Does job p (inits s n) w z fate l polls
  inits_does at place =
      let st = stance job w z fate l p h t here (ap phase_of at) in
      let b : Settled job (l.stands n.me) n = at_stage Arrived at in
      let later : 0 < d = (h.sane p k.1).later (ap is_later at) in
      let first : n.calls ≡ 0 = at_plan Arrived at in
      let comm : comm_in l d ≡ n.comm = ap comm_of st.chapter.at ∙ sym st.chapter.like.comm in
      writes_does (inits s n).items (inits s n).node (in_body job n l few comm (named later) place (b.seated place) st.current)
      (writes_aside n _ _ refl refl refl refl refl refl refl) (ap phase_of at) later (ap (has_place n.comm) (sym own) ∙ place)
      (at_own _ _ (inits_wrote job n l few comm (named later) place (b.seated place) st.current))
      (entered_same job l (inits s n).items (inits_open s n))
      (record { stay = _; stays = record { within = refl; calls = sym first; none_created = λ g. refl }; stand = refl })
      (λ c. refl) begins_shaped_now mine_before.uncreated refl refl
      (subst (Keeping job l (inits s n).node) (sym first) (begins_keeping (ap is_some st.chapter.at) comm))
      (let r = at_own _ _ (inits_wrote job n l few comm (named later) place (b.seated place) st.current) in
      heeds_quiet (inits s n) (written_all job l (noted (inits s n).items)) (write_grows (inits s n).items _ r (entered_same job l (inits s n).items (inits_open s n))) r.joined (returns_same job l (inits s n).items (inits_open s n)) refl
      (ap is_balloting at) refl (in_polls.texts p) (λ b. tt))

  pub walks_on : n.stage ≡ Walking → (0 < d) × (has_place n.comm p ≡ true)
  walks_on at = ((h.sane p k.1).later (ap is_later at), (h.sane p k.1).placed (ap is_placed at))

  pub keeping_now : n.stage ≡ Walking → Keeping job l n n.calls
  keeping_now at = at_plan Walking at

  pub passes_does : (rest : Walk) → n.stage ≡ Walking → n.walk ≡ Passes rest → Does job p (passes_on rest n) w z fate l polls
  passes_does rest at e =
      let b : InBody (l.stands p) n = subst (OfStage job (l.stands p) n) at (t.stands p k.1) in
      let g = keeping_now at in
      writes_does [] (record n { walk = rest }) (l.stands p) (writes_aside n _ _ refl refl refl refl refl refl (ap is_placed at)) (ap phase_of at) (walks_on at).0 (walks_on at).1 (wrote_none job l p (l.stands p) refl) refl
      (subst (OfStage job (l.stands p) (record n { walk = rest })) (sym at)
      (record { stay = b.stay; stays = record { within = b.stays.within; calls = b.stays.calls; none_created = b.stays.none_created }; stand = b.stand ∙ ap (λ (o : Walk). stand.Walking b.stay (stand.shown o)) e }))
      (λ c. refl) (subst (StaysShaped job.names) e mine_before.shaped) mine_before.uncreated refl refl
      (subst (AtPlan job l p (record n { walk = rest })) (sym at)
      (record { plan = g.plan; at = g.at; keeps = subst (λ (o : Walk). Keeps o g.plan no_latest) e g.keeps; only = subst (OnlyAsks IsOfNoGroup) e g.only }))
      (heeds_quiet (passes_on rest n) l (grows_none l) refl refl refl (ap is_balloting at) (ap is_balloting at) (in_polls.texts p) (λ b. tt))

  pub prints_does : (what : Printed) (rest : Walk) → n.stage ≡ Walking → n.walk ≡ Prints what rest → Does job p (prints what rest n) w z fate l polls
  prints_does what rest at e =
      let st = stance job w z fate l p h t here (ap phase_of at) in
      let b : InBody (l.stands n.me) n = at_stage Walking at in
      let g = keeping_now at in
      let stands : l.stands n.me ≡ stand.Walking b.stay (Prints what rest) = b.stand ∙ ap (λ (o : Walk). stand.Walking b.stay (stand.shown o)) e in
      let x : Stand = stand.Walking b.stay (stand.shown rest) in
      writes_does (prints what rest n).items (record n { walk = rest }) (stand.Walking b.stay (stand.shown rest)) (writes_aside n _ _ refl refl refl refl refl refl (ap is_placed at)) (ap phase_of at) (walks_on at).0 (walks_on at).1
      (at_own _ _ (wrote_one job n few (state_of n) l _ (stand.Walking b.stay (stand.shown rest)) (stand.Walking b.stay (stand.shown rest)) [] (ap (λ (o : Stand). standing n.me o l) (ap effects.printed stands))
      ((few, (subst (IsPrint d what) (sym stands) (b.stays.within, refl), st.current)), tt)
      (wrote_none job _ n.me _ (key_same n.me (stand.Walking b.stay (stand.shown rest)) l.stands))))
      refl
      (subst (OfStage job (stand.Walking b.stay (stand.shown rest)) (record n { walk = rest })) (sym at)
      (record { stay = b.stay; stays = record { within = b.stays.within; calls = b.stays.calls; none_created = b.stays.none_created }; stand = refl }))
      (λ c. refl) (subst (StaysShaped job.names) e mine_before.shaped) mine_before.uncreated refl refl
      (subst (AtPlan job l p (record n { walk = rest })) (sym at)
      (record { plan = g.plan; at = g.at; keeps = subst (λ (o : Walk). Keeps o g.plan no_latest) e g.keeps; only = (subst (OnlyAsks IsOfNoGroup) e g.only).1 }))
      (heeds_quiet (prints what rest n) (written_all job l (noted (prints what rest n).items)) (grows_by l (written_all job l (noted (prints what rest n).items)) p alive (λ q ne. key_other n.me (effects.printed (l.stands n.me)) l.stands q (λ i. ne (i ∙ own))) refl refl refl) refl refl refl
      (ap is_balloting at) (ap is_balloting at) (in_polls.texts p) (λ b. tt))
