-- Deeds of a node that enters a call, and of one that gathers parts in it.
use Rattle.std.proofs.Common.{zero, None, ◌||◌, ◌≡◌, ◌≢◌, ◌⊎◌, ◌<◌, ◌≤◌, ℕ, suc, Bool, true, false, ◌&&◌, ◌==◌, List, [], ◌∷◌, ◌++◌, length, Option, Some, inl, inr, arith, refl, sym, ap, subst, ◌∙◌}
use Rattle.std.specs.Prelude.{if◌then◌else◌, is_some, ℤ, get_or, map}
use Rattle.std.proofs.lemmas.Bool.Decides.{nat_tests}
use Rattle.std.proofs.lemmas.Bool.{cases_eq}
use Rattle.fx_ballot.specs.Laws.{vote_of}
use Rattle.fx_ballot.specs.Names.{seat_of, has}
use Rattle.fx_ballot.specs.Turn.{Outside}
use Rattle.fx_ballot.specs.World.{put}
use Rattle.fx_ballot.specs.World as ballot
use Rattle.fx_comm.specs.Seats.{Seat, has_place}
use Rattle.fx_item.specs.declared.item.Item.{Item}
use Rattle.fx_item.specs.declared.item.Item.TheVariants as item
use Rattle.fx_link.specs.declared.slot.Slot.{Slot}
use Rattle.fx_script.specs.declared.job.Job.{Job}
use Rattle.fx_walk.specs.declared.wanted.Wanted.{Wanted}
use Rattle.fx_walk.specs.Callbacks.{state_at, no_latest}
use Rattle.fx_walk.specs.Along.{stop_of}
use Rattle.fx_walk.specs.Plan.{Keeps}
use Rattle.fx_value.specs.Shape.{Fits, StaysShaped}
use Rattle.fx_walk.specs.Walk.{Walk, Reply}
use Rattle.fx_machine.specs.Ballots.{joined}
use Rattle.fx_machine.specs.Nodes as nodes
use Rattle.fx_machine.specs.Nodes.{Node, Act, Stage, Core, Begins, Joining, Arrived, Walking, Calling, Failed, Over, has_ended, members, my_place, size, state_of, to_others}
use Rattle.fx_machine.specs.Numbers.{proc, epoch_no}
use Rattle.fx_machine.specs.Setup.{Setup}
use Rattle.fx_machine.specs.Texts.{Text}
use Rattle.fx_fleet.specs.Runs.{job_setup}
use Rattle.fx_fleet.specs.World.{World, up, sent_to}
use Rattle.fx_calm.proofs.Lists.{Each, chosen, equal}
use Rattle.fx_calm.proofs.Standing.{noted}
use Rattle.fx_calm.proofs.Steps.{key_same, key_other}
use Rattle.fx_legal.specs.Effects as effects
use Rattle.fx_legal.specs.Effects.{written, state_left, begun_by}
use Rattle.fx_legal.specs.Groups.{at_key}
use Rattle.fx_legal.specs.Ledger.{Ledger, comm_in, comm_of, procs_of}
use Rattle.fx_legal.specs.Legal.{GoesOn, written_all}
use Rattle.fx_legal.specs.Stands as stand
use Rattle.fx_legal.specs.Stands.{Stand, is_killed}
use Rattle.fx_losses.specs.Eras.{era_of}
use Rattle.fx_losses.proofs.Asides.{Aside, writes_aside}
use Rattle.fx_losses.proofs.Plays.{aside_plays}
use Rattle.fx_losses.proofs.Openings.{Wrote}
use Rattle.fx_losses.proofs.Readings.{left_joined}
use Rattle.fx_losses.proofs.Shows.{phase_of, is_later, is_placed, Shows, Truthful, up_parts}
use Rattle.fx_losses.proofs.Tests.{first_of, second_of}
use Rattle.fx_calls.specs.Bodies.{IsOfNoGroup, IsOfParts, OnlyAsks}
use Rattle.fx_calls.proofs.Hearings.{Polls, TrueText}
use Rattle.fx_calls.proofs.Polled.{is_balloting, told_more, Polled, Heeds, heeds_none, node_quiet}
use Rattle.fx_ballot.specs.World.{may_leave}
use Rattle.fx_calls.proofs.Linked.{Linked, Links, stance}
use Rattle.fx_calm.proofs.Lists.{each_append, each_weaker, other_number}
use Rattle.fx_machine.specs.Texts as text
use Rattle.fx_losses.proofs.Shows.{IsTrue}
use Rattle.fx_losses.proofs.Actions.{no_vote_here}
use Rattle.fx_ballot.specs.Laws.{vote_of}
use Rattle.fx_calls.proofs.Delivered.{Gives, AsBefore, stream, has_part, is_no_join, no_join_ordered, places_give}
use Rattle.fx_calls.proofs.Owed.{Does, grows_by}
use Rattle.fx_calls.proofs.Parts.{TruePart, Spoken}
use Rattle.fx_calls.proofs.Plans.{PlanAt, first_plan, EntryAt, HavePlans, Grows, grows_none}
use Rattle.fx_calls.proofs.Standing.{InBody, InCall, AtStage}
use Rattle.fx_calls.proofs.Stepped.{CoreFits, Keeping, Inside, Stepped, Adds}
use Rattle.fx_base.specs.declared.names.Op.{Op}
use Rattle.fx_ballot.specs.Names.{Distinct}
use Rattle.fx_legal.specs.Calls.{AllAsked, own_number, own_elements, is_agreed, IsLikeFirst, ReturnsAlike, IsValue, IsShifted}
use Rattle.fx_legal.specs.Groups as tables
use Rattle.fx_legal.specs.Rules.{MayWrite, IsAsking, IsNextCall, EntersCall, Answers, IsInside, MayReturn, MayFail}
use Rattle.fx_legal.specs.Stands.{Stay, asked_of}
use Rattle.fx_machine.specs.Asking as asking
use Rattle.fx_machine.specs.Gathering as gathering
use Rattle.fx_machine.specs.Gathering.{target_of, source_of, own_part, total, are_gathered, passes, returns_number, returns_elements}
use Rattle.fx_machine.specs.Nodes.{Gathering, Sharing, Telling, Giving, Balloting, latest, goes_on}
use Rattle.fx_machine.specs.Numbers.{call_no}
use Rattle.fx_machine.specs.Waits.{Error, ByLoss, ByLeaving, returns_error}
use Rattle.fx_deeds.specs.Deeds.{AsksFor, IsIn}
use Rattle.std.proofs.lemmas.List.{length-map}
use Rattle.fx_comm.specs.Seats.{place_in}
use Rattle.fx_losses.proofs.Places.{place_is}
use Rattle.fx_losses.proofs.Asides.{sends_aside, places_sent}
use Rattle.fx_walk.specs.declared.wanted.Wanted.TheVariants as wanted
use Rattle.fx_walk.specs.Plan.{common_of, number_set, Reduce, Shift}
use Rattle.fx_walk.specs.Values.{reduced}
use Rattle.fx_walk.specs.Walk.{Given, Nothing, Number, Elements, Asks}
use Rattle.fx_calls.proofs.Calling.{asks_same, calling_of, granted, are_like, IsCause, parts_apart, no_told}
use Rattle.fx_calls.proofs.Gathered.{all_entered, total_is, shifted_is, given_as_many}
use Rattle.fx_calls.proofs.Parts.{IsPart, meant}
use Rattle.fx_calls.proofs.Places as places
use Rattle.fx_calls.proofs.Places.{era_apart, procs_distinct, sent_true, places_true}
use Rattle.fx_calls.proofs.Plans as plans
use Rattle.fx_calls.proofs.Plans.{IsBehind, IsEntry, number_due, plan_grows, entered_alike}
use Rattle.fx_calls.proofs.Stepped.{Behind, gives_next, keeps_behind, meets_next, node_latest, ledger_latest}
use Rattle.fx_ballot.specs.World.{Member, enters, is_outside}
use Rattle.fx_ballot.specs.World.{stays, own_after}
use Rattle.fx_machine.specs.Nodes.{silently}
use Rattle.fx_calls.proofs.Owed.{Facts}
use Rattle.fx_calls.proofs.Walks as walks

gives_itself : (d k : ℕ) → (((d == d) && (k == k)) || false) ≡ true
gives_itself d k = grind (arith, nat_tests)

pair_same : (a b : ℕ) → ((a == a) && (b == b)) ≡ true
pair_same a b = grind (arith, nat_tests)

module _ (job : Job) (w : World) (z : ℕ → ballot.World) (fate : ℕ → Option (List Slot)) (l : Ledger) (polls : Polls) (p : ℕ) (facts : Facts job w z fate l polls p) where
  abbrev s : Setup
  s = job_setup job

  abbrev n : Node
  n = w.node p

  abbrev d : ℕ
  d = n.epoch

  abbrev here : up (job_setup job) w p ≡ true
  here = facts.here

  abbrev h : Shows (job_setup job) w z fate
  h = facts.shows

  abbrev tr : Truthful (job_setup job) w z fate
  tr = facts.truthful

  abbrev t : Linked job w z fate l
  t = facts.linked

  abbrev in_step : Stepped job w l
  in_step = facts.stepped

  abbrev sp : Spoken l w
  sp = facts.spoken

  abbrev in_polls : Polled w l polls
  in_polls = facts.polled

  k : (p < s.procs) × (w.killed p ≡ false) × (has_ended n ≡ false)
  k = up_parts s w p here

  own : n.me ≡ p
  own = (h.sane p k.1).me

  few : n.me < procs_of job
  few = subst (λ (o : ℕ). o < procs_of job) (sym own) k.0

  -- ---- entering a call

  pub distinct : Distinct (members n)
  distinct = procs_distinct n.comm (era_apart s fate d (era_of n) (h.here p k.1))

  -- the epoch of the node is the last one of the journal
  pub comm_at : phase_of n.stage ≡ Outside → comm_in l d ≡ n.comm
  comm_at out = let x = stance job w z fate l p h t here out in ap comm_of x.chapter.at ∙ sym x.chapter.like.comm

  pub begun_at : phase_of n.stage ≡ Outside → is_some (l.chapters d) ≡ true
  begun_at out = let x = stance job w z fate l p h t here out in ap is_some x.chapter.at

  module _ (v : Wanted) (rest : Reply → Walk) (a : AsksFor (w.node p) v rest) (core : Core) (core_fits : CoreFits v core) where
    abbrev number : ℕ
    number = suc n.calls

    out : phase_of n.stage ≡ Outside
    out = ap phase_of a.stage

    body : InBody (l.stands n.me) n
    body = (walks.at_stage job w z fate l polls p facts) Walking a.stage

    left : Keeping job l n n.calls
    left = (walks.keeping_now job w z fate l polls p facts) a.stage

    of_parts : IsOfNoGroup v
    of_parts = (subst (OnlyAsks IsOfNoGroup) a.walk left.only).0

    was : l.stands n.me ≡ stand.Walking body.stay (Asks a.place v a.state rest)
    was = body.stand ∙ ap (λ (o : Walk). stand.Walking body.stay (stand.shown o)) a.walk

    abbrev stay_now : Stay
    stay_now = record (body.stay) { calls = suc body.stay.calls }

    abbrev stand_then : Stand
    stand_then = effects.entered (l.stands n.me)

    is_now : stand_then ≡ stand.Calling stay_now v a.state rest
    is_now = ap effects.entered was

    abbrev into : Option Wanted
    into = asked_of (at_key n.me stand_then l.stands n.me)

    asks_it : into ≡ Some v
    asks_it = ap asked_of (key_same n.me stand_then l.stands ∙ is_now)

    -- the ledger once it has entered the call
    abbrev pub behind_entry : Ledger
    behind_entry = effects.with_entry (proc n.me) (epoch_no d) (call_no number) (effects.stands_at (proc n.me) stand_then l)

    pub entry_is : behind_entry.entered d number p ≡ Some v
    entry_is =
        ap (λ (b : Bool). (if b then at_key n.me into (l.entered d number) else l.entered d number) p) (pair_same d number)
        ∙ ap (λ (o : ℕ). at_key o into (l.entered d number) p) own ∙ key_same p into (l.entered d number) ∙ asks_it

    entry_far : (e j q : ℕ) → q ≢ p → behind_entry.entered e j q ≡ l.entered e j q
    entry_far e j q ne = chosen (λ (f : ℕ → Option Wanted). f q ≡ l.entered e j q) ((e == d) && (j == number)) (at_key n.me into (l.entered d number)) (l.entered e j)
        (λ b.
        key_other n.me into (l.entered d number) q (λ same. ne (same ∙ own))
        ∙ ap (λ (o : ℕ). l.entered o number q) (sym (equal e d (first_of (e == d) (j == number) b))) ∙ ap (λ (o : ℕ). l.entered e o q) (sym (equal j number (second_of (e == d) (j == number) b)))) (λ b. refl)

    -- nothing else was entered
    pub entry_or : (e j : ℕ) (x : Wanted) → behind_entry.entered e j p ≡ Some x → ((e ≡ d) × (j ≡ number) × (x ≡ v)) ⊎ (l.entered e j p ≡ Some x)
    entry_or e j x is = of ((e == d) && (j == number)) refl
      where
        same_asked : (x y : Wanted) → Some x ≡ Some y → x ≡ y
        same_asked x y e = cc

        of : (b : Bool) → ((e == d) && (j == number)) ≡ b → ((e ≡ d) × (j ≡ number) × (x ≡ v)) ⊎ (l.entered e j p ≡ Some x)
        of true b =
            let epoch : e ≡ d = equal e d (first_of (e == d) (j == number) b) in
            let call : j ≡ number = equal j number (second_of (e == d) (j == number) b) in
            inl (epoch, call, same_asked x v (sym is ∙ ap (λ (o : ℕ). behind_entry.entered o j p) epoch ∙ ap (λ (o : ℕ). behind_entry.entered d o p) call ∙ entry_is))
        of false b = inr (sym (ap (λ (o : Bool). (if o then at_key n.me into (l.entered d number) else l.entered e j) p) b) ∙ is)

    pub none_before : (x : Wanted) → l.entered d number p ≡ Some x → ⊥
    none_before x is = elim ((walks.mine_before job w z fate l polls p facts).past d number x is) [
      | inl less ↦ omega (arith, less)
      | inr now ↦ (let late = now.1 in omega (arith, late))
    ]

    far_then : (q : ℕ) → q ≢ p → behind_entry.stands q ≡ l.stands q
    far_then q ne = key_other n.me stand_then l.stands q (λ e. ne (e ∙ own))

    pub entry_grows : Grows l behind_entry
    entry_grows = record {
      chapters = λ e c is. is;
      entered = λ e j q x is. elim (cases_eq q p) [
        | inl same ↦ subst (λ (o : ℕ). behind_entry.entered e j o ≡ Some x) (sym same) (kept e j x (subst (λ (o : ℕ). l.entered e j o ≡ Some x) same is))
        | inr ne ↦ entry_far e j q ne ∙ is
      ];
      joined = λ e q x is. is;
      killed = λ q dead. ap is_killed (far_then q (λ e. let bad : true ≡ false = sym (subst (λ (o : ℕ). is_killed (l.stands o) ≡ true) e dead) ∙ (walks.alive job w z fate l polls p facts) in cc)) ∙ dead;
    }
      where
        kept : (e j : ℕ) (x : Wanted) → l.entered e j p ≡ Some x → behind_entry.entered e j p ≡ Some x
        kept e j x is = of ((e == d) && (j == number)) refl
          where
            of : (b : Bool) → ((e == d) && (j == number)) ≡ b → behind_entry.entered e j p ≡ Some x
            of true b =
                let epoch : e ≡ d = equal e d (first_of (e == d) (j == number) b) in
                let call : j ≡ number = equal j number (second_of (e == d) (j == number) b) in
                absurd (none_before x (ap (λ (o : ℕ). l.entered o number p) (sym epoch) ∙ ap (λ (o : ℕ). l.entered e o p) (sym call) ∙ is))
            of false b = ap (λ (o : Bool). (if o then at_key n.me into (l.entered d number) else l.entered e j) p) b ∙ is

    entry_met : IsEntry job l d n.calls v
    entry_met = record { before = left.plan; at = left.at; meets = meets_next a.place v a.state rest left.plan of_parts (subst (λ (o : Walk). Keeps o left.plan no_latest) a.walk left.keeps); long = gives_next job.names a.place v a.state rest left.plan of_parts (subst (StaysShaped job.names) a.walk (walks.mine_before job w z fate l polls p facts).shaped).0 (subst (λ (o : Walk). Keeps o left.plan no_latest) a.walk left.keeps) }

    abbrev pub node_then : Node
    node_then = asking.entered core n

    pub entry_adds : Adds job p node_then l behind_entry
    entry_adds = record {
      grows = entry_grows;
      far = λ e j q ne. entry_far e j q ne;
      entries = λ e j x is. elim (entry_or e j x is) [
        | inl same ↦ subst (λ (o : ℕ). EntryAt job behind_entry o j x) (sym same.0) (subst (λ (o : ℕ). EntryAt job behind_entry d o x) (sym same.1)
            (subst (EntryAt job behind_entry d number) (sym same.2) (plans.entry_grows job l behind_entry entry_grows d number v entry_met)))
        | inr old ↦ plans.entry_grows job l behind_entry entry_grows e j x ((walks.entries_before job w z fate l polls p facts) e j x old)
      ];
      mine = record {
        shaped = (walks.mine_before job w z fate l polls p facts).shaped;
        uncreated = (walks.mine_before job w z fate l polls p facts).uncreated;
        past = λ e j x is. elim (entry_or e j x is) [
          | inl same ↦ inr (same.0, (let call = same.1 in omega (arith, call)))
          | inr old ↦ later e j ((walks.mine_before job w z fate l polls p facts).past e j x old)
        ];
        at = record {
          before = n.calls;
          calls = refl;
          keeping = record { plan = left.plan; at = plan_grows job l behind_entry entry_grows d n.calls left.plan left.at; keeps = left.keeps; only = left.only };
          fits = λ place asked state other e. subst (λ (o : Wanted). CoreFits o core) (asks_same a.place place v asked a.state state rest other (sym a.walk ∙ e)) core_fits;
          entered = λ place asked state other e. entry_is ∙ ap Some (asks_same a.place place v asked a.state state rest other (sym a.walk ∙ e));
        };
      };
    }
      where
        later : (e j : ℕ) → (e < d) ⊎ ((e ≡ d) × (j ≤ n.calls)) → (e < d) ⊎ ((e ≡ d) × (j ≤ number))
        later e j (inl less) = inl less
        later e j (inr now) = inr (now.0, (let few = now.1 in omega (arith, few)))

    pub may_enter : EntersCall l (proc n.me) (epoch_no d) (call_no number) v
    may_enter = (
      (
        record {
          asks = subst (IsAsking d v) (sym was) (body.stays.within, refl);
          granted = granted d l.groups (l.stands n.me) v of_parts;
          current = (stance job w z fate l p h t here out).current;
        },
        subst (IsNextCall (call_no number)) (sym was) (ap suc (sym body.stays.calls)),
      ),
      are_like (common_of v) (l.entered d number) (comm_in l d) (λ q x is. entered_alike job l d number x v (in_step.entries d number q x is) entry_met),
    )

    pub entry_at : AtStage job (behind_entry.stands p) node_then
    entry_at = record {
      stay = stay_now;
      stays = record { within = body.stays.within; calls = ap suc body.stays.calls; none_created = body.stays.none_created };
      place = a.place;
      asked = v;
      state = a.state;
      rest = rest;
      walk = a.walk;
      stand = ap (λ (o : ℕ). at_key o stand_then l.stands p) own ∙ key_same p stand_then l.stands ∙ is_now;
    }

    pub entry_links : (step : Act) → AtStage job (behind_entry.stands p) step.node → Links job p step w fate (z d) l behind_entry
    entry_links step mine = record { stands = far_then; mine = mine; joined_here = λ q. t.joined d q; joined = λ e q ne. refl; eras = (walks.standing_eras job w z fate l polls p facts) behind_entry far_then refl refl }

    abbrev EntryPart : ℕ → Text → Type 0
    EntryPart q x = TruePart behind_entry p q x

    -- what it said before it said in other epochs
    pub entry_early : (b : ℕ) → Each (AsBefore l behind_entry p) (stream w p b)
    entry_early b = each_weaker (IsTrue s z fate p) (AsBefore l behind_entry p) of (stream w p b) (each_append (IsTrue s z fate p) ((w.node b).texts p) (w.link p b) (tr.texts b p) (tr.links p b))
      where
        of : (x : Text) → IsTrue s z fate p x → AsBefore l behind_entry p x
        of (text.Join zero kind) true_text = tt
        of (text.Join (suc e) kind) true_text = λ j o at. elim (entry_or e j o at) [
          | inl same ↦ absurd (let bad : None ≡ Some kind = sym (no_vote_here s w z fate p here h kind out) ∙ ap (λ (y : ℕ). vote_of (z y) p) (sym same.0) ∙ true_text in cc)
          | inr old ↦ old
        ]
        of (text.Jest e r slots) true_text = tt
        of (text.Part e j values) true_text = tt
        of (text.Vote e j o) true_text = tt
        of (text.Est e j r slots) true_text = tt
        of (text.Share e j packed) true_text = tt
        of (text.Tell e j told) true_text = tt
        of (text.Help e j packed) true_text = tt
        of (text.Give e j packed) true_text = tt

    -- what it enters goes to each place
    entry_gives : (meant : ℕ → List Text) (it : Item) → ((x : ℕ) → has_part d number (meant x) ≡ true) → ((x : ℕ) → Each (λ t. is_no_join t ≡ true) (meant x)) → Gives s p (asking.enters n core it meant) w l behind_entry
    entry_gives meant it gives_part no_joins = record {
      other = λ c ne. refl;
      fresh = λ b e j o ne at is_parts place. elim (entry_or e j o at) [
        | inl same ↦ inr (subst (λ (y : ℕ). has_part y j (sent_to b (nodes.to_places n meant)) ≡ true) (sym same.0) (subst (λ (y : ℕ). has_part d y (sent_to b (nodes.to_places n meant)) ≡ true) (sym same.1)
            (places_give d number n meant b gives_part (places.has_seat n.comm b ∙ ap (λ (seats : List Seat). has_place seats b) (sym (comm_at out)) ∙ ap (λ (y : ℕ). has_place (comm_in l y) b) (sym same.0) ∙ place) (apart b ne))))
        | inr old ↦ inl old
      ];
      early = λ b u ne. entry_early b;
      late = λ b u ne. no_join_ordered behind_entry p b (stream w p b) (sent_to b (nodes.to_places n meant))
          (sent_true (λ q x. is_no_join x ≡ true) b (nodes.to_places n meant) (places_true (λ q x. is_no_join x ≡ true) n meant distinct (λ q place. no_joins (seat_of (members n) q))));
    }
      where
        apart : (b : ℕ) → b ≢ p → (b == n.me) ≡ false
        apart b ne = other_number b n.me (λ e. ne (e ∙ own))

    enters_does : (it : Item) (meant : ℕ → List Text) → noted (it ∷ []) ≡ it ∷ [] → written job l it ≡ behind_entry → MayWrite job l it → Aside n (asking.enters n core it meant)
        → ((q : ℕ) → has (members n) q ≡ true → Each (EntryPart q) (meant (seat_of (members n) q))) → is_balloting (Calling core) ≡ false → ((x : ℕ) → Each (TrueText polls p) (meant x)) → ((x : ℕ) → has_part d number (meant x) ≡ true) → ((x : ℕ) → Each (λ t. is_no_join t ≡ true) (meant x)) → Does job p (asking.enters n core it meant) w z fate l polls
    enters_does it meant shown is may aside true_parts apart says gives_part no_joins = record {
      plays = aside_plays s w z fate p here h tr (asking.enters n core it meant) aside out ((walks.walks_on job w z fate l polls p facts) a.stage).0 ((walks.walks_on job w z fate l polls p facts) a.stage).1;
      goes = subst (GoesOn job l) (sym shown) (may, tt);
      links = subst (Links job p (asking.enters n core it meant) w fate (z d) l) (sym ledger_is) (entry_links (asking.enters n core it meant) entry_at);
      kills = ap (λ (x : Ledger). x.kills) ledger_is;
      adds = subst (Adds job p node_then l) (sym ledger_is) entry_adds;
      texts = λ c. subst (λ (x : Ledger). Each (TruePart x c p) (n.texts c)) (sym ledger_is) ((walks.texts_then job w z fate l polls p facts) behind_entry entry_grows c);
      sends = λ b. subst (λ (x : Ledger). Each (TruePart x p b) (sent_to b (nodes.to_places n meant))) (sym ledger_is) (sent_true EntryPart b (nodes.to_places n meant) (places_true EntryPart n meant distinct true_parts));
      heeds = subst (λ (x : Ledger). Heeds p (asking.enters n core it meant) l x polls) (sym ledger_is)
          ((walks.heeds_quiet job w z fate l polls p facts) (asking.enters n core it meant) behind_entry entry_grows refl refl refl (ap is_balloting a.stage) apart (in_polls.texts p)
          (λ b. sent_true (λ q x. TrueText polls p x) b (nodes.to_places n meant) (places_true (λ q x. TrueText polls p x) n meant distinct (λ q place. says (seat_of (members n) q)))));
      gives = subst (λ (x : Ledger). Gives s p (asking.enters n core it meant) w l x) (sym ledger_is) (entry_gives meant it gives_part no_joins);
    }
      where
        ledger_is : written_all job l (noted (it ∷ [])) ≡ behind_entry
        ledger_is = ap (written_all job l) shown ∙ is

    -- a part says what it entered the call with
    entry_part : (q : ℕ) (values : List ℤ) → values ≡ meant (comm_in l d) p q v → IsPart behind_entry d number p q values
    entry_part q values are = record { asked = v; at = entry_is; begun = begun_at out; are = are }

  pub enters_barrier_does : (rest : Reply → Walk) → AsksFor n wanted.Barrier rest → Does job p (asking.enters_barrier n) w z fate l polls
  enters_barrier_does rest a =
      enters_does wanted.Barrier rest a Gathering tt (item.Barrier (proc n.me) (epoch_no d) (call_no (suc n.calls))) (λ x. asking.part n [] ∷ []) refl refl (few, may_enter wanted.Barrier rest a Gathering tt)
      (sends_aside n _ _ _ refl refl refl refl refl refl (places_sent n (λ x. asking.part n [] ∷ []) (λ x. (tt, tt))) refl)
      (λ q place. (entry_part wanted.Barrier rest a Gathering tt q [] refl, tt)) refl (λ x. (tt, tt)) (λ x. gives_itself d (suc n.calls)) (λ x. (refl, tt))

  pub enters_reduction_does : (op : Op) (value : ℤ) (rest : Reply → Walk) → AsksFor n (wanted.Reduce op value) rest → Does job p (asking.enters_reduction n op value) w z fate l polls
  enters_reduction_does op value rest a =
      enters_does (wanted.Reduce op value) rest a Gathering tt (item.Reduce (proc n.me) (epoch_no d) (call_no (suc n.calls)) op value) (λ x. asking.part n (value ∷ []) ∷ []) refl refl (few, may_enter (wanted.Reduce op value) rest a Gathering tt)
      (sends_aside n _ _ _ refl refl refl refl refl refl (places_sent n (λ x. asking.part n (value ∷ []) ∷ []) (λ x. (tt, tt))) refl)
      (λ q place. (entry_part (wanted.Reduce op value) rest a Gathering tt q (value ∷ []) refl, tt)) refl (λ x. (tt, tt)) (λ x. gives_itself d (suc n.calls)) (λ x. (refl, tt))

  pub enters_shift_does : (by : ℕ) (elements : List ℤ) (rest : Reply → Walk) → AsksFor n (wanted.Shift by elements) rest → Does job p (asking.enters_shift n by elements) w z fate l polls
  enters_shift_does by elements rest a =
      enters_does (wanted.Shift by elements) rest a Gathering tt (item.Shift (proc n.me) (epoch_no d) (call_no (suc n.calls)) by elements)
      (λ x. asking.part n (if x == target_of (size n) by (my_place n) then elements else []) ∷ []) refl refl (few, may_enter (wanted.Shift by elements) rest a Gathering tt)
      (sends_aside n _ _ _ refl refl refl refl refl refl (places_sent n (λ x. asking.part n (if x == target_of (size n) by (my_place n) then elements else []) ∷ []) (λ x. (tt, tt))) refl)
      (λ q place. (entry_part (wanted.Shift by elements) rest a Gathering tt q (if seat_of (members n) q == target_of (size n) by (my_place n) then elements else []) (of_comm q), tt)) refl (λ x. (tt, tt)) (λ x. gives_itself d (suc n.calls)) (λ x. (refl, tt))
    where
      of_comm : (q : ℕ) → (if seat_of (members n) q == target_of (size n) by (my_place n) then elements else []) ≡ meant (comm_in l d) p q (wanted.Shift by elements)
      of_comm q =
          ap (λ (o : ℕ). if seat_of (members n) q == target_of (size n) by (seat_of (members n) o) then elements else []) own
          ∙ ap (λ (seats : List Seat). meant seats p q (wanted.Shift by elements)) (sym (comm_at (ap phase_of a.stage)))

  -- ---- behind a call

  module _ (core : Core) (v : Wanted) (rest : Reply → Walk) (i : IsIn (w.node p) core v rest) where
    outside : phase_of n.stage ≡ Outside
    outside = ap phase_of i.stage

    pub within : InCall (l.stands n.me) n
    within = (walks.at_stage job w z fate l polls p facts) (Calling core) i.stage

    pub inside : Inside job l p n core
    inside = (walks.at_plan job w z fate l polls p facts) (Calling core) i.stage

    pub stood : l.stands n.me ≡ stand.Calling within.stay v i.state rest
    stood = within.stand ∙ ap (calling_of within.stay) (sym within.walk ∙ i.walk)

    asks_parts : IsOfNoGroup v
    asks_parts = (subst (OnlyAsks IsOfNoGroup) i.walk inside.keeping.only).0

    pub entered_it : l.entered d n.calls p ≡ Some v
    entered_it = inside.entered i.place v i.state rest i.walk

    pub entered_so : (q : ℕ) (x : Wanted) → l.entered d n.calls q ≡ Some x → common_of x ≡ common_of v
    entered_so q x is = entered_alike job l d n.calls x v (in_step.entries d n.calls q x is) (in_step.entries d n.calls p v entered_it)

    pub later_place : (0 < d) × (has_place n.comm p ≡ true)
    later_place = ((h.sane p k.1).later (ap is_later i.stage), (h.sane p k.1).placed (ap is_placed i.stage))

    seated : has (members n) p ≡ true
    seated = places.has_seat n.comm p ∙ later_place.1

    latest_is : latest n ≡ no_latest
    latest_is = node_latest n (walks.mine_before job w z fate l polls p facts).uncreated

    -- where it stands behind a reply
    abbrev replied : Given → Stand
    replied given = stand.Walking within.stay (stand.shown (rest (record { given = given; latest = latest n })))

    pub returned_as : (groups : ℕ → tables.Group) (given : Given) → effects.returned groups given (l.stands n.me) ≡ replied given
    returned_as groups given =
        ap (effects.returned groups given) stood
        ∙ ap (λ (o : List ℤ). stand.Walking within.stay (stand.shown (rest (record { given = given; latest = o })))) (ledger_latest groups within.stay within.stays.none_created ∙ sym latest_is)

    pub may_return : (it : Item) → Answers it v → MayReturn l (proc n.me) (epoch_no d) (call_no n.calls) it
    may_return it answers = (
      subst (IsInside d n.calls (Answers it)) (sym stood) (within.stays.within, within.stays.calls, answers),
      (stance job w z fate l p h t here outside).current,
    )

    pub returns_does : (it : Item) (given : Given) (x : Stand) → x ≡ replied given → Wrote job l p (noted (it ∷ [])) x → (written_all job l (noted (it ∷ []))).entered ≡ l.entered
        → number_set (common_of v) given ≡ number_due (common_of v) (plans.numbers_of (l.entered d n.calls) (comm_in l d)) → Fits v given → AllAsked (l.entered d n.calls) (comm_in l d)
        → Heeds p (nodes.writing (it ∷ []) (goes_on rest given n)) l (written_all job l (noted (it ∷ []))) polls → Does job p (nodes.writing (it ∷ []) (goes_on rest given n)) w z fate l polls
    returns_does it given x at r same set fits all heeds =
        (walks.writes_does job w z fate l polls p facts) (it ∷ []) (goes_on rest given n) x (writes_aside n _ _ refl refl refl refl refl refl refl) outside later_place.0 later_place.1 r same
        (record { stay = within.stay; stays = record { within = within.stays.within; calls = within.stays.calls; none_created = within.stays.none_created }; stand = at })
        (λ c. refl) ((subst (StaysShaped job.names) i.walk (walks.mine_before job w z fate l polls p facts).shaped).1 (record { given = given; latest = latest n }) fits)
        (walks.mine_before job w z fate l polls p facts).uncreated refl refl
        (record {
          plan = b.left;
          at = subst (λ (o : ℕ). PlanAt job l d o b.left) (sym inside.calls) (
            inside.keeping.plan,
            inside.keeping.at,
            subst (λ (o : ℕ). AllAsked (l.entered d o) (comm_in l d)) inside.calls all,
            subst (λ (o : ℕ). IsBehind inside.keeping.plan (plans.numbers_of (l.entered d o) (comm_in l d)) b.left) inside.calls b.behind,
          );
          keeps = subst (λ (o : List ℤ). Keeps (rest (record { given = given; latest = o })) b.left no_latest) (sym latest_is) b.keeps;
          only = (subst (OnlyAsks IsOfNoGroup) i.walk inside.keeping.only).1 (record { given = given; latest = latest n });
        }) heeds
      where
        b : Behind rest given inside.keeping.plan (plans.numbers_of (l.entered d n.calls) (comm_in l d))
        b = keeps_behind i.place v i.state rest inside.keeping.plan given (plans.numbers_of (l.entered d n.calls) (comm_in l d)) asks_parts
            (subst (λ (o : Walk). Keeps o inside.keeping.plan no_latest) i.walk inside.keeping.keeps) set

    module _ (all : are_gathered (w.node p) v ≡ true) where
      all_in : AllAsked (l.entered d n.calls) (comm_in l d)
      all_in = all_entered l n p own (comm_at outside) distinct seated v entered_it entered_so (sp.texts p) all

      total_as : (op : Op) → common_of v ≡ Reduce op → own_part v ≡ own_number (Some v) ∷ [] → total op n v ≡ reduced op (plans.numbers_of (l.entered d n.calls) (comm_in l d))
      total_as = total_is l n p own (comm_at outside) distinct seated v entered_it entered_so (sp.texts p) all

      shifted_as : (by : ℕ) → common_of v ≡ Shift by → own_part v ≡ own_elements (Some v)
          → gathering.numbers_of n v (source_of (size n) by (my_place n)) ≡ get_or (map (λ s. own_elements (l.entered d n.calls s.1.0)) (comm_in l d)) (source_of (size n) by (my_place n)) []
      shifted_as = shifted_is l n p own (comm_at outside) distinct seated v entered_it entered_so (sp.texts p) all

      as_many : (by : ℕ) (elements : List ℤ) → v ≡ wanted.Shift by elements → length (gathering.numbers_of n v (source_of (size n) by (my_place n))) ≡ length elements
      as_many = given_as_many l n p own (comm_at outside) distinct seated v entered_it entered_so (sp.texts p) all

    -- a call that fails
    fails_does : (it : Item) → Wrote job l p (noted (it ∷ [])) (stand.Failed d (state_of n)) → (written_all job l (noted (it ∷ []))).entered ≡ l.entered
        → Heeds p (nodes.writing (it ∷ []) (record n { stage = Failed })) l (written_all job l (noted (it ∷ []))) polls → Does job p (nodes.writing (it ∷ []) (record n { stage = Failed })) w z fate l polls
    fails_does it r same heeds =
        (walks.writes_does job w z fate l polls p facts) (it ∷ []) (record n { stage = Failed }) (stand.Failed d (state_of n)) (writes_aside n _ _ refl refl refl refl refl refl refl) outside later_place.0 later_place.1 r same refl
        (λ c. refl) (walks.mine_before job w z fate l polls p facts).shaped (walks.mine_before job w z fate l polls p facts).uncreated refl refl tt heeds

    failed_as : effects.failed (l.stands n.me) ≡ stand.Failed d (state_of n)
    failed_as =
        ap effects.failed stood
        ∙ ap (λ (o : ℕ). stand.Failed o i.state) within.stays.within
        ∙ ap (stand.Failed d) (sym (ap (λ (o : Walk). state_at (stop_of o [])) i.walk))

    may_stop : MayFail l (proc n.me) (epoch_no d) (call_no n.calls)
    may_stop = (subst (IsInside d n.calls (λ asked. Unit {0})) (sym stood) (within.stays.within, within.stays.calls, tt), (stance job w z fate l p h t here outside).current)

    abbrev pub error_item : Error → Item
    error_item (ByLoss x) = item.Failed (proc n.me) (epoch_no d) (call_no n.calls) (proc x)
    error_item (ByLeaving x) = item.Revoked (proc n.me) (epoch_no d) (call_no n.calls) (proc x)

    -- where an error is, by a loss or by a leaving of a place
    abbrev pub IsTrueError : Error → Type 0
    IsTrueError (ByLoss x) = (has_place n.comm x ≡ true) × (w.killed x ≡ true)
    IsTrueError (ByLeaving x) = (has_place n.comm x ≡ true) × (is_some (vote_of (z d) x) ≡ true)

    abbrev stopped : Node
    stopped = record n { stage = Failed }

    pub error_does : (error : Error) → IsTrueError error → ReturnsAlike l (proc n.me) (epoch_no d) (call_no n.calls) (error_item error)
        → Heeds p (nodes.writing (error_item error ∷ []) (record n { stage = Failed })) l (written job l (error_item error)) polls → Does job p (returns_error n error) w z fate l polls
    error_does (ByLoss x) cause alike heeds =
        fails_does (item.Failed (proc n.me) (epoch_no d) (call_no n.calls) (proc x))
        (record {
          goes = ((few, ((may_stop, alike), ap (λ (seats : List Seat). has_place seats x) (comm_at outside) ∙ cause.0, t.killed x ∙ cause.1)), tt);
          mine = ap (λ (o : ℕ). at_key o (effects.failed (l.stands n.me)) l.stands p) own ∙ key_same p (effects.failed (l.stands n.me)) l.stands ∙ failed_as;
          stands = λ q ne. key_other n.me (effects.failed (l.stands n.me)) l.stands q (λ e. ne (e ∙ own));
          joined = refl;
          chapters = refl;
          kills = refl;
        }) refl heeds
    error_does (ByLeaving x) cause alike heeds =
        fails_does (item.Revoked (proc n.me) (epoch_no d) (call_no n.calls) (proc x))
        (record {
          goes = ((few, ((may_stop, alike), ap (λ (seats : List Seat). has_place seats x) (comm_at outside) ∙ cause.0, ap is_some (t.joined d x) ∙ cause.1)), tt);
          mine = ap (λ (o : ℕ). at_key o (effects.failed (l.stands n.me)) l.stands p) own ∙ key_same p (effects.failed (l.stands n.me)) l.stands ∙ failed_as;
          stands = λ q ne. key_other n.me (effects.failed (l.stands n.me)) l.stands q (λ e. ne (e ∙ own));
          joined = refl;
          chapters = refl;
          kills = refl;
        }) refl heeds

    -- the ledger behind a return, where only this process stands elsewhere
    pub return_grows : (g : Ledger) (x : Stand) → g.stands ≡ at_key n.me x l.stands → g.chapters ≡ l.chapters → g.joined ≡ l.joined → g.entered ≡ l.entered → Grows l g
    return_grows g x stands chapters joined entered =
        grows_by l g p (walks.alive job w z fate l polls p facts) (λ q ne. ap (λ (f : ℕ → Stand). f q) stands ∙ key_other n.me x l.stands q (λ e. ne (e ∙ own))) chapters joined entered

    -- a return from a call of parts
    heeds_parts : (it : Item) (m : Node) (g : Ledger) → Grows l g → IsOfParts v → g.joined ≡ l.joined → g.returns ≡ tables.at_pair d n.calls (l.returns d n.calls ++ it ∷ []) l.returns → is_balloting (Calling core) ≡ false → m.epoch ≡ d → is_balloting m.stage ≡ false
        → ((c : ℕ) → m.texts c ≡ n.texts c) → Heeds p (nodes.writing (it ∷ []) m) l g polls
    heeds_parts it m g grows parted joined returns apart epoch after texts =
        heeds_none w p (nodes.writing (it ∷ []) m) l g polls in_polls grows joined
        (told_more w l g polls polls in_polls grows (λ e j q slots x. x) d n.calls it returns (record { by = p; asked = v; entered = grows.entered d n.calls p v entered_it; told = no_told g polls d n.calls it v parted }))
        (node_quiet polls p n m epoch (ap is_balloting i.stage ∙ apart) after (walks.polls_before job w z fate l polls p facts)) (λ c. subst (Each (TrueText polls c)) (sym (texts c)) (in_polls.texts p c)) (λ b. tt)

    not_agreed : IsOfParts v → is_agreed (asked_of (l.stands n.me)) ≡ false
    not_agreed parted = ap (λ (o : Stand). is_agreed (asked_of o)) stood ∙ parts_apart v parted

    alike_parts : IsOfParts v → (it : Item) → ReturnsAlike l (proc n.me) (epoch_no d) (call_no n.calls) it
    alike_parts parted it = subst (λ (o : Bool). IsLikeFirst it o (l.returns d n.calls)) (sym (not_agreed parted)) tt

  -- a call of parts that fails
  pub gathers_no_more_does : (v : Wanted) (rest : Reply → Walk) (error : Error) → IsIn n Gathering v rest → IsOfParts v → IsCause n error → Does job p (returns_error n error) w z fate l polls
  gathers_no_more_does v rest (ByLoss x) i parted cause =
      error_does Gathering v rest i (ByLoss x) (cause.0, h.told p x cause.1) (alike_parts Gathering v rest i parted (error_item Gathering v rest i (ByLoss x)))
      (heeds_parts Gathering v rest i (error_item Gathering v rest i (ByLoss x)) (record n { stage = Failed }) (written job l (error_item Gathering v rest i (ByLoss x)))
      (return_grows Gathering v rest i (written job l (error_item Gathering v rest i (ByLoss x))) (effects.failed (l.stands n.me)) refl refl refl refl) parted refl refl refl refl refl (λ c. refl))
  gathers_no_more_does v rest (ByLeaving x) i parted cause =
      error_does Gathering v rest i (ByLeaving x) (cause.0, (left_joined s w z fate p here h tr x cause.1).1) (alike_parts Gathering v rest i parted (error_item Gathering v rest i (ByLeaving x)))
      (heeds_parts Gathering v rest i (error_item Gathering v rest i (ByLeaving x)) (record n { stage = Failed }) (written job l (error_item Gathering v rest i (ByLeaving x)))
      (return_grows Gathering v rest i (written job l (error_item Gathering v rest i (ByLeaving x))) (effects.failed (l.stands n.me)) refl refl refl refl) parted refl refl refl refl refl (λ c. refl))

  pub passes_barrier_does : (rest : Reply → Walk) → IsIn n Gathering wanted.Barrier rest → are_gathered n wanted.Barrier ≡ true → Does job p (passes n rest) w z fate l polls
  passes_barrier_does rest i all =
      returns_does Gathering wanted.Barrier rest i it Nothing (effects.returned groups_then Nothing (l.stands n.me)) (returned_as Gathering wanted.Barrier rest i groups_then Nothing)
      (record {
        goes = ((few, (may_return Gathering wanted.Barrier rest i it tt, all_in Gathering wanted.Barrier rest i all, alike_parts Gathering wanted.Barrier rest i tt it)), tt);
        mine = ap (λ (o : ℕ). at_key o (effects.returned groups_then Nothing (l.stands n.me)) l.stands p) own ∙ key_same p (effects.returned groups_then Nothing (l.stands n.me)) l.stands;
        stands = λ q ne. key_other n.me (effects.returned groups_then Nothing (l.stands n.me)) l.stands q (λ e. ne (e ∙ own));
        joined = refl;
        chapters = refl;
        kills = refl;
      }) refl refl tt (all_in Gathering wanted.Barrier rest i all)
      (heeds_parts Gathering wanted.Barrier rest i it (goes_on rest Nothing n) (written job l it) (return_grows Gathering wanted.Barrier rest i (written job l it) (effects.returned groups_then Nothing (l.stands n.me)) refl refl refl refl) tt refl refl refl refl refl (λ c. refl))
    where
      it : Item
      it = item.Passed (proc n.me) (epoch_no d) (call_no n.calls)

      groups_then : ℕ → tables.Group
      groups_then = effects.groups_behind job l (item.Passed (proc n.me) (epoch_no d) (call_no n.calls))

  pub reduces_does : (op : Op) (own_value : ℤ) (rest : Reply → Walk) → IsIn n Gathering (wanted.Reduce op own_value) rest → are_gathered n (wanted.Reduce op own_value) ≡ true
      → Does job p (returns_number n rest (total op n (wanted.Reduce op own_value))) w z fate l polls
  reduces_does op own_value rest i all =
      returns_does Gathering v rest i (it value) (Number value) (effects.returned l.groups (Number value) (l.stands n.me)) (returned_as Gathering v rest i l.groups (Number value))
      (record {
        goes = (
          (
            few,
            (
              (may_return Gathering v rest i (it value) tt, all_in Gathering v rest i all, alike_parts Gathering v rest i tt (it value)),
              subst (λ (o : Stand). IsValue value (plans.numbers_of (l.entered d n.calls) (comm_in l d)) (asked_of o)) (sym (stood Gathering v rest i)) folded,
            ),
          ),
          tt,
        );
        mine = ap (λ (o : ℕ). at_key o (effects.returned l.groups (Number value) (l.stands n.me)) l.stands p) own ∙ key_same p (effects.returned l.groups (Number value) (l.stands n.me)) l.stands;
        stands = λ q ne. key_other n.me (effects.returned l.groups (Number value) (l.stands n.me)) l.stands q (λ e. ne (e ∙ own));
        joined = refl;
        chapters = refl;
        kills = refl;
      }) refl (ap (λ (o : ℤ). Some o) folded) tt (all_in Gathering v rest i all)
      (heeds_parts Gathering v rest i (it value) (goes_on rest (Number value) n) (written job l (it value)) (return_grows Gathering v rest i (written job l (it value)) (effects.returned l.groups (Number value) (l.stands n.me)) refl refl refl refl) tt refl refl refl refl refl (λ c. refl))
    where
      v : Wanted
      v = wanted.Reduce op own_value

      value : ℤ
      value = total op n (wanted.Reduce op own_value)

      it : ℤ → Item
      it x = item.Value (proc n.me) (epoch_no d) (call_no n.calls) x

      folded : total op n (wanted.Reduce op own_value) ≡ reduced op (plans.numbers_of (l.entered d n.calls) (comm_in l d))
      folded = total_as Gathering (wanted.Reduce op own_value) rest i all op refl refl

  pub shifts_does : (by : ℕ) (elements : List ℤ) (rest : Reply → Walk) → IsIn n Gathering (wanted.Shift by elements) rest → are_gathered n (wanted.Shift by elements) ≡ true
      → Does job p (returns_elements n rest (gathering.numbers_of n (wanted.Shift by elements) (source_of (size n) by (my_place n)))) w z fate l polls
  shifts_does by elements rest i all =
      returns_does Gathering v rest i (it list) (Elements list) (effects.returned l.groups (Elements list) (l.stands n.me)) (returned_as Gathering v rest i l.groups (Elements list))
      (record {
        goes = (
          (
            few,
            (
              (may_return Gathering v rest i (it list) tt, all_in Gathering v rest i all, alike_parts Gathering v rest i tt (it list)),
              subst (λ (o : Stand). IsShifted list all_elements (place_in (comm_in l d) n.me) (asked_of o)) (sym (stood Gathering v rest i))
                  (subst (λ (o : Option ℕ). IsShifted list all_elements o (Some (wanted.Shift by elements))) (sym placed) given),
            ),
          ),
          tt,
        );
        mine = ap (λ (o : ℕ). at_key o (effects.returned l.groups (Elements list) (l.stands n.me)) l.stands p) own ∙ key_same p (effects.returned l.groups (Elements list) (l.stands n.me)) l.stands;
        stands = λ q ne. key_other n.me (effects.returned l.groups (Elements list) (l.stands n.me)) l.stands q (λ e. ne (e ∙ own));
        joined = refl;
        chapters = refl;
        kills = refl;
      }) refl refl (as_many Gathering v rest i all by elements refl) (all_in Gathering v rest i all)
      (heeds_parts Gathering v rest i (it list) (goes_on rest (Elements list) n) (written job l (it list)) (return_grows Gathering v rest i (written job l (it list)) (effects.returned l.groups (Elements list) (l.stands n.me)) refl refl refl refl) tt refl refl refl refl refl (λ c. refl))
    where
      v : Wanted
      v = wanted.Shift by elements

      list : List ℤ
      list = gathering.numbers_of n (wanted.Shift by elements) (source_of (size n) by (my_place n))

      it : List ℤ → Item
      it xs = item.Shifted (proc n.me) (epoch_no d) (call_no n.calls) xs

      all_elements : List (List ℤ)
      all_elements = map (λ s. own_elements (l.entered d n.calls s.1.0)) (comm_in l d)

      placed : place_in (comm_in l d) n.me ≡ Some (my_place n)
      placed = ap (λ (seats : List Seat). place_in seats n.me) (comm_at (ap phase_of i.stage)) ∙ place_is n.comm n.me (ap (has_place n.comm) own ∙ (later_place Gathering (wanted.Shift by elements) rest i).1)

      long : length (map {A = Seat} {B = List ℤ} (λ s. own_elements (l.entered d n.calls s.1.0)) (comm_in l d)) ≡ size n
      long = length-map (comm_in l d) (λ (s : Seat). own_elements (l.entered d n.calls s.1.0)) ∙ ap (λ (seats : List Seat). length seats) (comm_at (ap phase_of i.stage))

      given : gathering.numbers_of n (wanted.Shift by elements) (source_of (size n) by (my_place n))
          ≡ get_or (map (λ s. own_elements (l.entered d n.calls s.1.0)) (comm_in l d)) (source_of (length (map (λ s. own_elements (l.entered d n.calls s.1.0)) (comm_in l d))) by (my_place n)) []
      given =
          shifted_as Gathering (wanted.Shift by elements) rest i all by refl refl
          ∙ sym (ap (λ (o : ℕ). get_or (map (λ s. own_elements (l.entered d n.calls s.1.0)) (comm_in l d)) (source_of o by (my_place n)) []) long)
