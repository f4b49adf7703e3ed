-- Each deed of a node, whatever its body asks, is a step in the ballots of epochs.
use Rattle.std.proofs.Common.{◌≡◌, ◌<◌, ℕ, suc, Bool, true, false, ◌==◌, List, [], ◌∷◌, ◌++◌, map, Option, Some, refl, sym, ap, subst, ◌∙◌}
use Rattle.std.specs.Prelude.{if◌then◌else◌, not}
use Rattle.std.specs.List.{filter}
use Rattle.fx_ballot.specs.declared.poll.Poll.{Poll}
use Rattle.fx_ballot.specs.declared.poll.Poll.TheVariants as poll
use Rattle.fx_ballot.specs.Laws.{vote_of, estimate_of}
use Rattle.fx_ballot.specs.Names.{seat_of, has}
use Rattle.fx_ballot.specs.Turn.{Phase, Outside}
use Rattle.fx_ballot.specs.World.{put}
use Rattle.fx_ballot.specs.World as ballot
use Rattle.fx_comm.specs.Seats.{has_place}
use Rattle.fx_link.specs.declared.slot.Slot.{Slot}
use Rattle.fx_link.specs.declared.slot.Slot.TheVariants as slot
use Rattle.fx_walk.specs.declared.wanted.Wanted.{Wanted}
use Rattle.fx_walk.specs.Walk.{Walk, Reply}
use Rattle.fx_machine.specs.Ballots.{voters, joined, moves, speaks, repairs, ends, arrived, is_end}
use Rattle.fx_machine.specs.Asking.{part, frozen}
use Rattle.fx_machine.specs.Creating.{creation, meant_for, needs_help, help_for, give_by, own_snapshots}
use Rattle.fx_machine.specs.Closing.{packed, is_keeper, shares_for}
use Rattle.fx_machine.specs.Gathering.{target_of}
use Rattle.fx_machine.specs.Groups.{known_of}
use Rattle.fx_machine.specs.Nodes.{size, my_place, Node, Act, Stage, Core, Begins, Joining, Arrived, Walking, Calling, Failed, Over, has_ended, to_others}
use Rattle.fx_machine.specs.Reading.{is_join, next_ballot, turn_in}
use Rattle.fx_machine.specs.Setup.{Setup}
use Rattle.fx_machine.specs.Texts as text
use Rattle.fx_machine.specs.Texts.{Text}
use Rattle.fx_deeds.specs.Deeds.{AsksFor, IsIn, OfEpoch, OfCall, Reason, First, HelpsOut, HasFailed, IsDone, Deed, Joins, Moves, Speaks, EndsAll, Repairs, Inits, PassesOn, PrintsOut, IsRefused, Attaches, Stores, Commits, Restores, EntersBarrier, EntersReduction, EntersShift, EntersAgreement, EntersDeletion, EntersClosing, EntersCreation, PassesBarrier, Reduces, Shifts, GathersNoMore, VotesNo, VotesYes, VotesFresh, HelpsAndGives, VotesFinding, ReturnsError, ReturnsBits, Closes, Creates, Deletes}
use Rattle.fx_fleet.specs.World.{World, up, sent_to}
use Rattle.fx_calm.proofs.Lists.{Each, each_append, each_weaker, chosen}
use Rattle.fx_losses.specs.Eras.{Era, era_of}
use Rattle.fx_losses.proofs.Actions.{member, plain_steps, deems_same, behind_join, join_steps, join_deems, join_vote}
use Rattle.fx_losses.proofs.Asides.{IsOfCall, Aside, if_there, places_sent, sends_aside, writes_aside, says_aside, error_aside}
use Rattle.fx_losses.proofs.Decides.{next_steps, next_deems, end_steps, end_deems}
use Rattle.fx_losses.proofs.Moves.{Steps, Deems, at_one, one_here}
use Rattle.fx_losses.proofs.Readings.{turn_shown}
use Rattle.fx_losses.proofs.Shows.{phase_of, is_begin, is_later, is_placed, Sane, Shows, IsTrue, Truthful, up_parts}
use Rattle.fx_losses.proofs.Texts.{of_epoch, Acted}
use Rattle.fx_losses.proofs.Turning.{moved_steps, moved_deems, spoken_steps, spoken_deems, spoken_said}
use Rattle.fx_losses.proofs.Turns.{after_turn, shown_turn}
use Rattle.fx_losses.proofs.Tests.{not_first}

-- what a step is in the ballots of epochs
pub record Plays (s : Setup) (p : ℕ) (act : Act) (w : World) (z : ℕ → ballot.World) (fate : ℕ → Option (List Slot)) : Type 0 where
  pub said : List Text
  pub to : ℕ → Bool
  pub after : ballot.World
  pub fate_now : ℕ → Option (List Slot)
  pub steps : Steps s p act said to w z after
  pub deems : Deems s p act w z fate fate_now after
  pub saying : Each (IsTrue s (at_one (w.node p).epoch after z) fate_now p) said
  pub sending : (b : ℕ) → Each (IsTrue s (at_one (w.node p).epoch after z) fate_now p) (sent_to b act.sends)

sent_all : (Is : Text → Type 0) (t : Text) → Is t → (qs : List ℕ) (b : ℕ) → Each Is (sent_to b (map (λ q. (q, t)) qs))
sent_all Is t is [] b = tt
sent_all Is t is (q ∷ qs) b = chosen (Each Is) (q == b) (t ∷ sent_to b (map (λ q. (q, t)) qs)) (sent_to b (map (λ q. (q, t)) qs)) (λ e. (is, sent_all Is t is qs b)) (λ e. sent_all Is t is qs b)

pub others_true : (Is : Text → Type 0) (t : Text) → Is t → (me b : ℕ) (all : List ℕ) → Each Is (sent_to b (to_others me all t))
others_true Is t is me b all = sent_all Is t is (filter (λ q. not (q == me)) all) b

-- ---- texts of calls

pub sent_of_call : (b : ℕ) (xs : List (ℕ × Text)) → Each (λ (x : ℕ × Text). IsOfCall x.1) xs → Each IsOfCall (sent_to b xs)
sent_of_call b [] all = tt
sent_of_call b (x ∷ xs) all = chosen (Each IsOfCall) (x.0 == b) (x.1 ∷ sent_to b xs) (sent_to b xs) (λ e. (all.0, sent_of_call b xs all.1)) (λ e. sent_of_call b xs all.1)

pub of_no_epoch : (e : ℕ) (ts : List Text) → Each IsOfCall ts → of_epoch e ts ≡ []
of_no_epoch e [] all = refl
of_no_epoch e (text.Join d x ∷ ts) all = absurd all.0
of_no_epoch e (text.Jest d r slots ∷ ts) all = absurd all.0
of_no_epoch e (text.Part d k values ∷ ts) all = of_no_epoch e ts all.1
of_no_epoch e (text.Vote d k x ∷ ts) all = of_no_epoch e ts all.1
of_no_epoch e (text.Est d k r slots ∷ ts) all = of_no_epoch e ts all.1
of_no_epoch e (text.Share d k packed ∷ ts) all = of_no_epoch e ts all.1
of_no_epoch e (text.Tell d k known ∷ ts) all = of_no_epoch e ts all.1
of_no_epoch e (text.Help d k packed ∷ ts) all = of_no_epoch e ts all.1
of_no_epoch e (text.Give d k packed ∷ ts) all = of_no_epoch e ts all.1

pub call_true : (s : Setup) (z : ℕ → ballot.World) (fate : ℕ → Option (List Slot)) (c : ℕ) (t : Text) → IsOfCall t → IsTrue s z fate c t
call_true s z fate c (text.Join d x) is = absurd is
call_true s z fate c (text.Jest d r slots) is = absurd is
call_true s z fate c (text.Part d k values) is = tt
call_true s z fate c (text.Vote d k x) is = tt
call_true s z fate c (text.Est d k r slots) is = tt
call_true s z fate c (text.Share d k packed) is = tt
call_true s z fate c (text.Tell d k known) is = tt
call_true s z fate c (text.Help d k packed) is = tt
call_true s z fate c (text.Give d k packed) is = tt

-- ---- stages with a place

pub placed_begins : (a : Stage) → is_placed a ≡ true → is_begin a ≡ false
placed_begins Begins e = absurd (let bad : false ≡ true = e in cc)
placed_begins (Joining phase) e = refl
placed_begins Arrived e = refl
placed_begins Walking e = refl
placed_begins (Calling core) e = refl
placed_begins Failed e = refl
placed_begins Over e = refl

pub placed_outside : (a : Stage) → is_placed a ≡ true → phase_of a ≡ Outside
placed_outside Begins e = refl
placed_outside (Joining phase) e = absurd (let bad : false ≡ true = e in cc)
placed_outside Arrived e = refl
placed_outside Walking e = refl
placed_outside (Calling core) e = refl
placed_outside Failed e = refl
placed_outside Over e = refl

pub placed_later : (a : Stage) → is_placed a ≡ true → is_later a ≡ true
placed_later Begins e = e
placed_later (Joining phase) e = e
placed_later Arrived e = refl
placed_later Walking e = e
placed_later (Calling core) e = e
placed_later Failed e = e
placed_later Over e = e

pub placed_goes : (n : Node) → is_placed n.stage ≡ true → has_ended n ≡ false
placed_goes n = of n.stage
  where
    of : (a : Stage) → is_placed a ≡ true → has_ended (record n { stage = a }) ≡ false
    of Begins e = refl
    of (Joining phase) e = refl
    of Arrived e = refl
    of Walking e = refl
    of (Calling core) e = refl
    of Failed e = refl
    of Over e = absurd (let bad : false ≡ true = e in cc)

module _ (s : Setup) (w : World) (z : ℕ → ballot.World) (fate : ℕ → Option (List Slot)) (p : ℕ) (here : up s w p ≡ true) (h : Shows s w z fate) (tr : Truthful s w z fate) where
  abbrev n : Node
  n = w.node p

  abbrev d : ℕ
  d = n.epoch

  pub up_facts : (p < s.procs) × (w.killed p ≡ false) × (has_ended (w.node p) ≡ false)
  up_facts = up_parts s w p here

  pub own_name : (w.node p).me ≡ p
  own_name = (h.sane p up_facts.1).me

  -- ---- beside the ballots

  pub aside_acted : (act : Act) (a : Aside (w.node p) act) → Acted p (w.node p) act a.said (λ b. false)
  aside_acted act a = record {
    own = subst (λ (o : ℕ). act.node.texts o ≡ n.texts o ++ a.said) own_name a.own;
    other = λ c ne. a.other c (λ e. ne (e ∙ own_name));
    lost = λ c. ap (λ (f : ℕ → Bool). f c) a.lost;
    sends = λ e b ne. of_no_epoch e (sent_to b act.sends) (sent_of_call b act.sends a.sends);
  }

  pub aside_sane : (act : Act) → Aside (w.node p) act → 0 < (w.node p).epoch → has_place (w.node p).comm p ≡ true → Sane s p act.node
  aside_sane act a later place = record {
    me = a.me ∙ own_name;
    fresh = λ e. absurd (let bad : true ≡ false = sym e ∙ placed_begins act.node.stage a.placed in cc);
    later = λ e. subst (λ (o : ℕ). 0 < o) (sym a.epoch) later;
    placed = λ e. ap (λ (o : Era). has_place o.comm p) a.era ∙ place;
    inside = λ phase e. absurd (let bad : true ≡ false = sym a.placed ∙ ap is_placed e in cc);
    mine = λ l. ap (λ (o : Era). has o.who p) a.era ∙ (h.sane p up_facts.1).mine l;
  }

  abbrev pub aside_plays : (act : Act) → Aside n act → phase_of n.stage ≡ Outside → 0 < d → has_place n.comm p ≡ true → Plays s p act w z fate
  aside_plays act a out later place = record {
    said = a.said;
    to = λ b. false;
    after = z d;
    fate_now = fate;
    steps = plain_steps s p act a.said (λ b. false) w z fate here h (aside_acted act a) (λ e. of_no_epoch e a.said a.saying) a.epoch (placed_goes act.node a.placed) (out ∙ sym (placed_outside act.node.stage a.placed)) (aside_sane act a later place);
    deems = deems_same s p act w z fate (z d) up_facts.1 (h.owes d) a.epoch a.era a.role (placed_goes act.node a.placed) h;
    saying = each_weaker IsOfCall (IsTrue s (at_one d (z d) z) fate p) (λ t is. call_true s (at_one d (z d) z) fate p t is) a.said a.saying;
    sending = λ b. each_weaker IsOfCall (IsTrue s (at_one d (z d) z) fate p) (λ t is. call_true s (at_one d (z d) z) fate p t is) (sent_to b act.sends) (sent_of_call b act.sends a.sends);
  }

  -- a step of a process that has a place, in its walk, in a call or behind one
  abbrev placed_plays : (act : Act) → Aside n act → is_placed n.stage ≡ true → Plays s p act w z fate
  placed_plays act a e = aside_plays act a (placed_outside n.stage e) ((h.sane p up_facts.1).later (placed_later n.stage e)) ((h.sane p up_facts.1).placed e)

  -- ---- joins

  abbrev pub join_plays : (kind : Slot) → phase_of (w.node p).stage ≡ Outside → is_join (suc (w.node p).epoch) kind ≡ true → Plays s p (joined kind (w.node p)) w z fate
  join_plays kind out is = record {
    said = text.Join (suc d) kind ∷ [];
    to = member n.present;
    after = behind_join w z p kind;
    fate_now = fate;
    steps = join_steps s w z fate p here h kind out;
    deems = join_deems s w z fate p here h kind out is;
    saying = (said_true, tt);
    sending = λ b. others_true (IsTrue s (at_one d (behind_join w z p kind) z) fate p) (text.Join (suc d) kind) said_true n.me b n.present;
  }
    where
      said_true : IsTrue s (at_one d (behind_join w z p kind) z) fate p (text.Join (suc d) kind)
      said_true = ap (λ (o : ballot.World). vote_of o p) (one_here d (behind_join w z p kind) z) ∙ join_vote s w z fate p here h kind out

  pub is_out : (kind : Slot) → Reason (w.node p) kind → phase_of (w.node p).stage ≡ Outside
  is_out kind (First at) = ap phase_of at
  is_out kind (HelpsOut at place may) = ap phase_of at
  is_out kind (HasFailed at) = ap phase_of at
  is_out kind (IsDone state at walk) = ap phase_of at

  pub is_a_join : (kind : Slot) → Reason (w.node p) kind → is_join (suc (w.node p).epoch) kind ≡ true
  is_a_join kind (First at) = subst (λ (o : ℕ). is_join (suc o) slot.Start ≡ true) (sym ((h.sane p up_facts.1).fresh (ap is_begin at))) refl
  is_a_join kind (HelpsOut at place may) = not_first d ((h.sane p up_facts.1).later (ap is_later at))
  is_a_join kind (HasFailed at) = not_first d ((h.sane p up_facts.1).later (ap is_later at))
  is_a_join kind (IsDone state at walk) = not_first d ((h.sane p up_facts.1).later (ap is_later at))

  -- ---- turns in the ballot

  pub polled : (old : Phase) (x : Poll) → (turn_in (next_ballot (w.node p)) (w.node p) old).poll ≡ x → shown_turn (w.node p) p old ≡ record { phase = (turn_in (next_ballot (w.node p)) (w.node p) old).phase; poll = x }
  polled old x e = sym (turn_shown s w z fate p here h tr old) ∙ (λ i. record { phase = (turn_in (next_ballot n) n old).phase; poll = e i })

  module _ (old : Phase) (at : (w.node p).stage ≡ Joining old) where
    abbrev phase : Phase
    phase = (turn_in (next_ballot n) n old).phase

    abbrev pub moves_plays : (turn_in (next_ballot (w.node p)) (w.node p) old).poll ≡ poll.Moved → Plays s p (moves (w.node p) Joining (turn_in (next_ballot (w.node p)) (w.node p) old).phase) w z fate
    moves_plays e = record {
      said = [];
      to = λ b. false;
      after = after_turn w z p (record { phase = phase; poll = poll.Moved });
      fate_now = fate;
      steps = moved_steps s w z fate p here h old at phase (polled old poll.Moved e);
      deems = moved_deems s w z fate p here h old at phase (polled old poll.Moved e);
      saying = tt;
      sending = λ b. tt;
    }

    module _ (slots : List Slot) where
      abbrev pub speaks_plays : (turn_in (next_ballot (w.node p)) (w.node p) old).poll ≡ poll.SendEstimate slots
          → Plays s p (speaks (next_ballot (w.node p)) (w.node p) Joining (turn_in (next_ballot (w.node p)) (w.node p) old).phase slots) w z fate
      speaks_plays e = record {
        said = text.Jest (suc d) (seat_of n.present n.me) slots ∷ [];
        to = member n.present;
        after = after_turn w z p (record { phase = phase; poll = poll.SendEstimate slots });
        fate_now = fate;
        steps = spoken_steps s w z fate p here h old at phase slots (polled old (poll.SendEstimate slots) e);
        deems = spoken_deems s w z fate p here h old at phase slots (polled old (poll.SendEstimate slots) e);
        saying = (said_true, tt);
        sending = λ b. others_true (IsTrue s (at_one d (after_turn w z p (record { phase = phase; poll = poll.SendEstimate slots })) z) fate p) (text.Jest (suc d) (seat_of n.present n.me) slots) said_true n.me b n.present;
      }
        where
          said_true : IsTrue s (at_one d (after_turn w z p (record { phase = phase; poll = poll.SendEstimate slots })) z) fate p (text.Jest (suc d) (seat_of n.present n.me) slots)
          said_true = record {
            era_then = era_of n;
            at = h.here p up_facts.1;
            seated = (h.sane p up_facts.1).mine up_facts.0;
            round = ap (seat_of n.present) own_name;
            said = ap (λ (o : ballot.World). estimate_of o p) (one_here d (after_turn w z p (record { phase = phase; poll = poll.SendEstimate slots })) z)
                ∙ spoken_said s w z fate p here h old at phase slots (polled old (poll.SendEstimate slots) e);
          }

      abbrev pub ends_plays : (turn_in (next_ballot (w.node p)) (w.node p) old).poll ≡ poll.Decided slots → is_end (w.node p) slots ≡ true → Plays s p (ends (w.node p)) w z fate
      ends_plays e last = record {
        said = [];
        to = λ b. false;
        after = after_turn w z p (record { phase = phase; poll = poll.Decided slots });
        fate_now = put fate d (Some slots);
        steps = end_steps s w z fate p here h old at phase slots (polled old (poll.Decided slots) e);
        deems = end_deems s w z fate p here h old at phase slots (polled old (poll.Decided slots) e) last;
        saying = tt;
        sending = λ b. tt;
      }

      abbrev pub repairs_plays : (turn_in (next_ballot (w.node p)) (w.node p) old).poll ≡ poll.Decided slots → is_end (w.node p) slots ≡ false
          → Plays s p (repairs s (arrived (voters (is_join (suc (w.node p).epoch)) (w.node p).present slots) (w.node p))) w z fate
      repairs_plays e goes_on = record {
        said = [];
        to = λ b. false;
        after = after_turn w z p (record { phase = phase; poll = poll.Decided slots });
        fate_now = put fate d (Some slots);
        steps = next_steps s w z fate p here h old at phase slots (polled old (poll.Decided slots) e);
        deems = next_deems s w z fate p here h old at phase slots (polled old (poll.Decided slots) e) goes_on;
        saying = tt;
        sending = λ b. tt;
      }

  -- ---- along the walk and in calls

  abbrev pub inits_plays : (act : Act) → Aside (w.node p) act → (w.node p).stage ≡ Arrived → has_place (w.node p).comm (w.node p).me ≡ true → Plays s p act w z fate
  inits_plays act a at place = aside_plays act a (ap phase_of at) ((h.sane p up_facts.1).later (ap is_later at)) (ap (has_place n.comm) (sym own_name) ∙ place)

  abbrev pub walks : (act : Act) → Aside n act → n.stage ≡ Walking → Plays s p act w z fate
  walks act a at = placed_plays act a (ap is_placed at)

  asks : (act : Act) → Aside n act → (v : Wanted) (rest : Reply → Walk) → AsksFor n v rest → Plays s p act w z fate
  asks act a v rest i = walks act a i.stage

  calls : (act : Act) → Aside n act → (core : Core) (v : Wanted) (rest : Reply → Walk) → IsIn n core v rest → Plays s p act w z fate
  calls act a core v rest i = placed_plays act a (ap is_placed i.stage)

  pub deed_plays : (act : Act) → Deed s (w.node p) act → Plays s p act w z fate
  deed_plays act (Joins kind why within) = join_plays kind (is_out kind why) (is_a_join kind why)
  deed_plays act (Moves b at own_phase (OfEpoch old stage) e) = moves_plays old stage e
  deed_plays act (Moves b at own_phase (OfCall v rest old i) e) = calls _ (writes_aside n _ _ refl refl refl refl refl refl refl) _ v rest i
  deed_plays act (Speaks b at own_phase slots (OfEpoch old stage) e) = speaks_plays old stage slots e
  deed_plays act (Speaks b at own_phase slots (OfCall v rest old i) e) = calls _ (says_aside n _ _ _ _ refl refl refl refl refl refl tt refl) _ v rest i
  deed_plays act (EndsAll old slots at e last) = ends_plays old at slots e last
  deed_plays act (Repairs old slots at e goes_on) = repairs_plays old at slots e goes_on
  deed_plays act (Inits at place) = inits_plays _ (writes_aside n _ _ refl refl refl refl refl refl refl) at place
  deed_plays act (PassesOn rest at e) = walks _ (writes_aside n _ _ refl refl refl refl refl refl (ap is_placed at)) at
  deed_plays act (PrintsOut printed rest at e) = walks _ (writes_aside n _ _ refl refl refl refl refl refl (ap is_placed at)) at
  deed_plays act (IsRefused v rest r a e) = asks _ (writes_aside n _ _ refl refl refl refl refl refl refl) v rest a
  deed_plays act (Attaches g m rest a may) = asks _ (writes_aside n _ _ refl refl refl refl refl refl refl) _ rest a
  deed_plays act (Stores g m piece rest a may) = asks _ (writes_aside n _ _ refl refl refl refl refl refl refl) _ rest a
  deed_plays act (Commits g rest a may) = asks _ (writes_aside n _ _ refl refl refl refl refl refl refl) _ rest a
  deed_plays act (Restores g m stamp rest a may) = asks _ (writes_aside n _ _ refl refl refl refl refl refl refl) _ rest a
  deed_plays act (EntersBarrier rest a) = asks _ (sends_aside n _ _ _ refl refl refl refl refl refl (places_sent n (λ x. part n [] ∷ []) (λ x. (tt, tt))) refl) _ rest a
  deed_plays act (EntersReduction op value rest a) = asks _ (sends_aside n _ _ _ refl refl refl refl refl refl (places_sent n (λ x. part n (value ∷ []) ∷ []) (λ x. (tt, tt))) refl) _ rest a
  deed_plays act (EntersShift by elements rest a) = asks _ (sends_aside n _ _ _ refl refl refl refl refl refl
      (places_sent n (λ x. part n (if x == target_of (size n) by (my_place n) then elements else []) ∷ []) (λ x. (tt, tt))) refl) _ rest a
  deed_plays act (EntersAgreement flag rest a) = asks _ (says_aside n _ _ _ _ refl refl refl refl refl refl tt refl) _ rest a
  deed_plays act (EntersDeletion g stamp rest a may) = asks _ (says_aside n _ _ _ _ refl refl refl refl refl refl tt refl) _ rest a
  deed_plays act (EntersClosing g rest a may) = asks _ (sends_aside n _ _ _ refl refl refl refl refl refl (places_sent n (shares_for s d (suc n.calls) (frozen g n) ((frozen g n).groups g.0)) (λ x. if_there (is_keeper s (frozen g n) x) (text.Share d (suc n.calls) (packed s.packing ((frozen g n).groups g.0).tentative)) tt)) refl) _ rest a
  deed_plays act (EntersCreation g start depth rest a may) = asks _ (sends_aside n _ _ _ refl refl refl refl refl refl (places_sent n (λ x. text.Tell d (suc n.calls) (known_of (n.groups g.0).held) ∷ []) (λ x. (tt, tt))) refl) _ rest a
  deed_plays act (PassesBarrier rest i all) = calls _ (writes_aside n _ _ refl refl refl refl refl refl refl) _ _ rest i
  deed_plays act (Reduces op value rest i all) = calls _ (writes_aside n _ _ refl refl refl refl refl refl refl) _ _ rest i
  deed_plays act (Shifts by elements rest i all) = calls _ (writes_aside n _ _ refl refl refl refl refl refl refl) _ _ rest i
  deed_plays act (GathersNoMore v rest error kind i some e) = calls _ (error_aside n error) _ v rest i
  deed_plays act (VotesNo core v rest wait vote i at un) = calls _ (says_aside n _ _ _ _ refl refl refl refl refl refl tt refl) core v rest i
  deed_plays act (VotesYes g rest i all) = calls _ (says_aside n _ _ _ _ refl refl refl refl refl refl tt refl) _ _ rest i
  deed_plays act (VotesFresh g start depth rest i all none) = calls _ (says_aside n _ _ _ _ refl refl refl refl refl refl tt refl) _ _ rest i
  deed_plays act (HelpsAndGives g start depth rest j i all known may) = calls _ (sends_aside n _ _ _ refl refl refl refl refl refl
      (places_sent n (meant_for s n (creation g start depth) j)
      (λ x. each_append IsOfCall (if needs_help n (creation g start depth) x then text.Help d n.calls (help_for s n (creation g start depth) j x) ∷ [] else [])
      (if is_keeper s n x then text.Give d n.calls (give_by s (own_snapshots s n (creation g start depth) j)) ∷ [] else [])
      (if_there (needs_help n (creation g start depth) x) (text.Help d n.calls (help_for s n (creation g start depth) j x)) tt) (if_there (is_keeper s n x) (text.Give d n.calls (give_by s (own_snapshots s n (creation g start depth) j))) tt))) refl) _ _ rest i
  deed_plays act (VotesFinding g start depth rest j i known all) = calls _ (says_aside n _ _ _ _ refl refl refl refl refl refl tt refl) _ _ rest i
  deed_plays act (ReturnsError v rest last slots error i decided e) = calls _ (error_aside n error) _ v rest i
  deed_plays act (ReturnsBits flag rest slots i) = calls _ (writes_aside n _ _ refl refl refl refl refl refl refl) _ _ rest i.within
  deed_plays act (Closes g rest slots i) = calls _ (writes_aside n _ _ refl refl refl refl refl refl refl) _ _ rest i.within
  deed_plays act (Creates g start depth rest slots i) = calls _ (writes_aside n _ _ refl refl refl refl refl refl refl) _ _ rest i.within
  deed_plays act (Deletes g stamp rest slots i) = calls _ (writes_aside n _ _ refl refl refl refl refl refl refl) _ _ rest i.within
