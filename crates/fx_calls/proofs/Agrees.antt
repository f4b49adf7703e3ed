-- Deeds of a node that agrees: its vote, its turns in the ballot of the call, and what was decided there.
use Rattle.std.proofs.Common.{inr, inl, ◌≡◌, ◌<◌, ℕ, suc, Bool, true, false, ◌&&◌, ◌==◌, List, [], ◌∷◌, ◌++◌, length, Option, Some, None, arith, refl, sym, ap, subst, ◌∙◌}
use Rattle.std.specs.Prelude.{is_some, ℤ}
use Rattle.std.proofs.lemmas.Bool.Decides.{nat_tests}
use Rattle.fx_ballot.specs.declared.poll.Poll.TheVariants as poll
use Rattle.fx_ballot.specs.Laws.{vote_of}
use Rattle.fx_ballot.specs.Names.{seat_of, has}
use Rattle.fx_ballot.specs.Turn.{Phase, Outside}
use Rattle.fx_ballot.specs.World.{put}
use Rattle.fx_ballot.specs.World as ballot
use Rattle.fx_comm.specs.Seats.{Seat, has_place}
use Rattle.fx_item.specs.declared.item.Item.{Item}
use Rattle.fx_item.specs.declared.item.Item.TheVariants as item
use Rattle.fx_link.specs.declared.slot.Slot.{Slot}
use Rattle.fx_link.specs.declared.slot.Slot.TheVariants as slot
use Rattle.fx_script.specs.declared.job.Job.{Job}
use Rattle.fx_walk.specs.declared.wanted.Wanted.{Wanted}
use Rattle.fx_walk.specs.Walk.{Walk, Reply}
use Rattle.fx_machine.specs.Ballots.{joined, moves, speaks}
use Rattle.fx_machine.specs.Nodes as nodes
use Rattle.fx_machine.specs.Nodes.{Node, Act, Stage, Core, Begins, Joining, Arrived, Walking, Calling, Failed, Over, has_ended, members, my_place, size, state_of, to_others}
use Rattle.fx_machine.specs.Numbers.{proc, epoch_no}
use Rattle.fx_machine.specs.Reading.{turn_in, has_left}
use Rattle.fx_machine.specs.Setup.{Setup}
use Rattle.fx_machine.specs.Texts as text
use Rattle.fx_machine.specs.Texts.{Text}
use Rattle.fx_fleet.specs.Runs.{job_setup}
use Rattle.fx_fleet.specs.World.{World, up}
use Rattle.fx_calm.proofs.Lists.{Each, equal}
use Rattle.fx_calm.proofs.Steps.{key_same, key_other}
use Rattle.fx_legal.specs.Effects as effects
use Rattle.fx_legal.specs.Effects.{written, state_left, begun_by}
use Rattle.fx_legal.specs.Groups.{at_key}
use Rattle.fx_legal.specs.Ledger.{Ledger, comm_in, procs_of}
use Rattle.fx_legal.specs.Stands.{Stand}
use Rattle.fx_losses.proofs.Actions.{no_vote_here}
use Rattle.fx_losses.proofs.Asides.{writes_aside}
use Rattle.fx_losses.proofs.Plays.{aside_plays, others_true}
use Rattle.fx_losses.proofs.Readings.{left_joined}
use Rattle.fx_losses.proofs.Shows.{phase_of, Shows, Truthful, up_parts}
use Rattle.fx_losses.proofs.Tests.{some_slot}
use Rattle.fx_calls.proofs.Hearings.{Polls, TrueText}
use Rattle.fx_calls.proofs.Polled.{is_balloting, told_more, NodePolls, FirstReturn, Polled, Heeds}
use Rattle.fx_calls.proofs.Linked.{Linked, Links}
use Rattle.fx_fleet.specs.World.{sent_to}
use Rattle.fx_calls.specs.Bodies.{IsOfParts}
use Rattle.fx_calls.proofs.Delivered.{gives_none, stream, is_no_join, no_join_ordered}
use Rattle.fx_calls.proofs.Owed.{Does, kept_true}
use Rattle.fx_calls.proofs.Parts.{TruePart, Spoken}
use Rattle.fx_calls.proofs.Plans.{PlanAt, first_plan, EntryAt, HavePlans, Grows, grows_none}
use Rattle.fx_calls.proofs.Standing.{InCall, AtStage}
use Rattle.fx_calls.proofs.Stepped.{CoreFits, InStep, Stepped, Adds, adds_none}
use Rattle.fx_ballot.specs.Names.{Distinct}
use Rattle.fx_legal.specs.Calls.{AllAsked, own_number, own_elements, is_agreed, IsLikeFirst, ReturnsAlike, IsValue, IsShifted}
use Rattle.fx_legal.specs.Groups as tables
use Rattle.fx_legal.specs.Stands.{asked_of}
use Rattle.fx_machine.specs.Asking as asking
use Rattle.fx_machine.specs.Gathering.{returns_number}
use Rattle.fx_machine.specs.Nodes.{Gathering, Sharing, Telling, Giving, Balloting, latest, goes_on}
use Rattle.fx_machine.specs.Numbers.{call_no}
use Rattle.fx_machine.specs.Waits.{Error, ByLoss, ByLeaving, returns_error}
use Rattle.fx_deeds.specs.Deeds.{AsksFor, IsIn, OfCall}
use Rattle.fx_walk.specs.declared.wanted.Wanted.TheVariants as wanted
use Rattle.fx_walk.specs.Plan.{common_of, Reduce, Shift}
use Rattle.fx_walk.specs.Walk.{Number}
use Rattle.fx_calls.proofs.Calling.{asks_same}
use Rattle.fx_calls.proofs.Places as places
use Rattle.fx_calls.proofs.Places.{era_apart, procs_distinct, sent_true, places_true}
use Rattle.fx_calls.proofs.Plans as plans
use Rattle.fx_calls.proofs.Plans.{IsBehind, IsEntry, number_due, plan_grows, entered_alike}
use Rattle.std.specs.Option.{option_or}
use Rattle.fx_ballot.specs.declared.heard.Heard.{Heard}
use Rattle.fx_ballot.specs.Laws.{estimate_of, past}
use Rattle.fx_ballot.specs.Names.{seat_at}
use Rattle.fx_ballot.specs.Turn.{Voting, Decided}
use Rattle.fx_ballot.specs.World.{Member, enters, is_outside, may_leave, stays, own_after}
use Rattle.fx_ballot.proofs.Face.{Sound, sound_enter}
use Rattle.fx_ballot.proofs.Names.{seat_found}
use Rattle.fx_machine.specs.Reading.{OfCall, first_read, vote_in, estimate_in}
use Rattle.fx_losses.proofs.Asides.{says_aside}
use Rattle.fx_losses.proofs.Shows.{is_decided}
use Rattle.fx_losses.proofs.Texts.{put_same, put_other}
use Rattle.fx_calls.proofs.Decided.{read_more, none_read}
use Rattle.fx_calls.proofs.Hearings as hearings
use Rattle.fx_calls.proofs.Hearings.{PollsGrow, vote_said, estimate_said, read_own}
use Rattle.fx_calls.proofs.Heeding.{at_call, call_here, call_far, OneCall, heeds_one, one_told, one_grows, one_phases}
use Rattle.fx_calls.proofs.Polled.{InPoll, IsFlag, flag_grows, SaysOf, Told, IsTold, says_the_same}
use Rattle.fx_calls.proofs.Sayings.{says_none, says_vote, says_estimate}
use Rattle.fx_calls.proofs.Standing.{still_stands}
use Rattle.fx_calls.proofs.Stepped.{still_in_step}
use Rattle.fx_ballot.specs.declared.poll.Poll.{Poll}
use Rattle.fx_ballot.specs.Turn.{Turn, turn}
use Rattle.fx_ballot.proofs.Names.{names_apart}
use Rattle.std.specs.Prelude.{not}
use Rattle.fx_machine.specs.Calls.{balloting}
use Rattle.fx_machine.specs.Reading.{Ballot, seen}
use Rattle.fx_machine.specs.Waits.{call_ballot}
use Rattle.fx_losses.proofs.Turns.{ShapeOf, shape}
use Rattle.fx_calls.proofs.Hearings.{OwnWords, reads_true, all_seen}
use Rattle.fx_calls.proofs.Polls.{behind_turn, turn_sound, turn_phase, turn_other, turn_living, turn_gone, turn_vote, turn_estimate}
use Rattle.std.specs.Prelude.{slice_get}
use Rattle.fx_ballot.specs.Laws.{held, TrueSlots}
use Rattle.fx_ballot.proofs.Names as ballot_names
use Rattle.fx_legal.specs.Calls as calls
use Rattle.fx_machine.specs.Calls.{common_bits}
use Rattle.fx_machine.specs.Nodes.{silently}
use Rattle.fx_machine.specs.Waits.{first_error, all_agree}
use Rattle.fx_walk.specs.Plan.{Barrier, Agree, Group, Attach, Store, Commit, Close, Restore, Delete}
use Rattle.fx_calls.proofs.Decided.{ErrorAt, error_at, IsOwed, error_of, true_error, FlagAt, flag_at, bits_are, slot_there}
use Rattle.fx_calls.proofs.Parts.{all_asked}
use Rattle.fx_calls.proofs.Owed.{Facts}
use Rattle.fx_calls.proofs.Walks as walks
use Rattle.fx_calls.proofs.Gathers as gathers

module _ (job : Job) (w : World) (z : ℕ → ballot.World) (fate : ℕ → Option (List Slot)) (l : Ledger) (polls : Polls) (p : ℕ) (facts : Facts job w z fate l polls p) where
  abbrev s : Setup
  s = job_setup job

  abbrev n : Node
  n = w.node p

  abbrev d : ℕ
  d = n.epoch

  abbrev here : up (job_setup job) w p ≡ true
  here = facts.here

  abbrev h : Shows (job_setup job) w z fate
  h = facts.shows

  abbrev tr : Truthful (job_setup job) w z fate
  tr = facts.truthful

  abbrev t : Linked job w z fate l
  t = facts.linked

  abbrev in_step : Stepped job w l
  in_step = facts.stepped

  abbrev sp : Spoken l w
  sp = facts.spoken

  abbrev in_polls : Polled w l polls
  in_polls = facts.polled

  k : (p < s.procs) × (w.killed p ≡ false) × (has_ended n ≡ false)
  k = up_parts s w p here

  own : n.me ≡ p
  own = (h.sane p k.1).me

  few : n.me < procs_of job
  few = subst (λ (o : ℕ). o < procs_of job) (sym own) k.0

  -- ---- entering an agreement

  unjoined_now : phase_of n.stage ≡ Outside → l.joined (suc d) p ≡ None
  unjoined_now out = t.joined d p ∙ no_vote_here s w z fate p here h slot.Yes out

  procs_here : phase_of n.stage ≡ Outside → nodes.procs_of (comm_in l d) ≡ members n
  procs_here out = ap nodes.procs_of ((gathers.comm_at job w z fate l polls p facts) out)

  module _ (flag : ℤ) (rest : Reply → Walk) (a : AsksFor (w.node p) (wanted.Agree flag) rest) where
    abbrev call : ℕ
    call = suc n.calls

    walks_out : phase_of n.stage ≡ Outside
    walks_out = ap phase_of a.stage

    abbrev behind_agree : Ledger
    behind_agree = (gathers.behind_entry job w z fate l polls p facts) (wanted.Agree flag) rest a (Balloting Voting) tt

    agree_grows : Grows l behind_agree
    agree_grows = (gathers.entry_grows job w z fate l polls p facts) (wanted.Agree flag) rest a (Balloting Voting) tt

    abbrev before_vote : ballot.World
    before_vote = polls d call

    abbrev behind_vote : ballot.World
    behind_vote = enters (λ o. false) p (slot.Flag flag) before_vote

    abbrev voter : Member
    voter = ballot.entered p (slot.Flag flag) (before_vote.member p)

    voter_is : behind_vote.member p ≡ voter
    voter_is = put_same before_vote.member p voter

    none_entered : l.entered d call p ≡ None
    none_entered = none_read (l.entered d call p) (λ x is. (gathers.none_before job w z fate l polls p facts) (wanted.Agree flag) rest a (Balloting Voting) tt x is)

    out_before : (before_vote.member p).phase ≡ Outside
    out_before = in_polls.outside d call p none_entered

    sound_before : Sound (length (nodes.procs_of (comm_in l d))) (seat_at (nodes.procs_of (comm_in l d))) before_vote
    sound_before = in_polls.sound d call ((gathers.begun_at job w z fate l polls p facts) walks_out)

    no_vote : vote_of before_vote p ≡ None
    no_vote = sound_before.messages.knows.outside p out_before

    stays_before : (before_vote.member p).gone ≡ false
    stays_before = in_polls.gone d call p ∙ ap is_some (unjoined_now walks_out)

    -- its place in the ballot
    my_seat : (seat_of (nodes.procs_of (comm_in l d)) p < length (nodes.procs_of (comm_in l d))) × (seat_at (nodes.procs_of (comm_in l d)) (seat_of (nodes.procs_of (comm_in l d)) p) ≡ p)
    my_seat = seat_found (nodes.procs_of (comm_in l d)) p (ap (λ (qs : List ℕ). has qs p) (procs_here walks_out) ∙ places.has_seat n.comm p ∙ ((walks.walks_on job w z fate l polls p facts) a.stage).1)

    no_estimate : estimate_of before_vote p ≡ None
    no_estimate = none_read (estimate_of before_vote p) (λ x is.
        let spoke = (sound_before.rounds.spoke (seat_of (nodes.procs_of (comm_in l d)) p) x my_seat.0 (subst (λ (o : ℕ). estimate_of before_vote o ≡ Some x) (sym my_seat.1) is)).0 in
        let bad : true ≡ false = sym spoke ∙ ap (λ (o : ℕ). past (seat_of (nodes.procs_of (comm_in l d)) p) (before_vote.member o).phase) my_seat.1 ∙ ap (past (seat_of (nodes.procs_of (comm_in l d)) p)) out_before in cc)

    vote_now : vote_of behind_vote p ≡ Some (slot.Flag flag)
    vote_now = ap (λ (m : Member). (m.heard p).vote) voter_is ∙ ap (λ (x : Heard). x.vote) (put_same (before_vote.member p).heard p (record ((before_vote.member p).heard p) { vote = Some (slot.Flag flag) }))

    estimate_now : estimate_of behind_vote p ≡ None
    estimate_now = ap (λ (m : Member). (m.heard p).estimate) voter_is ∙ ap (λ (x : Heard). x.estimate) (put_same (before_vote.member p).heard p (record ((before_vote.member p).heard p) { vote = Some (slot.Flag flag) })) ∙ no_estimate

    one_vote : OneCall p l behind_agree polls d call behind_vote
    one_vote = record {
      begun = (gathers.begun_at job w z fate l polls p facts) walks_out;
      others = λ q ne. put_other before_vote.member p q voter ne;
      sound = sound_enter (length (nodes.procs_of (comm_in l d))) (seat_at (nodes.procs_of (comm_in l d))) (λ o. false) p (slot.Flag flag) before_vote out_before stays_before sound_before;
      living = ap (λ (m : Member). m.living) voter_is;
      gone = ap (λ (m : Member). m.gone) voter_is;
      asked = wanted.Agree flag;
      entered = (gathers.entry_is job w z fate l polls p facts) (wanted.Agree flag) rest a (Balloting Voting) tt;
      flag = λ x is. record { flag = flag; is = some_slot x (slot.Flag flag) (sym is ∙ vote_now); entered = (gathers.entry_is job w z fate l polls p facts) (wanted.Agree flag) rest a (Balloting Voting) tt };
      vote = λ x is. absurd (let bad : None ≡ Some x = sym no_vote ∙ is in cc);
      estimate = λ x is. absurd (let bad : None ≡ Some x = sym no_estimate ∙ is in cc);
      undecided = λ slots is. let bad : Outside ≡ Decided slots = sym out_before ∙ is in cc;
    }

    abbrev voting_act : Act
    voting_act = asking.enters_agreement n flag

    abbrev vote_said_now : Text
    vote_said_now = text.Vote d call (slot.Flag flag)

    abbrev polls_voted : Polls
    polls_voted = at_call d call behind_vote polls

    own_texts : voting_act.node.texts p ≡ n.texts p ++ vote_said_now ∷ []
    own_texts = ap (λ (o : ℕ). put n.texts o (n.texts o ++ vote_said_now ∷ []) p) own ∙ put_same n.texts p (n.texts p ++ vote_said_now ∷ [])

    voted_polls : NodePolls polls_voted p voting_act.node
    voted_polls = record {
      balloting = λ phase at. in_it phase (phase_same phase at);
      free = λ j out_of. ap (λ (x : ballot.World). may_leave (x.member p).phase) (call_far d call d j behind_vote polls (ap (λ (b : Bool). b && (j == call)) (itself d) ∙ out_of))
          ∙ (walks.polls_before job w z fate l polls p facts).free j (ap (λ (b : Bool). b && (j == n.calls)) (ap is_balloting a.stage));
    }
      where
        itself : (x : ℕ) → (x == x) ≡ true
        itself x = grind (arith, nat_tests)

        phase_in : Stage → Phase
        phase_in (Calling (Balloting phase)) = phase
        phase_in other = Voting

        phase_same : (phase : Phase) → Calling (Balloting Voting) ≡ Calling (Balloting phase) → Voting ≡ phase
        phase_same phase e = ap phase_in e

        this_vote : (x : ℕ) (y : ℕ) (v : Slot) → vote_in (OfCall x y) (text.Vote x y v) ≡ Some v
        this_vote x y v = grind (arith, nat_tests)

        in_it : (phase : Phase) → Voting ≡ phase → InPoll polls_voted p voting_act.node phase
        in_it phase same = record {
          stands = ap (λ (x : ballot.World). (x.member p).phase) (call_here d call behind_vote polls) ∙ ap (λ (m : Member). m.phase) voter_is ∙ same;
          inside = ap is_outside (sym same);
          undecided = ap is_decided (sym same);
          vote =
              ap (first_read (vote_in (OfCall d call))) own_texts ∙ read_more (vote_in (OfCall d call)) (n.texts p) vote_said_now
              ∙ ap (λ (o : Option Slot). option_or o (vote_in (OfCall d call) vote_said_now))
              (none_read (first_read (vote_in (OfCall d call)) (n.texts p)) (λ x is.
              let bad : None ≡ Some x = sym no_vote ∙ vote_said polls d call p (λ o. true) (n.texts p) x (in_polls.texts p p) (read_own (λ o. true) (vote_in (OfCall d call)) (n.texts p) (λ o. refl) ∙ is) in cc))
              ∙ this_vote d call (slot.Flag flag) ∙ sym (ap (λ (x : ballot.World). vote_of x p) (call_here d call behind_vote polls) ∙ vote_now);
          estimate =
              ap (first_read (estimate_in (OfCall d call) (seat_of (members n) p))) own_texts ∙ read_more (estimate_in (OfCall d call) (seat_of (members n) p)) (n.texts p) vote_said_now
              ∙ ap (λ (o : Option (List Slot)). option_or o None)
              (none_read (first_read (estimate_in (OfCall d call) (seat_of (members n) p)) (n.texts p)) (λ x is.
              let bad : None ≡ Some x = sym no_estimate ∙ estimate_said polls d call (seat_of (members n) p) p (λ o. true) (n.texts p) x (in_polls.texts p p) (read_own (λ o. true) (estimate_in (OfCall d call) (seat_of (members n) p)) (n.texts p) (λ o. refl) ∙ is) in cc))
              ∙ sym (ap (λ (x : ballot.World). estimate_of x p) (call_here d call behind_vote polls) ∙ estimate_now);
        }

    vote_heeds : Heeds p voting_act l behind_agree polls
    vote_heeds =
        heeds_one w p voting_act l behind_agree polls in_polls agree_grows refl d call behind_vote one_vote (one_told w p voting_act l behind_agree polls in_polls agree_grows refl d call behind_vote one_vote refl) voted_polls
        (kept_true (TrueText polls_voted) n.me n.texts vote_said_now (subst (λ (o : ℕ). vote_of (polls_voted d call) o ≡ Some (slot.Flag flag)) (sym own) said) (λ c. hearings.texts_grow polls polls_voted grows c (n.texts c) (in_polls.texts p c)))
        (λ b. others_true (TrueText polls_voted p) vote_said_now said n.me b (members n))
        (says_vote p voting_act l d call before_vote behind_vote n.me own (members n) (procs_here walks_out) (slot.Flag flag) refl (estimate_now ∙ sym no_estimate))
      where
        said : vote_of (at_call d (suc n.calls) (enters (λ o. false) p (slot.Flag flag) (polls d (suc n.calls))) polls d (suc n.calls)) p ≡ Some (slot.Flag flag)
        said = ap (λ (x : ballot.World). vote_of x p) (call_here d call behind_vote polls) ∙ vote_now

        grows : PollsGrow polls (at_call d (suc n.calls) (enters (λ o. false) p (slot.Flag flag) (polls d (suc n.calls))) polls)
        grows = one_grows w p voting_act l behind_agree polls in_polls agree_grows refl d call behind_vote one_vote

    pub enters_agreement_does : Does job p (asking.enters_agreement (w.node p) flag) w z fate l polls
    enters_agreement_does = record {
      plays = aside_plays s w z fate p here h tr voting_act (says_aside n _ _ _ _ refl refl refl refl refl refl tt refl) walks_out ((walks.walks_on job w z fate l polls p facts) a.stage).0 ((walks.walks_on job w z fate l polls p facts) a.stage).1;
      goes = ((few, (gathers.may_enter job w z fate l polls p facts) (wanted.Agree flag) rest a (Balloting Voting) tt), tt);
      links = (gathers.entry_links job w z fate l polls p facts) (wanted.Agree flag) rest a (Balloting Voting) tt voting_act
          (still_stands job (behind_agree.stands p) ((gathers.node_then job w z fate l polls p facts) (wanted.Agree flag) rest a (Balloting Voting) tt) voting_act.node.texts n.lost ((gathers.entry_at job w z fate l polls p facts) (wanted.Agree flag) rest a (Balloting Voting) tt));
      kills = refl;
      adds = record {
        grows = e.grows;
        far = e.far;
        entries = e.entries;
        mine = still_in_step job behind_agree p ((gathers.node_then job w z fate l polls p facts) (wanted.Agree flag) rest a (Balloting Voting) tt) voting_act.node.texts n.lost e.mine;
      };
      texts = kept_true (λ c x. TruePart behind_agree c p x) n.me n.texts vote_said_now tt ((walks.texts_then job w z fate l polls p facts) behind_agree agree_grows);
      sends = λ b. others_true (TruePart behind_agree p b) vote_said_now tt n.me b (members n);
      heeds = vote_heeds;
      gives = record {
        other = λ c ne. put_other n.texts n.me c (n.texts n.me ++ vote_said_now ∷ []) (λ i. ne (i ∙ own));
        fresh = λ b x j o ne at is_parts place. elim ((gathers.entry_or job w z fate l polls p facts) (wanted.Agree flag) rest a (Balloting Voting) tt x j o at) [
          | inl same ↦ absurd (subst IsOfParts same.2 is_parts)
          | inr old ↦ inl old
        ];
        early = λ b u ne. (gathers.entry_early job w z fate l polls p facts) (wanted.Agree flag) rest a (Balloting Voting) tt b;
        late = λ b u ne. no_join_ordered behind_agree p b (stream w p b) (sent_to b (to_others n.me (members n) vote_said_now)) (others_true (λ x. is_no_join x ≡ true) vote_said_now refl n.me b (members n));
      };
    }
      where
        e : Adds job p ((gathers.node_then job w z fate l polls p facts) (wanted.Agree flag) rest a (Balloting Voting) tt) l behind_agree
        e = (gathers.entry_adds job w z fate l polls p facts) (wanted.Agree flag) rest a (Balloting Voting) tt

  -- ---- turns in the ballot of an agreement

  module _ (old : Phase) (flag : ℤ) (rest : Reply → Walk) (i : IsIn (w.node p) (Balloting old) (wanted.Agree flag) rest) where
    abbrev asks_flag : Wanted
    asks_flag = wanted.Agree flag

    abbrev this_ballot : Ballot
    this_ballot = call_ballot n (wanted.Agree flag)

    in_out : phase_of n.stage ≡ Outside
    in_out = ap phase_of i.stage

    abbrev at_poll : ballot.World
    at_poll = polls d n.calls

    abbrev who : List ℕ
    who = nodes.procs_of (comm_in l d)

    who_is : who ≡ members n
    who_is = procs_here in_out

    poll_sound : Sound (length who) (seat_at who) at_poll
    poll_sound = in_polls.sound d n.calls ((gathers.begun_at job w z fate l polls p facts) in_out)

    here_polls : InPoll polls p n old
    here_polls = (walks.polls_before job w z fate l polls p facts).balloting old i.stage

    placed_too : (0 < d) × (has_place n.comm p ≡ true)
    placed_too = (gathers.later_place job w z fate l polls p facts) (Balloting old) asks_flag rest i

    living_here : (at_poll.member p).living ≡ true
    living_here = in_polls.living d n.calls p ∙ ap not k.1

    staying_here : (at_poll.member p).gone ≡ false
    staying_here = in_polls.gone d n.calls p ∙ ap is_some (unjoined_now in_out)

    stays_here : stays (at_poll.member p) ≡ true
    stays_here = λ j. (living_here j) && not (staying_here j)

    not_true_is : (b : Bool) → (b ≡ true → ⊥) → b ≡ false
    not_true_is true never = absurd (never refl)
    not_true_is false never = refl

    lost_dead : (c : ℕ) → n.lost c ≡ true → (at_poll.member c).living ≡ false
    lost_dead c e = in_polls.living d n.calls c ∙ ap not (h.told p c e)

    left_gone : (c : ℕ) → has_left n c ≡ true → (at_poll.member c).gone ≡ true
    left_gone c e = in_polls.gone d n.calls c ∙ ap is_some (t.joined d c) ∙ (left_joined s w z fate p here h tr c e).1

    words : OwnWords at_poll p n
    words = record {
      vote = here_polls.vote;
      estimate = here_polls.estimate;
      untold = not_true_is (n.lost p) (λ e. let bad : true ≡ false = sym living_here ∙ lost_dead p e in cc);
      stayed = not_true_is (has_left n p) (λ e. let bad : true ≡ false = sym (left_gone p e) ∙ staying_here in cc);
      unlost = not_true_is ((at_poll.member p).heard p).lost (λ e. let bad : true ≡ false = sym living_here ∙ poll_sound.messages.knows.lost p p e in cc);
      unleft = not_true_is ((at_poll.member p).heard p).left (λ e. let bad : true ≡ false = sym (poll_sound.messages.knows.left p p e) ∙ staying_here in cc);
    }

    seat_here_is : (seat_of who p < length who) × (seat_at who (seat_of who p) ≡ p)
    seat_here_is = seat_found who p (ap (λ (qs : List ℕ). has qs p) who_is ∙ places.has_seat n.comm p ∙ placed_too.1)

    abbrev sees : ℕ → Heard
    sees = seen this_ballot n

    -- its turn there
    abbrev own_turn : Turn
    own_turn = turn (length who) (seat_of who p) (λ j. sees (seat_at who j)) old

    turn_is : turn_in this_ballot n old ≡ own_turn
    turn_is =
        ap (λ (o : ℕ). turn (length (members n)) (seat_of (members n) o) (λ j. sees (seat_at (members n) j)) old) own
        ∙ ap (λ (qs : List ℕ). turn (length qs) (seat_of qs p) (λ j. sees (seat_at qs j)) old) (sym who_is)

    abbrev polled_now : Turn → ballot.World
    polled_now x = behind_turn (length who) (seat_at who) p (seat_of who p) sees at_poll x

    now_sound : Sound (length who) (seat_at who) (polled_now own_turn)
    now_sound =
        turn_sound (length who) (seat_at who) p (seat_of who p) sees at_poll old seat_here_is.1 (names_apart who (subst Distinct (sym who_is) (gathers.distinct job w z fate l polls p facts))) seat_here_is.0 stays_here here_polls.stands
        (λ j. all_seen polls n p own asks_flag (in_polls.texts p) lost_dead left_gone words (seat_at who j)) (reads_true polls n p own asks_flag (in_polls.texts p) lost_dead left_gone) poll_sound

    flags_before : (q : ℕ) (x : Slot) → vote_of at_poll q ≡ Some x → IsFlag l d n.calls q x
    flags_before q x is = in_polls.votes d n.calls q x is

    module _ (phase : Phase) (answer : Poll) (is : (turn_in (call_ballot (w.node p) (wanted.Agree flag)) (w.node p) old).poll ≡ answer) (is_phase : (turn_in (call_ballot (w.node p) (wanted.Agree flag)) (w.node p) old).phase ≡ phase) where
      abbrev taken : Turn
      taken = record { phase = phase; poll = answer }

      took : own_turn ≡ taken
      took = sym turn_is ∙ (λ j. record { phase = is_phase j; poll = is j })

      abbrev poll_now : ballot.World
      poll_now = polled_now taken

      sound_now : Sound (length who) (seat_at who) poll_now
      sound_now = subst (λ (x : Turn). Sound (length who) (seat_at who) (polled_now x)) took now_sound

      shape_now : ShapeOf (seat_of who p) old phase answer
      shape_now = subst (λ (x : Turn). ShapeOf (seat_of who p) old x.phase x.poll) took (shape (length who) (seat_of who p) (λ j. sees (seat_at who j)) old)

      votes_now : (q : ℕ) → vote_of poll_now q ≡ vote_of at_poll q
      votes_now q = turn_vote (length who) (seat_at who) p (seat_of who p) sees at_poll taken q

      phase_now : (poll_now.member p).phase ≡ phase
      phase_now = turn_phase (length who) (seat_at who) p (seat_of who p) sees at_poll taken

      turn_call : (m : Ledger) → Grows l m → ((x : List Slot) → estimate_of at_poll p ≡ Some x → estimate_of poll_now p ≡ Some x) → OneCall p l m polls d n.calls poll_now
      turn_call m grows estimates = record {
        begun = (gathers.begun_at job w z fate l polls p facts) in_out;
        others = λ q ne. turn_other (length who) (seat_at who) p (seat_of who p) sees at_poll taken q ne;
        sound = sound_now;
        living = turn_living (length who) (seat_at who) p (seat_of who p) sees at_poll taken p;
        gone = turn_gone (length who) (seat_at who) p (seat_of who p) sees at_poll taken p;
        asked = asks_flag;
        entered = grows.entered d n.calls p asks_flag ((gathers.entered_it job w z fate l polls p facts) (Balloting old) asks_flag rest i);
        flag = λ x at. flag_grows l m grows d n.calls p x (flags_before p x (sym (votes_now p) ∙ at));
        vote = λ x at. votes_now p ∙ at;
        estimate = estimates;
        undecided = λ slots at. let bad : true ≡ false = sym (ap is_decided (sym here_polls.stands ∙ at)) ∙ here_polls.undecided in cc;
      }

      same_estimate : ((x : Heard) → (own_after answer x).estimate ≡ x.estimate) → estimate_of poll_now p ≡ estimate_of at_poll p
      same_estimate keeps = turn_estimate (length who) (seat_at who) p (seat_of who p) sees at_poll taken ∙ keeps ((at_poll.member p).heard p)

      abbrev all_now : Polls
      all_now = at_call d n.calls poll_now polls

      now_here : all_now d n.calls ≡ poll_now
      now_here = call_here d n.calls poll_now polls

      -- it is in no other ballot
      others_free : (j : ℕ) → (j == n.calls) ≡ false → may_leave ((all_now d j).member p).phase ≡ true
      others_free j far =
          ap (λ (x : ballot.World). may_leave (x.member p).phase) (call_far d n.calls d j poll_now polls (both_false (d == d) (j == n.calls) far))
          ∙ (walks.polls_before job w z fate l polls p facts).free j (both_false (is_balloting n.stage) (j == n.calls) far)
        where
          both_false : (a b : Bool) → b ≡ false → (a && b) ≡ false
          both_false true b e = e
          both_false false b e = refl

      abbrev phase_in : Stage → Phase
      phase_in (Calling (Balloting x)) = x
      phase_in other = Voting

      -- it goes on in the ballot
      goes_polls : (m : Node) → m.epoch ≡ d → m.calls ≡ n.calls → m.comm ≡ n.comm → m.stage ≡ Calling (Balloting phase) → is_outside phase ≡ false → is_decided phase ≡ false
          → first_read (vote_in (OfCall d n.calls)) (m.texts p) ≡ vote_of at_poll p → first_read (estimate_in (OfCall d n.calls) (seat_of (members n) p)) (m.texts p) ≡ estimate_of poll_now p → NodePolls all_now p m
      goes_polls m epoch calls comm stage inside undecided vote estimate = record {
        balloting = λ x at.
            let same : phase ≡ x = ap phase_in (sym stage ∙ at) in
            record {
              stands = (λ j. ((all_now (epoch j) (calls j)).member p).phase) ∙ ap (λ (o : ballot.World). (o.member p).phase) now_here ∙ phase_now ∙ same;
              inside = ap is_outside (sym same) ∙ inside;
              undecided = ap is_decided (sym same) ∙ undecided;
              vote = (λ j. first_read (vote_in (OfCall (epoch j) (calls j))) (m.texts p)) ∙ vote ∙ sym (votes_now p) ∙ sym (ap (λ (o : ballot.World). vote_of o p) now_here) ∙ sym (λ j. vote_of (all_now (epoch j) (calls j)) p);
              estimate = (λ j. first_read (estimate_in (OfCall (epoch j) (calls j)) (seat_of (nodes.procs_of (comm j)) p)) (m.texts p)) ∙ estimate ∙ sym (ap (λ (o : ballot.World). estimate_of o p) now_here)
                  ∙ sym (λ j. estimate_of (all_now (epoch j) (calls j)) p);
            };
        free = λ j out_of. ap (λ (o : ℕ). may_leave ((all_now o j).member p).phase) epoch
            ∙ others_free j (sym (ap (λ (o : ℕ). j == o) calls) ∙ sym (ap (λ (o : Stage). is_balloting o && (j == m.calls)) stage) ∙ out_of);
      }

      -- its node in a step that writes nothing
      turn_links : (step : Act) → AtStage job (l.stands p) step.node → Links job p step w fate (z d) l l
      turn_links step mine = (walks.silent_links job w z fate l polls p facts) step (z d) (λ q. refl) mine

      still_inside : (texts : ℕ → List Text) → InStep job l p (record n { stage = Calling (Balloting phase); texts = texts })
      still_inside texts =
          let x = (gathers.inside job w z fate l polls p facts) (Balloting old) asks_flag rest i in
          record {
            shaped = (walks.mine_before job w z fate l polls p facts).shaped;
            uncreated = (walks.mine_before job w z fate l polls p facts).uncreated;
            past = (walks.mine_before job w z fate l polls p facts).past;
            at = record {
              before = x.before;
              calls = x.calls;
              keeping = record { plan = x.keeping.plan; at = x.keeping.at; keeps = x.keeping.keeps; only = x.keeping.only };
              fits = λ place v state other e. fits_too v (asks_same i.place place asks_flag v i.state state rest other (sym i.walk ∙ e));
              entered = x.entered;
            };
          }
        where
          fits_too : (v : Wanted) → wanted.Agree flag ≡ v → CoreFits v (Balloting phase)
          fits_too v same = subst (λ (o : Wanted). CoreFits o (Balloting phase)) same tt

      still_called : (texts : ℕ → List Text) → AtStage job (l.stands p) (record n { stage = Calling (Balloting phase); texts = texts })
      still_called texts =
          let x : InCall (l.stands p) n = subst (λ (o : ℕ). InCall (l.stands o) n) own ((gathers.within job w z fate l polls p facts) (Balloting old) asks_flag rest i) in
          record {
            stay = x.stay;
            stays = record { within = x.stays.within; calls = x.stays.calls; none_created = x.stays.none_created };
            place = x.place;
            asked = x.asked;
            state = x.state;
            rest = x.rest;
            walk = x.walk;
            stand = x.stand;
          }

    pub moves_call_does : (turn_in (call_ballot (w.node p) (wanted.Agree flag)) (w.node p) old).poll ≡ poll.Moved
        → Does job p (moves (w.node p) balloting (turn_in (call_ballot (w.node p) (wanted.Agree flag)) (w.node p) old).phase) w z fate l polls
    moves_call_does e = record {
      plays = aside_plays s w z fate p here h tr (moves n balloting phase) (writes_aside n _ _ refl refl refl refl refl refl refl) in_out placed_too.0 placed_too.1;
      goes = tt;
      links = turn_links phase poll.Moved e refl (moves n balloting phase) (still_called phase poll.Moved e refl n.texts);
      kills = refl;
      adds = adds_none job p (moves n balloting phase).node l l refl (grows_none l) (walks.entries_before job w z fate l polls p facts) (still_inside phase poll.Moved e refl n.texts);
      texts = sp.texts p;
      sends = λ b. tt;
      heeds = heeds_one w p (moves n balloting phase) l l polls in_polls (grows_none l) refl d n.calls (poll_now phase poll.Moved e refl) one
          (one_told w p (moves n balloting phase) l l polls in_polls (grows_none l) refl d n.calls (poll_now phase poll.Moved e refl) one refl)
          (goes_polls phase poll.Moved e refl (moves n balloting phase).node refl refl refl refl (shape_now phase poll.Moved e refl).0 (shape_now phase poll.Moved e refl).1 here_polls.vote
          (here_polls.estimate ∙ sym same))
          (λ c. hearings.texts_grow polls (all_now phase poll.Moved e refl) (one_grows w p (moves n balloting phase) l l polls in_polls (grows_none l) refl d n.calls (poll_now phase poll.Moved e refl) one) c (n.texts c) (in_polls.texts p c))
          (λ b. tt)
          (says_none p (moves n balloting phase) l d n.calls at_poll (poll_now phase poll.Moved e refl) (votes_now phase poll.Moved e refl p) same);
      gives = gives_none s p (moves n balloting phase) w l l refl (λ c ne. refl) (λ b. tt);
    }
      where
        phase : Phase
        phase = (turn_in (call_ballot (w.node p) (wanted.Agree flag)) (w.node p) old).phase

        same : estimate_of (poll_now (turn_in (call_ballot (w.node p) (wanted.Agree flag)) (w.node p) old).phase poll.Moved e refl) p ≡ estimate_of at_poll p
        same = same_estimate (turn_in (call_ballot (w.node p) (wanted.Agree flag)) (w.node p) old).phase poll.Moved e refl (λ x. refl)

        one : OneCall p l l polls d n.calls (poll_now (turn_in (call_ballot (w.node p) (wanted.Agree flag)) (w.node p) old).phase poll.Moved e refl)
        one = turn_call (turn_in (call_ballot (w.node p) (wanted.Agree flag)) (w.node p) old).phase poll.Moved e refl l (grows_none l) (λ x at. same ∙ at)

    -- it says its estimate
    module _ (slots : List Slot) (e : (turn_in (call_ballot (w.node p) (wanted.Agree flag)) (w.node p) old).poll ≡ poll.SendEstimate slots) where
      abbrev next_phase : Phase
      next_phase = (turn_in (call_ballot (w.node p) (wanted.Agree flag)) (w.node p) old).phase

      abbrev says : Text
      says = text.Est d n.calls (seat_of (members n) n.me) slots

      abbrev speak_act : Act
      speak_act = speaks this_ballot n balloting next_phase slots

      abbrev spoken_world : ballot.World
      spoken_world = poll_now next_phase (poll.SendEstimate slots) e refl

      unsaid : estimate_of at_poll p ≡ None
      unsaid = none_read (estimate_of at_poll p) (λ x is.
          let spoke = (poll_sound.rounds.spoke (seat_of who p) x seat_here_is.0 (subst (λ (o : ℕ). estimate_of at_poll o ≡ Some x) (sym seat_here_is.1) is)).0 in
          let bad : true ≡ false = sym spoke ∙ ap (λ (o : ℕ). past (seat_of who p) (at_poll.member o).phase) seat_here_is.1 ∙ ap (past (seat_of who p)) here_polls.stands ∙ (shape_now next_phase (poll.SendEstimate slots) e refl).2 in cc)

      said_now : estimate_of spoken_world p ≡ Some slots
      said_now = turn_estimate (length who) (seat_at who) p (seat_of who p) sees at_poll (taken next_phase (poll.SendEstimate slots) e refl)

      one_spoken : OneCall p l l polls d n.calls spoken_world
      one_spoken = turn_call next_phase (poll.SendEstimate slots) e refl l (grows_none l) (λ x at. absurd (let bad : None ≡ Some x = sym unsaid ∙ at in cc))

      abbrev all_spoken : Polls
      all_spoken = all_now next_phase (poll.SendEstimate slots) e refl

      says_true : estimate_of (all_spoken d n.calls) p ≡ Some slots
      says_true = ap (λ (x : ballot.World). estimate_of x p) (now_here next_phase (poll.SendEstimate slots) e refl) ∙ said_now

      speak_texts : speak_act.node.texts p ≡ n.texts p ++ says ∷ []
      speak_texts = ap (λ (o : ℕ). put n.texts o (n.texts o ++ says ∷ []) p) own ∙ put_same n.texts p (n.texts p ++ says ∷ [])

      no_more_vote : (o : Option Slot) → option_or o None ≡ o
      no_more_vote None = refl
      no_more_vote (Some x) = refl

      this_estimate : (x y r : ℕ) (v : List Slot) → estimate_in (OfCall x y) r (text.Est x y r v) ≡ Some v
      this_estimate x y r v = grind (arith, nat_tests)

      pub speaks_call_does : Does job p (speaks (call_ballot (w.node p) (wanted.Agree flag)) (w.node p) balloting (turn_in (call_ballot (w.node p) (wanted.Agree flag)) (w.node p) old).phase slots) w z fate l polls
      speaks_call_does = record {
        plays = aside_plays s w z fate p here h tr speak_act (says_aside n _ _ _ _ refl refl refl refl refl refl tt refl) in_out placed_too.0 placed_too.1;
        goes = tt;
        links = turn_links next_phase (poll.SendEstimate slots) e refl speak_act (still_called next_phase (poll.SendEstimate slots) e refl speak_act.node.texts);
        kills = refl;
        adds = adds_none job p speak_act.node l l refl (grows_none l) (walks.entries_before job w z fate l polls p facts) (still_inside next_phase (poll.SendEstimate slots) e refl speak_act.node.texts);
        texts = kept_true (λ c x. TruePart l c p x) n.me n.texts says tt (sp.texts p);
        sends = λ b. others_true (TruePart l p b) says tt n.me b (members n);
        heeds = heeds_one w p speak_act l l polls in_polls (grows_none l) refl d n.calls spoken_world one_spoken
            (one_told w p speak_act l l polls in_polls (grows_none l) refl d n.calls spoken_world one_spoken refl)
            (goes_polls next_phase (poll.SendEstimate slots) e refl speak_act.node refl refl refl refl (shape_now next_phase (poll.SendEstimate slots) e refl).0 (shape_now next_phase (poll.SendEstimate slots) e refl).1
            (ap (first_read (vote_in (OfCall d n.calls))) speak_texts ∙ read_more (vote_in (OfCall d n.calls)) (n.texts p) says ∙ no_more_vote (first_read (vote_in (OfCall d n.calls)) (n.texts p)) ∙ here_polls.vote)
            (ap (first_read (estimate_in (OfCall d n.calls) (seat_of (members n) p))) speak_texts ∙ read_more (estimate_in (OfCall d n.calls) (seat_of (members n) p)) (n.texts p) says
            ∙ ap (λ (o : Option (List Slot)). option_or o (estimate_in (OfCall d n.calls) (seat_of (members n) p) says)) (here_polls.estimate ∙ unsaid)
            ∙ ap (λ (o : ℕ). estimate_in (OfCall d n.calls) (seat_of (members n) p) (text.Est d n.calls (seat_of (members n) o) slots)) own
            ∙ this_estimate d n.calls (seat_of (members n) p) slots ∙ sym said_now))
            (kept_true (TrueText all_spoken) n.me n.texts says (subst (λ (o : ℕ). estimate_of (all_spoken d n.calls) o ≡ Some slots) (sym own) says_true)
            (λ c. hearings.texts_grow polls all_spoken (one_grows w p speak_act l l polls in_polls (grows_none l) refl d n.calls spoken_world one_spoken) c (n.texts c) (in_polls.texts p c)))
            (λ b. others_true (TrueText all_spoken p) says says_true n.me b (members n))
            (says_estimate p speak_act l d n.calls at_poll spoken_world n.me own (members n) who_is slots refl (votes_now next_phase (poll.SendEstimate slots) e refl p));
        gives = gives_none s p speak_act w l l refl (λ c ne. put_other n.texts n.me c (n.texts n.me ++ says ∷ []) (λ i. ne (i ∙ own))) (λ b. others_true (λ x. is_no_join x ≡ true) says refl n.me b (members n));
      }

    -- its ballot is decided
    module _ (slots : List Slot) (e : (turn_in (call_ballot (w.node p) (wanted.Agree flag)) (w.node p) old).poll ≡ poll.Decided slots) where
      abbrev last_phase : Phase
      last_phase = (turn_in (call_ballot (w.node p) (wanted.Agree flag)) (w.node p) old).phase

      abbrev last_world : ballot.World
      last_world = poll_now last_phase (poll.Decided slots) e refl

      abbrev all_last : Polls
      all_last = all_now last_phase (poll.Decided slots) e refl

      last_here : all_last d n.calls ≡ last_world
      last_here = now_here last_phase (poll.Decided slots) e refl

      has_decided : (last_world.member p).phase ≡ Decided slots
      has_decided = phase_now last_phase (poll.Decided slots) e refl ∙ shape_now last_phase (poll.Decided slots) e refl

      true_slots : TrueSlots (length who) (seat_at who) last_world slots
      true_slots = (sound_now last_phase (poll.Decided slots) e refl).genuine.lists p slots (ap held has_decided)

      flags_last : (q : ℕ) (x : Slot) → vote_of last_world q ≡ Some x → IsFlag l d n.calls q x
      flags_last q x is = flags_before q x (sym (votes_now last_phase (poll.Decided slots) e refl q) ∙ is)

      same_last : estimate_of last_world p ≡ estimate_of at_poll p
      same_last = same_estimate last_phase (poll.Decided slots) e refl (λ x. refl)

      one_last : (m : Ledger) → Grows l m → OneCall p l m polls d n.calls last_world
      one_last m grows = turn_call last_phase (poll.Decided slots) e refl m grows (λ x at. same_last ∙ at)

      -- a node that is in no ballot any more
      last_polls : (m : Node) → m.epoch ≡ d → is_balloting m.stage ≡ false → NodePolls all_last p m
      last_polls m epoch after = record {
        balloting = λ x at. absurd (let bad : true ≡ false = sym (ap is_balloting at) ∙ after in cc);
        free = λ j out_of. ap (λ (o : ℕ). may_leave ((all_last o j).member p).phase) epoch ∙ of j (j == n.calls) refl;
      }
        where
          of : (j : ℕ) (b : Bool) → (j == n.calls) ≡ b → may_leave ((all_now (turn_in (call_ballot (w.node p) (wanted.Agree flag)) (w.node p) old).phase (poll.Decided slots) e refl d j).member p).phase ≡ true
          of j true same = ap (λ (o : ℕ). may_leave ((all_last d o).member p).phase) (equal j n.calls same) ∙ ap (λ (x : ballot.World). may_leave (x.member p).phase) last_here ∙ ap may_leave has_decided
          of j false far = others_free last_phase (poll.Decided slots) e refl j far

      -- what is returned is what was decided
      told_last : (it : Item) (m : Ledger) (grows : Grows l m) → m.joined ≡ l.joined → m.returns ≡ tables.at_pair d n.calls (l.returns d n.calls ++ it ∷ []) l.returns → SaysOf who slots it
          → (x j : ℕ) (first : Item) (more : List Item) → m.returns x j ≡ first ∷ more → FirstReturn m all_last x j first
      told_last it m grows joined returns it_says = told_more w l m polls all_last in_polls grows (one_phases w p (silently n) l m polls in_polls grows joined d n.calls last_world (one_last m grows)) d n.calls it returns
          (record {
            by = p;
            asked = asks_flag;
            entered = grows.entered d n.calls p asks_flag ((gathers.entered_it job w z fate l polls p facts) (Balloting old) asks_flag rest i);
            told = record {
              by = p;
              slots = slots;
              decided = ap (λ (x : ballot.World). (x.member p).phase) last_here ∙ has_decided;
              begun = plans.still_begun l m grows d ((gathers.begun_at job w z fate l polls p facts) in_out);
              says = subst (λ (seats : List Seat). SaysOf (nodes.procs_of seats) slots it) (sym (plans.same_comm l m grows d ((gathers.begun_at job w z fate l polls p facts) in_out))) it_says;
            };
          })

      -- and the first return said so too
      alike_last : (it : Item) → SaysOf who slots it → ReturnsAlike l (proc n.me) (epoch_no d) (call_no n.calls) it
      alike_last it it_says = subst (λ (o : Bool). IsLikeFirst it o (l.returns d n.calls)) (sym (ap (λ (o : Stand). is_agreed (asked_of o)) ((gathers.stood job w z fate l polls p facts) (Balloting old) asks_flag rest i))) (of (l.returns d n.calls) refl)
        where
          told_so : (first : Item) (v : Wanted) → common_of v ≡ Agree → IsTold l polls d n.calls first v → Told l polls d n.calls first
          told_so first (wanted.Agree x) c told = told
          told_so first wanted.Barrier c told = absurd (let bad : Barrier ≡ Agree = c in cc)
          told_so first (wanted.Reduce op own_value) c told = absurd (let bad : Reduce op ≡ Agree = c in cc)
          told_so first (wanted.Shift by elements) c told = absurd (let bad : Shift by ≡ Agree = c in cc)
          told_so first (wanted.Group g start depth) c told = absurd (let bad : Group g start depth ≡ Agree = c in cc)
          told_so first (wanted.Attach g x) c told = absurd (let bad : Attach g x ≡ Agree = c in cc)
          told_so first (wanted.Store g x piece) c told = absurd (let bad : Store g x ≡ Agree = c in cc)
          told_so first (wanted.Commit g) c told = absurd (let bad : Commit g ≡ Agree = c in cc)
          told_so first (wanted.Close g) c told = absurd (let bad : Close g ≡ Agree = c in cc)
          told_so first (wanted.Restore g x stamp) c told = absurd (let bad : Restore g x stamp ≡ Agree = c in cc)
          told_so first (wanted.Delete g stamp) c told = absurd (let bad : Delete g stamp ≡ Agree = c in cc)

          of : (returns : List Item) → l.returns d n.calls ≡ returns → IsLikeFirst it true returns
          of [] was = tt
          of (first ∷ more) was =
              let r = in_polls.told d n.calls first more was in
              let told = told_so first r.asked ((gathers.entered_so job w z fate l polls p facts) (Balloting old) asks_flag rest i r.by r.asked r.entered) r.told in
              let held_then : (last_world.member told.by).phase ≡ Decided told.slots =
              sym (ap (λ (x : ballot.World). (x.member told.by).phase) last_here) ∙ one_phases w p (silently n) l l polls in_polls (grows_none l) refl d n.calls last_world (one_last l (grows_none l)) d n.calls told.by told.slots told.decided in
              let same : told.slots ≡ slots = (sound_now last_phase (poll.Decided slots) e refl).rounds.one told.by p told.slots slots held_then has_decided in
              says_the_same who slots it first it_says (subst (λ (o : List Slot). SaysOf who o first) same told.says)

      heeds_last : (it : Item) (m : Node) (g : Ledger) → Grows l g → g.joined ≡ l.joined → g.returns ≡ tables.at_pair d n.calls (l.returns d n.calls ++ it ∷ []) l.returns → SaysOf who slots it → m.epoch ≡ d → is_balloting m.stage ≡ false
          → ((c : ℕ) → m.texts c ≡ n.texts c) → Heeds p (nodes.writing (it ∷ []) m) l g polls
      heeds_last it m g grows joined returns it_says epoch after texts =
          heeds_one w p (nodes.writing (it ∷ []) m) l g polls in_polls grows joined d n.calls last_world (one_last g grows) (told_last it g grows joined returns it_says) (last_polls m epoch after)
          (λ c. hearings.texts_grow polls all_last (one_grows w p (nodes.writing (it ∷ []) m) l g polls in_polls grows joined d n.calls last_world (one_last g grows)) c (m.texts c) (subst (Each (TrueText polls c)) (sym (texts c)) (in_polls.texts p c)))
          (λ b. tt) (says_none p (nodes.writing (it ∷ []) m) l d n.calls at_poll last_world (votes_now last_phase (poll.Decided slots) e refl p) same_last)

      -- an error
      module _ (error : Error) (is_error : first_error (members (w.node p)) slots ≡ Some error) where
        found : ErrorAt who slots error
        found = error_at who slots error (ap (λ (qs : List ℕ). first_error qs slots) who_is ∙ is_error)

        owed : IsOwed last_world error × (error_of error ≡ seat_at who found.place)
        owed = true_error l d n.calls last_world (seat_at who found.place) found.slot error (flags_last (seat_at who found.place)) (true_slots.each found.place found.slot found.at) found.is

        placed_error : has_place n.comm (error_of error) ≡ true
        placed_error =
            ap (has_place n.comm) owed.1 ∙ sym (places.has_seat n.comm (seat_at who found.place)) ∙ ap (λ (qs : List ℕ). has qs (seat_at who found.place)) (sym who_is) ∙ ballot_names.has_seat who found.place found.below

        living_last : (q : ℕ) → (last_world.member q).living ≡ not (w.killed q)
        living_last q = turn_living (length who) (seat_at who) p (seat_of who p) sees at_poll (taken last_phase (poll.Decided slots) e refl) q ∙ in_polls.living d n.calls q

        gone_last : (q : ℕ) → (last_world.member q).gone ≡ is_some (vote_of (z d) q)
        gone_last q = turn_gone (length who) (seat_at who) p (seat_of who p) sees at_poll (taken last_phase (poll.Decided slots) e refl) q ∙ in_polls.gone d n.calls q ∙ ap is_some (t.joined d q)

        dead : (b : Bool) → not b ≡ false → b ≡ true
        dead true x = refl
        dead false x = absurd (let bad : true ≡ false = x in cc)

        pub cause : (x : Error) → error ≡ x → (gathers.IsTrueError job w z fate l polls p facts) (Balloting old) asks_flag rest i x
        cause (ByLoss q) same = (ap (has_place n.comm) (sym (ap error_of same)) ∙ placed_error, dead (w.killed q) (sym (living_last q) ∙ subst (IsOwed last_world) same owed.0))
        cause (ByLeaving q) same = (ap (has_place n.comm) (sym (ap error_of same)) ∙ placed_error, sym (gone_last q) ∙ (subst (IsOwed last_world) same owed.0).0)

        -- one that left hasn't voted there
        pub left_unvoted : (q : ℕ) → error ≡ ByLeaving q → vote_of (polls (w.node p).epoch (w.node p).calls) q ≡ None
        left_unvoted q same =
            sym (votes_now last_phase (poll.Decided slots) e refl q) ∙ (sound_now last_phase (poll.Decided slots) e refl).messages.knows.outside q (subst (IsOwed last_world) same owed.0).1

        says_error : (x : Error) → error ≡ x → SaysOf who slots ((gathers.error_item job w z fate l polls p facts) (Balloting old) asks_flag rest i x)
        says_error (ByLoss q) same = ap (λ (qs : List ℕ). first_error qs slots) who_is ∙ is_error ∙ ap Some same
        says_error (ByLeaving q) same = ap (λ (qs : List ℕ). first_error qs slots) who_is ∙ is_error ∙ ap Some same

        heeds_error : (x : Error) → error ≡ x → Heeds p (nodes.writing ((gathers.error_item job w z fate l polls p facts) (Balloting old) asks_flag rest i x ∷ []) (record n { stage = Failed })) l (written job l ((gathers.error_item job w z fate l polls p facts) (Balloting old) asks_flag rest i x)) polls
        heeds_error (ByLoss q) same =
            heeds_last ((gathers.error_item job w z fate l polls p facts) (Balloting old) asks_flag rest i (ByLoss q)) (record n { stage = Failed }) (written job l ((gathers.error_item job w z fate l polls p facts) (Balloting old) asks_flag rest i (ByLoss q)))
            ((gathers.return_grows job w z fate l polls p facts) (Balloting old) asks_flag rest i (written job l ((gathers.error_item job w z fate l polls p facts) (Balloting old) asks_flag rest i (ByLoss q))) (effects.failed (l.stands n.me)) refl refl refl refl) refl refl (says_error (ByLoss q) same) refl refl (λ c. refl)
        heeds_error (ByLeaving q) same =
            heeds_last ((gathers.error_item job w z fate l polls p facts) (Balloting old) asks_flag rest i (ByLeaving q)) (record n { stage = Failed }) (written job l ((gathers.error_item job w z fate l polls p facts) (Balloting old) asks_flag rest i (ByLeaving q)))
            ((gathers.return_grows job w z fate l polls p facts) (Balloting old) asks_flag rest i (written job l ((gathers.error_item job w z fate l polls p facts) (Balloting old) asks_flag rest i (ByLeaving q))) (effects.failed (l.stands n.me)) refl refl refl refl) refl refl (says_error (ByLeaving q) same) refl refl (λ c. refl)

        pub returns_error_does : Does job p (returns_error (w.node p) error) w z fate l polls
        returns_error_does = (gathers.error_does job w z fate l polls p facts) (Balloting old) asks_flag rest i error (cause error refl) (alike_last ((gathers.error_item job w z fate l polls p facts) (Balloting old) asks_flag rest i error) (says_error error refl)) (heeds_error error refl)

      -- the bits that all flags have
      module _ (no_error : first_error (members (w.node p)) slots ≡ None) (all_affirm : all_agree slots ≡ true) where
        flag_there : (j : ℕ) (x : Slot) → slice_get slots j ≡ Some x → FlagAt (l.entered d n.calls) (seat_at who j) x
        flag_there j x at = flag_at l d n.calls last_world slots j (seat_at who j) x all_affirm at (flags_last (seat_at who j)) (true_slots.each j x at)

        all_entered_it : AllAsked (l.entered d n.calls) (comm_in l d)
        all_entered_it = all_asked (l.entered d n.calls) (comm_in l d) (λ j less.
            let long = places.same_length (comm_in l d) in
            let x = slot_there slots (length who) j true_slots.size (omega (arith, less, long)) in
            ap is_some (flag_there j x.0 x.1).entered)

        bits : common_bits slots ≡ calls.common_bits (plans.numbers_of (l.entered d n.calls) (comm_in l d))
        bits = bits_are (l.entered d n.calls) (comm_in l d) slots true_slots.size flag_there

        abbrev bits_item : Item
        bits_item = item.Value (proc n.me) (epoch_no d) (call_no n.calls) (common_bits slots)

        says_bits : SaysOf who slots bits_item
        says_bits = (ap (λ (qs : List ℕ). first_error qs slots) who_is ∙ no_error, refl)

        pub returns_bits_does : Does job p (returns_number (w.node p) rest (common_bits slots)) w z fate l polls
        returns_bits_does =
            (gathers.returns_does job w z fate l polls p facts) (Balloting old) asks_flag rest i bits_item (Number (common_bits slots)) (effects.returned l.groups (Number (common_bits slots)) (l.stands n.me)) ((gathers.returned_as job w z fate l polls p facts) (Balloting old) asks_flag rest i l.groups (Number (common_bits slots)))
            (record {
              goes = (
                (
                  few,
                  (
                    ((gathers.may_return job w z fate l polls p facts) (Balloting old) asks_flag rest i bits_item tt, all_entered_it, alike_last bits_item says_bits),
                    subst (λ (o : Stand). IsValue (common_bits slots) (plans.numbers_of (l.entered d n.calls) (comm_in l d)) (asked_of o)) (sym ((gathers.stood job w z fate l polls p facts) (Balloting old) asks_flag rest i)) bits,
                  ),
                ),
                tt,
              );
              mine = ap (λ (o : ℕ). at_key o (effects.returned l.groups (Number (common_bits slots)) (l.stands n.me)) l.stands p) own ∙ key_same p (effects.returned l.groups (Number (common_bits slots)) (l.stands n.me)) l.stands;
              stands = λ q ne. key_other n.me (effects.returned l.groups (Number (common_bits slots)) (l.stands n.me)) l.stands q (λ x. ne (x ∙ own));
              joined = refl;
              chapters = refl;
              kills = refl;
            }) refl (ap (λ (o : ℤ). Some o) bits) tt all_entered_it
            (heeds_last bits_item (goes_on rest (Number (common_bits slots)) n) (written job l bits_item)
            ((gathers.return_grows job w z fate l polls p facts) (Balloting old) asks_flag rest i (written job l bits_item) (effects.returned l.groups (Number (common_bits slots)) (l.stands n.me)) refl refl refl refl) refl refl says_bits refl refl (λ c. refl))
