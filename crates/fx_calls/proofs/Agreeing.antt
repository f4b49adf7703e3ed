-- In the ballot of an agreement what came is read, and where it is decided without an error all agree.
use Rattle.std.proofs.Common.{◌≡◌, ◌<◌, inl, inr, ℕ, suc, ◌==◌, Bool, true, false, ◌&&◌, ◌||◌, cond, List, [], ◌∷◌, length, Option, Some, None, arith, refl, sym, ap, subst, ◌∙◌}
use Rattle.std.specs.Prelude.{ℤ, nat_lt, not, slice_get, is_some}
use Rattle.std.specs.List.{list_all}
use Rattle.std.specs.Option.{option_or}
use Rattle.std.proofs.lemmas.Bool.Decides.{nat_tests, Decides-int_eq}
use Rattle.fx_ballot.specs.declared.heard.Heard.{Heard}
use Rattle.fx_ballot.specs.declared.poll.Poll.TheVariants as poll
use Rattle.fx_ballot.specs.Laws.{vote_of, estimate_of, held, IsTrueSlot, TrueSlots}
use Rattle.fx_ballot.specs.Names.{seat_at, seat_of, has}
use Rattle.fx_ballot.specs.Turn.{Phase, Outside, Voting, Round, Decided, turn, form, speak, follow, decide, slots_of}
use Rattle.fx_ballot.specs.World.{is_outside}
use Rattle.fx_ballot.specs.World as ballot
use Rattle.fx_ballot.proofs.Face.{Sound, sound_estimate}
use Rattle.fx_ballot.proofs.Names.{seat_found}
use Rattle.fx_comm.specs.Seats.{Seat}
use Rattle.fx_link.specs.declared.slot.Slot.{Slot}
use Rattle.fx_link.specs.declared.slot.Slot.TheVariants as slot
use Rattle.fx_script.specs.declared.job.Job.{Job}
use Rattle.fx_walk.specs.declared.wanted.Wanted.TheVariants as wanted
use Rattle.fx_machine.specs.Nodes.{Node, Calling, Balloting, has_ended, members, procs_of}
use Rattle.fx_machine.specs.Reading as reading
use Rattle.fx_machine.specs.Reading.{Ballot, OfCall, only, first_read, vote_in, estimate_in, are_same, same_slot, is_lost, is_left, may_stand, fits, turn_in}
use Rattle.fx_machine.specs.Setup.{Setup}
use Rattle.fx_machine.specs.Texts.{Text}
use Rattle.fx_machine.specs.Waits.{ByLoss, ByLeaving, Error, call_ballot, error_in, first_error, is_affirmative, is_flag, all_agree}
use Rattle.fx_fleet.specs.Runs.{job_setup}
use Rattle.fx_fleet.specs.World.{World, up}
use Rattle.fx_calm.proofs.Lists.{Each}
use Rattle.fx_legal.specs.Ledger.{Ledger, comm_in, comm_of}
use Rattle.fx_losses.proofs.Actions.{no_vote_here}
use Rattle.fx_losses.proofs.Shows.{Shows, phase_of, is_placed, up_parts}
use Rattle.fx_losses.proofs.Tests.{or_left, or_right, both_true}
use Rattle.fx_losses.proofs.Votes.{Slotted, alive_slot}
use Rattle.fx_calls.proofs.Hearings.{Polls, TrueText, vote_here, estimate_here, read_own}
use Rattle.fx_calls.proofs.Linked.{Linked, own_chapter}
use Rattle.fx_calls.proofs.Places as places
use Rattle.fx_calls.proofs.Polled.{InPoll, IsFlag, Polled}
use Rattle.fx_calls.proofs.Sayings.{has_vote, has_estimate, seat_in}

-- ---- turns

-- what is decided was held
decided_held : (n i : ℕ) (known : ℕ → Heard) (phase : Phase) (slots : List Slot) → (turn n i known phase).poll ≡ poll.Decided slots → held phase ≡ Some slots
decided_held n i known Outside slots e = absurd (let bad : poll.NotYet ≡ poll.Decided slots = e in cc)
decided_held n i known Voting slots e = of (slots_of known n) e
  where
    of : (o : Option (List Slot)) → (form o).poll ≡ poll.Decided slots → held Voting ≡ Some slots
    of (Some x) j = absurd (let bad : poll.Moved ≡ poll.Decided slots = j in cc)
    of None j = absurd (let bad : poll.NotYet ≡ poll.Decided slots = j in cc)
decided_held n i known (Round r own) slots e = of (nat_lt r n) (r == i) e
  where
    by : (o : Option (List Slot)) (away : Bool) → (follow r own o away).poll ≡ poll.Decided slots → ⊥
    by (Some x) away j = let bad : poll.Moved ≡ poll.Decided slots = j in cc
    by None true j = let bad : poll.Moved ≡ poll.Decided slots = j in cc
    by None false j = let bad : poll.NotYet ≡ poll.Decided slots = j in cc

    of : (b c : Bool) → (cond b (cond c (speak r own) (follow r own (known r).estimate ((known r).lost || (known r).left))) (decide own)).poll ≡ poll.Decided slots → Some own ≡ Some slots
    of false c j = let same : poll.Decided own ≡ poll.Decided slots = j in cc
    of true true j = absurd (let bad : poll.SendEstimate own ≡ poll.Decided slots = j in cc)
    of true false j = absurd (by (known r).estimate ((known r).lost || (known r).left) j)
decided_held n i known (Decided own) slots e = let same : poll.Decided own ≡ poll.Decided slots = e in cc

-- ---- slots

pub same_number : (a b : ℕ) → a ≡ b → (a == b) ≡ true
same_number a b e = grind (arith, nat_tests)

no_error_in : (a b : Option Error) → option_or a b ≡ None → (a ≡ None) × (b ≡ None)
no_error_in None b e = (refl, e)
no_error_in (Some x) b e = absurd (let bad : Some x ≡ None = e in cc)

slots_agree : (qs : List ℕ) (slots : List Slot) → length slots ≡ length qs → ((k : ℕ) (x : Slot) → slice_get slots k ≡ Some x → error_in (seat_at qs k) x ≡ None → is_affirmative x ≡ true) → first_error qs slots ≡ None → all_agree slots ≡ true
slots_agree qs [] long each e = refl
slots_agree [] (x ∷ xs) long each e = absurd (let bad : suc (length xs) ≡ 0 = long in omega (arith, bad))
slots_agree (q ∷ qs) (x ∷ xs) long each e =
    let none = no_error_in (error_in q x) (first_error qs xs) e in
    both_true (is_affirmative x) (list_all is_affirmative xs) (each 0 x refl none.0)
    (slots_agree qs xs (let same : suc (length xs) ≡ suc (length qs) = long in omega (arith, same)) (λ k y at. each (suc k) y at) none.1)

each_stands : (test : Slot → Bool) (slots : List Slot) → ((k : ℕ) (x : Slot) → slice_get slots k ≡ Some x → test x ≡ true) → list_all test slots ≡ true
each_stands test [] h = refl
each_stands test (x ∷ xs) h = both_true (test x) (list_all test xs) (h 0 x refl) (each_stands test xs (λ k y e. h (suc k) y e))

same_flag : (a : ℤ) → same_slot (slot.Flag a) (slot.Flag a) ≡ true
same_flag a = (Decides-int_eq a a).1 refl

-- ---- readings

-- where each value that is read passes the test, with the test as much is read
passed : {X : Type 0} (read : Text → Option X) (test : X → Bool) (Holds : Text → Type 0) → ((t : Text) (x : X) → Holds t → read t ≡ Some x → test x ≡ true) → (ts : List Text) → Each Holds ts
    → first_read (λ t. only test (read t)) ts ≡ first_read read ts
passed read test Holds all [] each = refl
passed {X} read test Holds all (t ∷ ts) each =
    ap (λ (o : Option X). option_or o (first_read (λ t. only test (read t)) ts)) (one (read t) refl) ∙ ap (λ (o : Option X). option_or (read t) o) (passed read test Holds all ts each.1)
  where
    one : (o : Option X) → read t ≡ o → only test o ≡ o
    one None at = refl
    one (Some x) at = ap (λ (b : Bool). reading.given_that b x) (all t x each.0 at)

-- a process that is up, in the ballot of an agreement
module _ (job : Job) (w : World) (z : ℕ → ballot.World) (fate : ℕ → Option (List Slot)) (l : Ledger) (polls : Polls) (p : ℕ) (here : up (job_setup job) w p ≡ true) (h : Shows (job_setup job) w z fate) (linked : Linked job w z fate l) (polled : Polled w l polls)
    (flag : ℤ) (old : Phase) (at : (w.node p).stage ≡ Calling (Balloting old)) where
  abbrev s : Setup
  s = job_setup job

  abbrev n : Node
  n = w.node p

  abbrev d : ℕ
  d = n.epoch

  abbrev who : List ℕ
  who = members n

  abbrev this : Ballot
  this = call_ballot n (wanted.Agree flag)

  abbrev ballot_here : ballot.World
  ballot_here = polls d n.calls

  k : (p < s.procs) × (w.killed p ≡ false) × (has_ended n ≡ false)
  k = up_parts s w p here

  own : n.me ≡ p
  own = (h.sane p k.1).me

  comm_here : comm_in l d ≡ n.comm
  comm_here = let y = own_chapter job w z fate l p h linked k.1 in ap comm_of y.at ∙ sym y.like.comm

  pub sound_here : Sound (length (members (w.node p))) (seat_at (members (w.node p))) (polls (w.node p).epoch (w.node p).calls)
  sound_here = subst (λ (c : List Seat). Sound (length (procs_of c)) (seat_at (procs_of c)) ballot_here) comm_here (polled.sound d n.calls (ap is_some (own_chapter job w z fate l p h linked k.1).at))

  stands : InPoll polls p n old
  stands = (polled.nodes p k.1).balloting old at

  placed : has who p ≡ true
  placed = places.has_seat n.comm p ∙ (h.sane p k.1).placed (ap is_placed at)

  living : (ballot_here.member p).living ≡ true
  living = polled.living d n.calls p ∙ ap not k.1

  staying : (ballot_here.member p).gone ≡ false
  staying = polled.gone d n.calls p ∙ ap is_some (linked.joined d p ∙ no_vote_here s w z fate p here h slot.Yes (ap phase_of at))

  -- where its ballot is decided without an error, all agree
  pub agreed : (slots : List Slot) → (turn_in (call_ballot (w.node p) (wanted.Agree flag)) (w.node p) old).poll ≡ poll.Decided slots → first_error (members (w.node p)) slots ≡ None → all_agree slots ≡ true
  agreed slots e none = slots_agree who slots genuine.size (λ j x is clear. of x j is clear (genuine.each j x is)) none
    where
      genuine : TrueSlots (length (members (w.node p))) (seat_at (members (w.node p))) (polls (w.node p).epoch (w.node p).calls) slots
      genuine = sound_here.genuine.lists p slots (ap held stands.stands ∙ decided_held (length who) (seat_of who n.me) (λ j. reading.seen this n (seat_at who j)) old slots e)

      of : (x : Slot) (j : ℕ) → slice_get slots j ≡ Some x → error_in (seat_at who j) x ≡ None → IsTrueSlot ballot_here (seat_at who j) x → is_affirmative x ≡ true
      of x j is clear (inl v) = ap is_affirmative (polled.votes d n.calls (seat_at who j) x v).is
      of x j is clear (inr (inl v)) = absurd (let bad : Some (ByLoss (seat_at who j)) ≡ None = sym (ap (error_in (seat_at who j)) v.0) ∙ clear in cc)
      of x j is clear (inr (inr v)) = absurd (let bad : Some (ByLeaving (seat_at who j)) ≡ None = sym (ap (error_in (seat_at who j)) v.0) ∙ clear in cc)

  -- a vote that came is read
  pub vote_reads : (c : ℕ) → has_vote (w.node p).epoch (w.node p).calls ((w.node p).texts c) ≡ true → is_some (reading.vote_of (call_ballot (w.node p) (wanted.Agree flag)) (w.node p) c) ≡ true
  vote_reads c there =
      ap is_some (passed (vote_in (OfCall d n.calls)) (λ x. (c == n.me) || is_flag x) (TrueText polls c)
      (λ t x true_text is. or_right (c == n.me) (is_flag x) (ap is_flag (polled.votes d n.calls c x (vote_here polls d n.calls c t x true_text is)).is)) (n.texts c) (polled.texts p c)) ∙ there

  -- its own is
  own_vote : reading.vote_of this n p ≡ vote_of ballot_here p
  own_vote = read_own (λ x. (p == n.me) || is_flag x) (vote_in (OfCall d n.calls)) (n.texts p) (λ x. or_left (p == n.me) (is_flag x) (same_number p n.me (sym own))) ∙ stands.vote

  pub own_vote_reads : is_some (reading.vote_of (call_ballot (w.node p) (wanted.Agree flag)) (w.node p) p) ≡ true
  own_vote_reads = ap is_some own_vote ∙ of (vote_of ballot_here p) refl
    where
      of : (o : Option Slot) → vote_of (polls (w.node p).epoch (w.node p).calls) p ≡ o → is_some o ≡ true
      of (Some x) is = refl
      of None is = absurd (let bad : true ≡ false = sym (ap is_outside (sym stands.stands ∙ sound_here.messages.knows.entered p is)) ∙ stands.inside in cc)

  -- an estimate that was said passes as one
  fits_here : (c : ℕ) (slots : List Slot) → has who c ≡ true → estimate_of ballot_here c ≡ Some slots → fits this n slots ≡ true
  fits_here c slots member said =
      all_three (length slots == length who) (list_all (may_stand this) slots) (are_same (slice_get slots (seat_of who n.me)) (reading.vote_of this n n.me))
      (same_number (length slots) (length who) genuine.size) (each_stands (may_stand this) slots (λ j x is. of x j (genuine.each j x is)))
      (ap (λ (o : ℕ). are_same (slice_get slots (seat_of who o)) (reading.vote_of this n o)) own ∙ ap (λ (o : Option Slot). are_same o (reading.vote_of this n p)) mine.at ∙ ap (are_same (Some mine.slot)) (own_vote ∙ mine.vote)
      ∙ of_flag mine.slot (polled.votes d n.calls p mine.slot mine.vote))
    where
      all_three : (a b c : Bool) → a ≡ true → b ≡ true → c ≡ true → (a && (b && c)) ≡ true
      all_three a b c x y v = grind (arith, nat_tests)

      genuine : TrueSlots (length (members (w.node p))) (seat_at (members (w.node p))) (polls (w.node p).epoch (w.node p).calls) slots
      genuine =
          let seat = seat_found who c member in
          sound_estimate (length who) (seat_at who) ballot_here sound_here (seat_of who c) slots seat.0 (ap (estimate_of ballot_here) seat.1 ∙ said)

      mine : Slotted (members (w.node p)) slots (polls (w.node p).epoch (w.node p).calls) p
      mine = alive_slot who slots ballot_here p genuine placed living staying

      of : (x : Slot) (j : ℕ) → IsTrueSlot ballot_here (seat_at who j) x → may_stand this x ≡ true
      of x j (inl v) = or_left (is_flag x) _ (ap is_flag (polled.votes d n.calls (seat_at who j) x v).is)
      of x j (inr (inl v)) = or_right (is_flag x) _ (or_left (is_lost x) _ (ap is_lost v.0))
      of x j (inr (inr v)) = or_right (is_flag x) _ (or_right (is_lost x) _ (ap is_left v.0))

      of_flag : (x : Slot) → IsFlag l d n.calls p x → same_slot x x ≡ true
      of_flag x f = ap (λ (o : Slot). same_slot o o) f.is ∙ same_flag f.flag

  -- and so one that came is read
  pub estimate_reads : (c : ℕ) → has (members (w.node p)) c ≡ true → has_estimate (w.node p).epoch (w.node p).calls (seat_in l (w.node p).epoch c) ((w.node p).texts c) ≡ true
      → is_some (reading.estimate_of (call_ballot (w.node p) (wanted.Agree flag)) (w.node p) c) ≡ true
  estimate_reads c member there =
      ap is_some (passed (estimate_in (OfCall d n.calls) (seat_of who c)) (λ slots. (c == n.me) || fits this n slots) (TrueText polls c)
      (λ t x true_text is. or_right (c == n.me) (fits this n x) (fits_here c x member (estimate_here polls d n.calls (seat_of who c) c t x true_text is))) (n.texts c) (polled.texts p c))
      ∙ ap (λ (seats : List Seat). has_estimate d n.calls (seat_of (procs_of seats) c) (n.texts c)) (sym comm_here) ∙ there
