-- What a turn in the ballot at the end of an epoch is in that ballot.
use Rattle.std.proofs.Common.{◌≡◌, ℕ, ◌<◌, ◌≢◌, ◌==◌, suc, Bool, true, false, cond, ◌||◌, ◌&&◌, List, [], length, Option, Some, None, inl, inr, arith, refl, subst, sym, ◌∙◌, ap}
use Rattle.std.specs.Prelude.{not, nat_lt}
use Rattle.std.proofs.lemmas.Bool.Decides.{nat_tests}
use Rattle.std.proofs.lemmas.Bool.{cond_both, cases_eq}
use Rattle.fx_ballot.specs.declared.heard.Heard.{Heard}
use Rattle.fx_ballot.specs.declared.poll.Poll.{Poll}
use Rattle.fx_ballot.specs.declared.poll.Poll.TheVariants as poll
use Rattle.fx_ballot.specs.Laws.{past, vote_of}
use Rattle.fx_ballot.specs.Names.{seat_at, seat_of}
use Rattle.fx_ballot.specs.Turn.{Phase, Outside, Voting, Round, Decided, Message, Estimate, earliest, hear, Turn, turn, form, speak, follow, decide, slots_of}
use Rattle.fx_ballot.specs.World.{Member, put, stays, is_outside, among, Apart, own_after, sent_by, told_all, enters}
use Rattle.fx_ballot.specs.World as ballot
use Rattle.fx_ballot.proofs.Face.{sound_act, caught_act}
use Rattle.fx_ballot.proofs.Names.{names_apart}
use Rattle.fx_ballot.proofs.Runs.{Kept}
use Rattle.fx_link.specs.declared.slot.Slot.{Slot}
use Rattle.fx_machine.specs.Nodes.{Node, Act, Joining, has_ended}
use Rattle.fx_machine.specs.Setup.{Setup}
use Rattle.fx_machine.specs.Texts.{Text}
use Rattle.fx_fleet.specs.World.{World, up}
use Rattle.fx_losses.specs.Eras.{first_era, era_of, era}
use Rattle.fx_losses.proofs.Moves.{Move}
use Rattle.fx_losses.proofs.Shows.{phase_of, is_decided, Fits, Owes, Shows, up_parts, now_at}
use Rattle.fx_losses.proofs.Texts.{put_same, put_other, of_epoch, shown, told_none}
use Rattle.fx_losses.proofs.Actions.{owes_step, distinct, kept_here, seat_here}

-- ---- what a turn in a ballot can be

abbrev pub ShapeOf : ℕ → Phase → Phase → Poll → Type 0
ShapeOf i old phase poll.NotYet = Unit {0}
ShapeOf i old phase poll.Moved = (is_outside phase ≡ false) × (is_decided phase ≡ false)
ShapeOf i old phase (poll.SendEstimate slots) = (is_outside phase ≡ false) × (is_decided phase ≡ false) × (past i old ≡ false)
ShapeOf i old phase (poll.Decided slots) = phase ≡ Decided slots

shape_form : (i : ℕ) (o : Option (List Slot)) → ShapeOf i Voting (form o).phase (form o).poll
shape_form i None = tt
shape_form i (Some s) = (refl, refl)

shape_follow : (i r : ℕ) (held : List Slot) (o : Option (List Slot)) (away : Bool) → ShapeOf i (Round r held) (follow r held o away).phase (follow r held o away).poll
shape_follow i r held (Some s) away = (refl, refl)
shape_follow i r held None true = (refl, refl)
shape_follow i r held None false = tt

own_round : (r i : ℕ) → (r == i) ≡ true → nat_lt i r ≡ false
own_round r i e = grind (arith, nat_tests)

pub shape : (n i : ℕ) (known : ℕ → Heard) (phase : Phase) → ShapeOf i phase (turn n i known phase).phase (turn n i known phase).poll
shape n i known Outside = tt
shape n i known Voting = shape_form i (slots_of known n)
shape n i known (Round r held) =
    cond_both {A = Turn} (nat_lt r n)
    (cond (r == i) (speak r held) (follow r held (known r).estimate ((known r).lost || (known r).left))) (decide held) (λ (t : Turn). ShapeOf i (Round r held) t.phase t.poll)
    (λ below.
    cond_both {A = Turn} (r == i) (speak r held) (follow r held (known r).estimate ((known r).lost || (known r).left)) (λ (t : Turn). ShapeOf i (Round r held) t.phase t.poll)
    (λ own. (refl, refl, own_round r i own))
    (λ other. shape_follow i r held (known r).estimate ((known r).lost || (known r).left)))
    (λ beyond. refl)
shape n i known (Decided held) = refl

-- ---- a turn in the ballot

pub first_estimate : (h : Heard) (r : ℕ) (v : List Slot) → h.estimate ≡ None → record h { estimate = Some v } ≡ hear (Estimate r v) h
first_estimate h r v e = λ i. record h { estimate = earliest (sym e i) v }

pub none_from : (o : Option (List Slot)) → ((s : List Slot) → o ≡ Some s → ⊥) → o ≡ None
none_from None no_value = refl
none_from (Some s) no_value = absurd (no_value s refl)

abbrev pub turned_member : ℕ → Member → Phase → Poll → Member
turned_member p m phase answer = record m { phase = phase; heard = put m.heard p (own_after answer (m.heard p)) }

-- the ballot behind a turn of process p, which has seat i
abbrev pub turned : ℕ → (ℕ → ℕ) → ℕ → ℕ → ballot.World → Turn → ballot.World
turned n name p i z t = record {
  member = put z.member p (turned_member p (z.member p) t.phase t.poll);
  link = told_all (among n name) z.link p (sent_by i t.poll);
}

turned_kept : (n : ℕ) (name : ℕ → ℕ) (p i : ℕ) (z : ballot.World) → name i ≡ p → Apart n name → i < n → stays (z.member p) ≡ true → Kept n name z
    → Kept n name (turned n name p i z (turn n i (λ k. (z.member p).heard (name k)) (z.member p).phase))
turned_kept n name p i z at apart low here h =
    subst (λ o. Kept n name (turned n name o i z (turn n i (λ k. (z.member o).heard (name k)) (z.member o).phase))) at
    (record {
      sound = sound_act n name i z apart low (subst (λ o. stays (z.member o) ≡ true) (sym at) here) h.sound;
      caught = caught_act n name i z low (subst (λ o. stays (z.member o) ≡ true) (sym at) here) h.sound h.caught;
    })

pub none_to : (to other : ℕ → Bool) (link : ℕ → ℕ → List Message) (p a b : ℕ) → told_all to link p [] a b ≡ told_all other link p [] a b
none_to to other link p a b = told_none to link p a b ∙ sym (told_none other link p a b)

pub put_own : (f : ℕ → Heard) (p c : ℕ) → put f p (f p) c ≡ f c
put_own f p c = elim (cases_eq c p) [
  | inl same ↦ subst (λ z. put f p (f p) z ≡ f z) (sym same) (put_same f p (f p))
  | inr ne ↦ put_other f p c (f p) ne
]

own_vote : (answer : Poll) (h : Heard) → (own_after answer h).vote ≡ h.vote
own_vote poll.NotYet h = refl
own_vote poll.Moved h = refl
own_vote (poll.SendEstimate slots) h = refl
own_vote (poll.Decided slots) h = refl

-- the ballot of p behind its turn
abbrev pub after_turn : World → (ℕ → ballot.World) → ℕ → Turn → ballot.World
after_turn w z p t = turned (length (w.node p).present) (seat_at (w.node p).present) p (seat_of (w.node p).present p) (z (w.node p).epoch) t

-- the turn that a node takes there, by all that it was sent
abbrev pub shown_turn : Node → ℕ → Phase → Turn
shown_turn n p phase = turn (length n.present) (seat_of n.present p) (λ k. shown (suc n.epoch) n (seat_at n.present k)) phase

module _ (s : Setup) (w : World) (z : ℕ → ballot.World) (fate : ℕ → Option (List Slot)) (p : ℕ) (here : up s w p ≡ true) (h : Shows s w z fate) (old : Phase) (at : (w.node p).stage ≡ Joining old)
    (phase : Phase) (answer : Poll) (is : shown_turn (w.node p) p old ≡ record { phase = phase; poll = answer }) where
  abbrev n : Node
  n = w.node p

  abbrev d : ℕ
  d = n.epoch

  abbrev small : ballot.World
  small = z d

  abbrev after : ballot.World
  after = after_turn w z p (record { phase = phase; poll = answer })

  k : (p < s.procs) × (w.killed p ≡ false) × (has_ended n ≡ false)
  k = up_parts s w p here

  pub old_phase : ((z (w.node p).epoch).member p).phase ≡ old
  old_phase = now_at s d w small (h.at d) p here refl ∙ ap phase_of at

  pub undecided : is_decided ((z (w.node p).epoch).member p).phase ≡ false
  undecided = ap is_decided old_phase ∙ ((h.sane p k.1).inside old at).1

  pub same_turn : turn (length n.present) (seat_of n.present p) (λ a. (small.member p).heard (seat_at n.present a)) (small.member p).phase ≡ record { phase = phase; poll = answer }
  same_turn =
      ap (λ (f : ℕ → Heard). turn (length n.present) (seat_of n.present p) f (small.member p).phase) (λ i a. (h.at d).heard p (seat_at n.present a) here i)
      ∙ ap (λ (x : Phase). turn (length n.present) (seat_of n.present p) (λ a. shown (suc d) n (seat_at n.present a)) x) old_phase ∙ is

  stays_here : stays (small.member p) ≡ true
  stays_here = both (small.member p).living (small.member p).gone ((h.at d).living p ∙ ap not k.1) ((h.at d).gone p)
    where
      both : (a b : Bool) → a ≡ true → b ≡ false → (a && not b) ≡ true
      both a b x y = grind (arith, nat_tests)

  pub kept_after : Kept (length (w.node p).present) (seat_at (w.node p).present) (after_turn w z p (record { phase = phase; poll = answer }))
  kept_after = subst (λ (t : Turn). Kept (length n.present) (seat_at n.present) (after_turn w z p t)) same_turn
      (turned_kept (length n.present) (seat_at n.present) p (seat_of n.present p) small (seat_here s w z fate p here h).1 (names_apart n.present (distinct s w z fate p here h)) (seat_here s w z fate p here h).0
      stays_here (kept_here s w z fate p here h))

  pub shape_here : ShapeOf (seat_of (w.node p).present p) old phase answer
  shape_here = subst (λ (t : Turn). ShapeOf (seat_of n.present p) old t.phase t.poll) is (shape (length n.present) (seat_of n.present p) (λ a. shown (suc d) n (seat_at n.present a)) old)

  pub after_vote : vote_of (after_turn w z p (record { phase = phase; poll = answer })) p ≡ vote_of (z (w.node p).epoch) p
  after_vote =
      ap (λ (x : Member). (x.heard p).vote) (put_same small.member p (turned_member p (small.member p) phase answer))
      ∙ ap (λ (x : Heard). x.vote) (put_same (small.member p).heard p (own_after answer ((small.member p).heard p))) ∙ own_vote answer ((small.member p).heard p)

  pub after_other : (q : ℕ) → q ≢ p → (after_turn w z p (record { phase = phase; poll = answer })).member q ≡ (z (w.node p).epoch).member q
  after_other q ne = put_other small.member p q (turned_member p (small.member p) phase answer) ne

  pub after_votes : (q : ℕ) → vote_of (after_turn w z p (record { phase = phase; poll = answer })) q ≡ vote_of (z (w.node p).epoch) q
  after_votes q = elim (cases_eq q p) [
    | inl same ↦ subst (λ o. vote_of after o ≡ vote_of small o) (sym same) after_vote
    | inr ne ↦ ap (λ (m : Member). (m.heard q).vote) (after_other q ne)
  ]

  pub after_phase : ((after_turn w z p (record { phase = phase; poll = answer })).member p).phase ≡ phase
  after_phase = ap (λ (x : Member). x.phase) (put_same small.member p (turned_member p (small.member p) phase answer))

  pub after_living : ((after_turn w z p (record { phase = phase; poll = answer })).member p).living ≡ true
  after_living = ap (λ (x : Member). x.living) (put_same small.member p (turned_member p (small.member p) phase answer)) ∙ (h.at d).living p ∙ ap not k.1

  pub after_gone : ((after_turn w z p (record { phase = phase; poll = answer })).member p).gone ≡ false
  after_gone = ap (λ (x : Member). x.gone) (put_same small.member p (turned_member p (small.member p) phase answer)) ∙ (h.at d).gone p

  -- it owes no less where it decided nothing
  pub turned_owes : is_decided phase ≡ false → Owes (w.node p).epoch (era (first_era s) fate (w.node p).epoch) (fate (w.node p).epoch) (after_turn w z p (record { phase = phase; poll = answer }))
  turned_owes un =
      owes_step d (era_of n) (era (first_era s) fate d) (fate d) p small after (h.here p k.1) after_other undecided
      (λ g e. absurd (let bad : true ≡ false = sym (ap is_decided (sym after_phase ∙ e)) ∙ un in cc))
      (λ v e. (h.owes d).votes p v (sym after_vote ∙ e)) kept_after (h.owes d)

  pub ballot_move : (act : Act) (said : List Text) (to : ℕ → Bool) → ((c : ℕ) → put (small.member p).heard p (own_after answer ((small.member p).heard p)) c ≡ shown (suc d) act.node c)
      → ((a b : ℕ) → after.link a b ≡ told_all to small.link p (of_epoch (suc d) said) a b) → Fits d act.node phase → Move d p act said to small after
  ballot_move act said to hears link f = record {
    other = after_other;
    heard = λ c. ap (λ (x : Member). x.heard c) (put_same small.member p (turned_member p (small.member p) phase answer)) ∙ hears c;
    living = ap (λ (x : Member). x.living) (put_same small.member p (turned_member p (small.member p) phase answer));
    gone = ap (λ (x : Member). x.gone) (put_same small.member p (turned_member p (small.member p) phase answer));
    link = link;
    fits = subst (λ (x : Phase). Fits d act.node x) (sym after_phase) f;
  }
