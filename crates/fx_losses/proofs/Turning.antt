-- Turns in which a node goes on, or says its estimate.
use Rattle.std.proofs.Common.{◌≡◌, ℕ, ◌<◌, suc, true, false, List, [], ◌∷◌, Option, Some, None, inl, inr, refl, subst, sym, ◌∙◌, ap}
use Rattle.std.proofs.lemmas.Bool.{cases_eq}
use Rattle.fx_ballot.specs.declared.heard.Heard.{Heard}
use Rattle.fx_ballot.specs.declared.poll.Poll.TheVariants as poll
use Rattle.fx_ballot.specs.Laws.{past, estimate_of}
use Rattle.fx_ballot.specs.Names.{seat_of}
use Rattle.fx_ballot.specs.Turn.{Phase, Message, Estimate, hear}
use Rattle.fx_ballot.specs.World.{Member, put, stays, is_outside, among, Apart, own_after, sent_by, told_all, enters}
use Rattle.fx_ballot.specs.World as ballot
use Rattle.fx_link.specs.declared.slot.Slot.{Slot}
use Rattle.fx_machine.specs.Ballots.{moves, speaks}
use Rattle.fx_machine.specs.Nodes.{Node, Act, Joining, has_ended}
use Rattle.fx_machine.specs.Reading.{next_ballot}
use Rattle.fx_machine.specs.Setup.{Setup}
use Rattle.fx_machine.specs.Texts as text
use Rattle.fx_machine.specs.Texts.{Text}
use Rattle.fx_fleet.specs.World.{World, up}
use Rattle.fx_losses.proofs.Moves.{Steps, Deems}
use Rattle.fx_losses.proofs.Shows.{Shows, up_parts}
use Rattle.fx_losses.proofs.Texts.{put_same, put_other, heard_of, shown, this_estimate, other_estimate, Acted, shown_rest, shown_own, shown_quiet}
use Rattle.fx_losses.proofs.Actions.{member, fits_here, fits_other, acted_writes, acted_says, deems_same, joining_sane, distinct, kept_here, seat_here}
use Rattle.fx_losses.proofs.Turns.{shown_turn, turned_member, after_turn, none_to, put_own, first_estimate, none_from, old_phase, shape_here, turned_owes, ballot_move}

module _ (s : Setup) (w : World) (z : ℕ → ballot.World) (fate : ℕ → Option (List Slot)) (p : ℕ) (here : up s w p ≡ true) (h : Shows s w z fate) (old : Phase) (at : (w.node p).stage ≡ Joining old)
    (phase : Phase) where
  abbrev n : Node
  n = w.node p

  abbrev d : ℕ
  d = n.epoch

  abbrev small : ballot.World
  small = z d

  k : (p < s.procs) × (w.killed p ≡ false) × (has_ended n ≡ false)
  k = up_parts s w p here

  module _ (is : shown_turn (w.node p) p old ≡ record { phase = phase; poll = poll.Moved }) where
    pub moved_steps : Steps s p (moves (w.node p) Joining phase) [] (λ b. false) w z (after_turn w z p (record { phase = phase; poll = poll.Moved }))
    moved_steps =
        let a : Acted p n (moves n Joining phase) [] (λ b. false) = acted_writes p n (record n { stage = Joining phase }) [] refl refl in
        let o = shape_here s w z fate p here h old at phase poll.Moved is in
        record {
          acted = a;
          here = ballot_move s w z fate p here h old at phase poll.Moved is (moves n Joining phase) [] (λ b. false)
              (λ c. put_own (small.member p).heard p c ∙ (h.at d).heard p c here ∙ sym (shown_quiet p n (moves n Joining phase) [] (λ b. false) a (suc d) c refl))
              (λ x y. none_to (member n.present) (λ b. false) small.link p x y) (fits_here d (moves n Joining phase).node phase refl refl refl);
          quiet = λ e ne. refl;
          fits = λ e ne. fits_other e n (moves n Joining phase).node ((z e).member p).phase refl ne ((h.at e).fits p k.1);
          sane = joining_sane s p n (moves n Joining phase).node phase refl refl refl o.0 o.1 (h.sane p k.1);
        }

    pub moved_deems : Deems s p (moves (w.node p) Joining phase) w z fate fate (after_turn w z p (record { phase = phase; poll = poll.Moved }))
    moved_deems =
        deems_same s p (moves n Joining phase) w z fate _ k.1 (turned_owes s w z fate p here h old at phase poll.Moved is (shape_here s w z fate p here h old at phase poll.Moved is).1) refl refl refl refl h

  module _ (slots : List Slot) (is : shown_turn (w.node p) p old ≡ record { phase = phase; poll = poll.SendEstimate slots }) where
    abbrev act : Act
    act = speaks (next_ballot n) n Joining phase slots

    abbrev i : ℕ
    i = seat_of n.present n.me

    abbrev says : List Text
    says = text.Jest (suc d) i slots ∷ []

    own_seat : i ≡ seat_of n.present p
    own_seat = ap (seat_of n.present) (h.sane p k.1).me

    spoken_acted : Acted p n act says (member n.present)
    spoken_acted = acted_says p n (record n { stage = Joining phase }) (text.Jest (suc d) i slots) n.present [] (h.sane p k.1).me (distinct s w z fate p here h) refl refl

    unsaid : ((small.member p).heard p).estimate ≡ None
    unsaid = none_from ((small.member p).heard p).estimate (λ v e.
        let seat = seat_here s w z fate p here h in
        let spoke = ((kept_here s w z fate p here h).sound.rounds.spoke (seat_of n.present p) v seat.0 (subst (λ o. estimate_of small o ≡ Some v) (sym seat.1) e)).0 in
        let bad : true ≡ false = sym spoke ∙ ap (λ o. past (seat_of n.present p) (small.member o).phase) seat.1 ∙ ap (past (seat_of n.present p)) (old_phase s w z fate p here h old at phase (poll.SendEstimate slots) is)
        ∙ (shape_here s w z fate p here h old at phase (poll.SendEstimate slots) is).2 in cc)

    hears : (c : ℕ) → put (small.member p).heard p (record ((small.member p).heard p) { estimate = Some slots }) c ≡ shown (suc d) act.node c
    hears c = elim (cases_eq c p) [
      | inl same ↦ subst (λ o. put (small.member p).heard p (record ((small.member p).heard p) { estimate = Some slots }) o ≡ shown (suc d) act.node o) (sym same)
          (put_same (small.member p).heard p (record ((small.member p).heard p) { estimate = Some slots })
          ∙ first_estimate ((small.member p).heard p) i slots unsaid
          ∙ ap (λ (x : Heard). hear (Estimate i slots) x) ((h.at d).heard p p here)
          ∙ sym (shown_own p n act says (member n.present) spoken_acted (suc d) ∙ ap (λ (l : List Message). heard_of l (shown (suc d) n p)) (this_estimate d i slots)))
      | inr ne ↦
          put_other (small.member p).heard p c (record ((small.member p).heard p) { estimate = Some slots }) ne
          ∙ (h.at d).heard p c here ∙ sym (shown_rest p n act says (member n.present) spoken_acted (suc d) c ne)
    ]

    pub spoken_steps : Steps s p (speaks (next_ballot (w.node p)) (w.node p) Joining phase slots) (text.Jest (suc (w.node p).epoch) (seat_of (w.node p).present (w.node p).me) slots ∷ []) (member (w.node p).present) w z
        (after_turn w z p (record { phase = phase; poll = poll.SendEstimate slots }))
    spoken_steps =
        let o = shape_here s w z fate p here h old at phase (poll.SendEstimate slots) is in
        record {
          acted = spoken_acted;
          here = ballot_move s w z fate p here h old at phase (poll.SendEstimate slots) is act says (member n.present) hears
              (λ x y. ap (λ (l : List Message). told_all (member n.present) small.link p l x y) (ap (λ (a : ℕ). Estimate a slots ∷ []) (sym own_seat) ∙ sym (this_estimate d i slots)))
              (fits_here d act.node phase refl refl refl);
          quiet = λ e ne. other_estimate d e i slots ne;
          fits = λ e ne. fits_other e n act.node ((z e).member p).phase refl ne ((h.at e).fits p k.1);
          sane = joining_sane s p n act.node phase refl refl refl o.0 o.1 (h.sane p k.1);
        }

    pub spoken_deems : Deems s p (speaks (next_ballot (w.node p)) (w.node p) Joining phase slots) w z fate fate (after_turn w z p (record { phase = phase; poll = poll.SendEstimate slots }))
    spoken_deems =
        deems_same s p act w z fate _ k.1 (turned_owes s w z fate p here h old at phase (poll.SendEstimate slots) is (shape_here s w z fate p here h old at phase (poll.SendEstimate slots) is).1) refl refl refl refl h

    pub spoken_said : estimate_of (after_turn w z p (record { phase = phase; poll = poll.SendEstimate slots })) p ≡ Some slots
    spoken_said =
        ap (λ (x : Member). (x.heard p).estimate) (put_same small.member p (turned_member p (small.member p) phase (poll.SendEstimate slots)))
        ∙ ap (λ (x : Heard). x.estimate) (put_same (small.member p).heard p (record ((small.member p).heard p) { estimate = Some slots }))
