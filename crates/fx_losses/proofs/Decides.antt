-- A decision: an epoch is born, or a node ends.
use Rattle.std.proofs.Common.{◌≡◌, ℕ, ◌<◌, ◌≢◌, ◌==◌, zero, suc, Bool, true, false, List, [], length, Option, Some, None, inl, inr, arith, refl, subst, sym, ◌∙◌, ap}
use Rattle.std.specs.Prelude.{if◌then◌else◌}
use Rattle.std.proofs.lemmas.Bool.{cases_eq, cond-false}
use Rattle.fx_base.specs.declared.names.Role.TheVariants as role
use Rattle.fx_ballot.specs.declared.poll.Poll.TheVariants as poll
use Rattle.fx_ballot.specs.Laws.{vote_of, held, TrueSlots}
use Rattle.fx_ballot.specs.Names.{seat_at, has}
use Rattle.fx_ballot.specs.Turn.{Phase, Decided}
use Rattle.fx_ballot.specs.World.{Member, put}
use Rattle.fx_ballot.specs.World as ballot
use Rattle.fx_ballot.proofs.Runs.{Kept}
use Rattle.fx_comm.specs.Seats.{has_place}
use Rattle.fx_item.specs.declared.item.Item.{Item}
use Rattle.fx_link.specs.declared.slot.Slot.{Slot}
use Rattle.fx_machine.specs.Ballots.{voters, arrived, repairs, ends}
use Rattle.fx_machine.specs.Nodes.{Node, Stage, Joining, Over, has_ended, writing}
use Rattle.fx_machine.specs.Reading.{is_join}
use Rattle.fx_machine.specs.Setup.{Setup}
use Rattle.fx_fleet.specs.World.{World, up}
use Rattle.fx_losses.specs.Eras.{Era, first_era, era_of, is_last, next_of, next_era, era}
use Rattle.fx_losses.proofs.Actions.{member, fits_other, fits_next, acted_writes, owes_later}
use Rattle.fx_losses.proofs.Turns.{after_turn, shown_turn, undecided, kept_after, shape_here, after_vote, after_other, after_phase, after_living, after_gone, ballot_move, none_to, put_own}
use Rattle.fx_losses.proofs.Eras.{era_grows, era_before}
use Rattle.fx_losses.proofs.Moves.{Steps, Deems, some_era}
use Rattle.fx_losses.proofs.Shows.{is_later, is_decided, Fits, Owes, Sane, EndedAs, role_after, Shows, up_parts}
use Rattle.fx_losses.proofs.Texts.{put_same, put_other, Acted, shown_quiet}
use Rattle.fx_losses.proofs.Votes.{alive_voter}
use Rattle.fx_losses.proofs.Tests.{apart_zero}

some_same : (x y : List Slot) → Some x ≡ Some y → x ≡ y
some_same x y e = cc

same_not : (d : ℕ) → d < d → ⊥
same_not d l = omega (arith, l)

below_not : (d : ℕ) → suc d < d → ⊥
below_not d l = omega (arith, l)

next_not : (d : ℕ) → suc d ≡ d → ⊥
next_not d l = omega (arith, l)

module _ (s : Setup) (w : World) (z : ℕ → ballot.World) (fate : ℕ → Option (List Slot)) (p : ℕ) (here : up s w p ≡ true) (h : Shows s w z fate) (old : Phase) (at : (w.node p).stage ≡ Joining old)
    (phase : Phase) (slots : List Slot) (is : shown_turn (w.node p) p old ≡ record { phase = phase; poll = poll.Decided slots }) where
  abbrev n : Node
  n = w.node p

  abbrev d : ℕ
  d = n.epoch

  abbrev x : Era
  x = era_of n

  abbrev small : ballot.World
  small = z d

  abbrev after : ballot.World
  after = after_turn w z p (record { phase = phase; poll = poll.Decided slots })

  -- what is decided once it has decided
  abbrev pub sealed : ℕ → Option (List Slot)
  sealed = put fate (w.node p).epoch (Some slots)

  k : (p < s.procs) × (w.killed p ≡ false) × (has_ended n ≡ false)
  k = up_parts s w p here

  pub kept_now : Kept (length (w.node p).present) (seat_at (w.node p).present) (after_turn w z p (record { phase = phase; poll = poll.Decided slots }))
  kept_now = kept_after s w z fate p here h old at phase (poll.Decided slots) is

  pub decided_now : ((after_turn w z p (record { phase = phase; poll = poll.Decided slots })).member p).phase ≡ Decided slots
  decided_now = after_phase s w z fate p here h old at phase (poll.Decided slots) is ∙ shape_here s w z fate p here h old at phase (poll.Decided slots) is

  -- the decided slots are true
  pub true_slots : TrueSlots (length (w.node p).present) (seat_at (w.node p).present) (after_turn w z p (record { phase = phase; poll = poll.Decided slots })) slots
  true_slots = kept_now.sound.genuine.lists p slots (ap held decided_now)

  other_now : (q : ℕ) → q ≢ p → after.member q ≡ small.member q
  other_now = after_other s w z fate p here h old at phase (poll.Decided slots) is

  -- what was decided before is what is decided now
  pub agrees : (g : List Slot) → fate (w.node p).epoch ≡ Some g → slots ≡ g
  agrees g e =
      let b : (q : ℕ) × ((small.member q).phase ≡ Decided g) = (h.owes d).by g e in
      let un = undecided s w z fate p here h old at phase (poll.Decided slots) is in
      let ne : b.0 ≢ p = λ same. let bad : true ≡ false = sym (ap is_decided b.1) ∙ ap (λ k. is_decided (small.member k).phase) same ∙ un in cc in
      kept_now.sound.rounds.one p b.0 slots g decided_now (ap (λ (m : Member). m.phase) (other_now b.0 ne) ∙ b.1)

  pub sealed_grows : (e : ℕ) (g : List Slot) → fate e ≡ Some g → sealed e ≡ Some g
  sealed_grows e g f = elim (cases_eq e d) [
    | inl same ↦ subst (λ k. sealed k ≡ Some g) (sym same) (put_same fate d (Some slots) ∙ ap (λ (y : List Slot). Some y) (agrees g (subst (λ k. fate k ≡ Some g) same f)))
    | inr ne ↦ put_other fate d e (Some slots) ne ∙ f
  ]

  -- the era of the ballot, after the decision too
  pub sealed_here : era (first_era s) sealed (w.node p).epoch ≡ Some (era_of (w.node p))
  sealed_here = era_before (first_era s) fate d (Some slots) d (omega arith) ∙ h.here p k.1

  module _ (m : Node) (items : List Item) where
    pub closing_deems : era (first_era s) sealed m.epoch ≡ Some (era_of m)
        → ((e : ℕ) (y : Era) → m.epoch ≡ suc e → era (first_era s) sealed e ≡ Some y → m.role ≡ role_after e (has_place y.comm p))
        → (has_ended m ≡ true → EndedAs sealed m)
        → Deems s p (writing items m) w z fate sealed (after_turn w z p (record { phase = phase; poll = poll.Decided slots }))
    closing_deems now named over = record {
      over = over;
      grows = sealed_grows;
      owes_here = record {
        kept = λ a e. subst (λ (y : Era). Kept (length y.who) (seat_at y.who) after) (some_era x a (sym sealed_here ∙ e)) kept_now;
        blank = λ e. absurd (let bad : Some x ≡ None = sym sealed_here ∙ e in cc);
        fated = λ q g e. put_same fate d (Some slots) ∙ ap (λ (y : List Slot). Some y) (kept_now.sound.rounds.one p q slots g decided_now e);
        votes = λ q v e. elim (cases_eq q p) [
          | inl same ↦ (h.owes d).votes p v (sym (after_vote s w z fate p here h old at phase (poll.Decided slots) is) ∙ subst (λ k. vote_of after k ≡ Some v) same e)
          | inr ne ↦ (h.owes d).votes q v (sym (ap (λ (m : Member). (m.heard q).vote) (other_now q ne)) ∙ e)
        ];
        by = λ g e. (p, decided_now ∙ ap (λ (y : List Slot). Decided y) (some_same slots g (sym (put_same fate d (Some slots)) ∙ e)));
      };
      owes = λ e ne. subst (λ (f : Option (List Slot)). Owes e (era (first_era s) sealed e) f (z e)) (sym (put_other fate d e (Some slots) ne))
          (owes_later e (era (first_era s) fate e) (era (first_era s) sealed e) (fate e) (z e) (λ a b. era_grows (first_era s) fate sealed sealed_grows e a b) (h.owes e));
      here = now;
      role = named;
    }

    pub closing_steps : m.texts ≡ (w.node p).texts → m.lost ≡ (w.node p).lost → Fits (w.node p).epoch m phase → ((e : ℕ) → e ≢ (w.node p).epoch → Fits e m ((z e).member p).phase) → Sane s p m
        → Steps s p (writing items m) [] (λ b. false) w z (after_turn w z p (record { phase = phase; poll = poll.Decided slots }))
    closing_steps kc tc f fo sn =
        let a : Acted p n (writing items m) [] (λ b. false) = acted_writes p n m items kc tc in
        record {
          acted = a;
          here = ballot_move s w z fate p here h old at phase (poll.Decided slots) is (writing items m) [] (λ b. false)
              (λ c. put_own (small.member p).heard p c ∙ (h.at d).heard p c here ∙ sym (shown_quiet p n (writing items m) [] (λ b. false) a (suc d) c refl))
              (λ a b. none_to (member n.present) (λ b. false) small.link p a b) f;
          quiet = λ e ne. refl;
          fits = fo;
          sane = sn;
        }

  -- ---- it ends

  decided_phase : is_decided phase ≡ true
  decided_phase = ap is_decided (shape_here s w z fate p here h old at phase (poll.Decided slots) is)

  sane : Sane s p n
  sane = h.sane p k.1

  abbrev ended : Node
  ended = record n { stage = Over }

  pub end_steps : Steps s p (ends (w.node p)) [] (λ b. false) w z (after_turn w z p (record { phase = phase; poll = poll.Decided slots }))
  end_steps =
      closing_steps ended _ refl refl
      (record {
        early = λ l. absurd (same_not d l);
        now = λ t e. absurd (let bad : true ≡ false = t in cc);
        later = λ l. absurd (same_not d l);
        ended = λ t e. decided_phase;
      })
      (λ e ne. fits_other e n ended ((z e).member p).phase refl ne ((h.at e).fits p k.1))
      (record {
        me = sane.me;
        fresh = λ q. absurd (let bad : false ≡ true = q in cc);
        later = λ q. absurd (let bad : false ≡ true = q in cc);
        placed = λ q. absurd (let bad : false ≡ true = q in cc);
        inside = λ q e. absurd (let bad : true ≡ false = ap (λ (o : Stage). has_ended (record n { stage = o })) e in cc);
        mine = sane.mine;
      })

  pub end_deems : is_last (w.node p).epoch (era_of (w.node p)) slots ≡ true → Deems s p (ends (w.node p)) w z fate sealed (after_turn w z p (record { phase = phase; poll = poll.Decided slots }))
  end_deems fin =
      closing_deems ended _ sealed_here
      (λ e y a i. h.role p e y k.1 a (sym (era_before (first_era s) fate d (Some slots) e (omega (arith, a))) ∙ i))
      (λ i. record { slots = slots; is = put_same fate d (Some slots); ends = fin })

  -- ---- it goes on

  abbrev pub next_node : Node
  next_node = arrived (voters (is_join (suc (w.node p).epoch)) (w.node p).present slots) (w.node p)

  pub own_voter : has (voters (is_join (suc (w.node p).epoch)) (w.node p).present slots) p ≡ true
  own_voter =
      alive_voter (suc d) n.present slots after p true_slots (sane.mine k.0) (after_living s w z fate p here h old at phase (poll.Decided slots) is) (after_gone s w z fate p here h old at phase (poll.Decided slots) is)
      (λ v e. (h.owes d).votes p v (sym (after_vote s w z fate p here h old at phase (poll.Decided slots) is) ∙ e))

  pub next_steps : Steps s p (repairs s next_node) [] (λ b. false) w z (after_turn w z p (record { phase = phase; poll = poll.Decided slots }))
  next_steps =
      closing_steps next_node _ refl refl
      (record {
        early = λ l. absurd (below_not d l);
        now = λ t e. absurd (next_not d e);
        later = λ l. decided_phase;
        ended = λ t e. decided_phase;
      })
      (λ e ne. fits_next e n next_node ((z e).member p).phase refl refl refl ne ((h.at e).fits p k.1))
      (record {
        me = sane.me;
        fresh = λ q. absurd (let bad : false ≡ true = q in cc);
        later = λ q. omega arith;
        placed = λ q. absurd (let bad : false ≡ true = q in cc);
        inside = λ q e. absurd (let bad : true ≡ false = ap is_later e in cc);
        mine = λ l. own_voter;
      })

  pub next_era_is : is_last (w.node p).epoch (era_of (w.node p)) slots ≡ false → era (first_era s) sealed (suc (w.node p).epoch) ≡ Some (next_of (w.node p).epoch (era_of (w.node p)) slots)
  next_era_is goes =
      ap (λ (y : Option Era). next_era d y (sealed d)) sealed_here
      ∙ ap (λ (f : Option (List Slot)). next_era d (Some x) f) (put_same fate d (Some slots))
      ∙ cond-false {A = Option Era} (is_last d x slots) None (Some (next_of d x slots)) goes

  named_behind : (e : ℕ) (had : Bool) → (if e == 0 then role.Initial else (if had then role.Survivor else role.Recovered)) ≡ role_after e had
  named_behind zero had = refl
  named_behind (suc e) had = ap (λ (b : Bool). if b then role.Initial else (if had then role.Survivor else role.Recovered)) (apart_zero e)

  pub next_deems : is_last (w.node p).epoch (era_of (w.node p)) slots ≡ false → Deems s p (repairs s next_node) w z fate sealed (after_turn w z p (record { phase = phase; poll = poll.Decided slots }))
  next_deems goes =
      closing_deems next_node _ (next_era_is goes)
      (λ e y i a.
      let same : d ≡ e = num d e i in
      let eq : x ≡ y = some_era x y (sym sealed_here ∙ subst (λ o. era (first_era s) sealed o ≡ Some y) (sym same) a) in
      ap (λ (o : ℕ). if d == 0 then role.Initial else (if has_place n.comm o then role.Survivor else role.Recovered)) sane.me
      ∙ named_behind d (has_place n.comm p) ∙ ap (λ (o : ℕ). role_after o (has_place n.comm p)) same ∙ ap (λ (o : Era). role_after e (has_place o.comm p)) eq)
      (λ i. absurd (let bad : false ≡ true = i in cc))
    where
      num : (a b : ℕ) → suc a ≡ suc b → a ≡ b
      num a b e = omega (arith, e)
