-- Decisions and the ledger: a repaired epoch, and the end.
use Rattle.std.proofs.Common.{◌≡◌, ℕ, ◌<◌, ◌≤◌, ◌≢◌, ◌==◌, ◌-◌, zero, suc, Bool, true, false, ◌||◌, ◌&&◌, List, [], ◌∷◌, length, Option, Some, None, ◌⊎◌, inl, inr, arith, refl, subst, sym, ◌∙◌, ap}
use Rattle.std.specs.Prelude.{if◌then◌else◌, not, nat_lt, is_some, get_or}
use Rattle.std.specs.List.{list_all}
use Rattle.std.proofs.lemmas.Bool.Decides.{nat_tests}
use Rattle.std.proofs.lemmas.Bool.{cases_eq, cases_lt, cond-true, cond-false}
use Rattle.fx_base.specs.declared.names.Role.{Role}
use Rattle.fx_base.specs.declared.names.Role.TheVariants as role
use Rattle.fx_ballot.specs.declared.poll.Poll.TheVariants as poll
use Rattle.fx_ballot.specs.Laws.{vote_of, TrueSlots}
use Rattle.fx_ballot.specs.Names.{seat_at, seat_of, has, Distinct}
use Rattle.fx_ballot.specs.Turn.{Phase, Outside, Decided}
use Rattle.fx_ballot.specs.World.{Member, put}
use Rattle.fx_ballot.specs.World as ballot
use Rattle.fx_check.specs.Facts.{facts_of}
use Rattle.fx_comm.specs.Seats.{Seat, has_place, place_in, repaired, AllPresent}
use Rattle.fx_comm.proofs.Fewer.{repaired_fewer}
use Rattle.fx_comm.proofs.Repairs.{repaired_present}
use Rattle.fx_item.specs.declared.item.Item.{Item}
use Rattle.fx_item.specs.declared.item.Item.TheVariants as item
use Rattle.fx_link.specs.declared.slot.Slot.{Slot}
use Rattle.fx_link.specs.declared.slot.Slot.TheVariants as slot
use Rattle.fx_script.specs.declared.job.Job.{Job}
use Rattle.fx_walk.specs.State.{State, blank}
use Rattle.fx_machine.specs.Ballots.{voters, is_final, arrived, repairs, ends}
use Rattle.fx_machine.specs.Nodes as nodes
use Rattle.fx_machine.specs.Nodes.{Node, Joining, Over, has_ended, size, my_place, state_of}
use Rattle.fx_machine.specs.Numbers.{proc, epoch_no}
use Rattle.fx_machine.specs.Reading.{is_join}
use Rattle.fx_machine.specs.Setup.{Setup}
use Rattle.fx_fleet.specs.Runs.{job_setup}
use Rattle.fx_fleet.specs.World.{World, up}
use Rattle.fx_calm.proofs.Seats.{unplaced}
use Rattle.fx_calm.proofs.Steps.{key_same, key_other}
use Rattle.fx_legal.specs.Effects.{written, belongs, begun_by, opened, state_kept}
use Rattle.fx_legal.specs.Groups.{at_key}
use Rattle.fx_legal.specs.Ledger.{Chapter, Ledger, comm_in, comm_of, is_in, is_present, role_in, ranks_of, procs_of}
use Rattle.fx_legal.specs.Rules as rules
use Rattle.fx_legal.specs.Rules.{IsTheOne, IsWaiting, MayBeRepaired, MayEnd, IsEnding}
use Rattle.fx_legal.specs.Stands as stand
use Rattle.fx_legal.specs.Stands.{Stand, is_killed, is_gone}
use Rattle.fx_losses.specs.Losses.{HasLoss}
use Rattle.fx_losses.proofs.Voted.{got_is}
use Rattle.fx_losses.proofs.Finals.{one_not_final}
use Rattle.fx_machine.specs.Ballots.{is_final}
use Rattle.std.specs.Prelude.{get_or}
use Rattle.fx_link.specs.declared.slot.Slot.TheVariants as slot
use Rattle.fx_losses.specs.Eras.{Era, first_era, era_of, is_last, next_of, next_era, era}
use Rattle.fx_losses.proofs.Turns.{after_turn, shown_turn, after_other, after_votes, after_living, after_gone}
use Rattle.fx_losses.proofs.Decides.{agrees, true_slots, sealed_here, own_voter, next_era_is}
use Rattle.fx_losses.proofs.Eras.{born as born_from, next_none, era_before, era_dead, era_distinct, voters_among}
use Rattle.fx_losses.proofs.Finals.{all_final_voted}
use Rattle.fx_calls.proofs.Linked.{Linked, Links, unjoined, own_chapter}
use Rattle.fx_losses.proofs.Moves.{some_era}
use Rattle.fx_losses.proofs.Places.{place_is, keeps_place}
use Rattle.fx_losses.proofs.Shows.{EndedAs, Shows, up_parts}
use Rattle.fx_losses.proofs.Standing.{LikeEra, Like, Liked, liked, unliked, unborn_too, like_on, Waits, Settled}
use Rattle.fx_calls.proofs.Standing.{OfStage, AtStage, gone_where_over}
use Rattle.fx_losses.proofs.Texts.{put_same, put_other}
use Rattle.fx_losses.proofs.Votes.{Slotted, alive_slot, alive_voter, voter_voted}
use Rattle.fx_losses.proofs.Tests.{apart_zero, or_left}
use Rattle.fx_calm.proofs.Lists.{equal}

before : (d : ℕ) → suc d - 1 ≡ d
before d = omega arith

next_apart : (a : ℕ) → suc a ≢ a
next_apart a = λ e. omega (arith, e)

in_seats : (present : ℕ → Bool) (seats : List Seat) (p : ℕ) → AllPresent present seats → has_place seats p ≡ true → present p ≡ true
in_seats present [] p a e = absurd (let bad : false ≡ true = e in cc)
in_seats present (s ∷ seats) p a e = of (in_seats present seats p a.1) (s.1.0 == p) refl e
  where
    of : (has_place seats p ≡ true → present p ≡ true) → (b : Bool) → (s.1.0 == p) ≡ b → (b || has_place seats p) ≡ true → present p ≡ true
    of later true same h = ap present (sym (equal s.1.0 p same)) ∙ a.0
    of later false same h = later h

-- who has a place behind a repair is present
in_repair : (present : ℕ → Bool) (old : List Seat) (p : ℕ) → has_place (repaired old present) p ≡ true → present p ≡ true
in_repair present old p e = in_seats present (repaired old present) p (repaired_present present old) e

-- who has a place in an epoch from 1 on is present in it
pub era_places : (s : Setup) (fate : ℕ → Option (List Slot)) (d : ℕ) (x : Era) (q : ℕ) → 0 < d → era (first_era s) fate d ≡ Some x → has_place x.comm q ≡ true → has x.who q ≡ true
era_places s fate zero x q pos e place = absurd (omega (arith, pos))
era_places s fate (suc d) x q pos e place =
    let b = born_from d (era (first_era s) fate d) (fate d) x e in
    subst (λ (o : Era). has_place o.comm q ≡ true → has o.who q ≡ true) b.next (λ i. in_repair (has (voters (is_join (suc d)) b.before.who b.slots)) b.before.comm q i) place

some_value : {X : Type 0} (o : Option X) (v : X) → o ≡ Some v → is_some o ≡ true
some_value o v e = ap is_some e

module _ (job : Job) (w : World) (z : ℕ → ballot.World) (fate : ℕ → Option (List Slot)) (l : Ledger) (p : ℕ) (here : up (job_setup job) w p ≡ true) (h : Shows (job_setup job) w z fate)
    (t : Linked job w z fate l) (old : Phase) (at : (w.node p).stage ≡ Joining old) (phase : Phase) (slots : List Slot) (is : shown_turn (w.node p) p old ≡ record { phase = phase; poll = poll.Decided slots }) where
  abbrev s : Setup
  s = job_setup job

  abbrev n : Node
  n = w.node p

  abbrev d : ℕ
  d = n.epoch

  abbrev x : Era
  x = era_of n

  abbrev after : ballot.World
  after = after_turn w z p (record { phase = phase; poll = poll.Decided slots })

  abbrev pub fate_now : ℕ → Option (List Slot)
  fate_now = put fate (w.node p).epoch (Some slots)

  abbrev who_votes : List ℕ
  who_votes = voters (is_join (suc d)) n.present slots

  k : (p < s.procs) × (w.killed p ≡ false) × (has_ended n ≡ false)
  k = up_parts s w p here

  votes : (q : ℕ) → vote_of after q ≡ vote_of (z d) q
  votes = after_votes s w z fate p here h old at phase (poll.Decided slots) is

  origin : TrueSlots (length n.present) (seat_at n.present) after slots
  origin = true_slots s w z fate p here h old at phase slots is

  distinct : Distinct n.present
  distinct = era_distinct s fate d x (h.here p k.1)

  y : Liked l d x (l.chapters d)
  y = own_chapter job w z fate l p h t k.1

  mine : has n.present p ≡ true
  mine = (h.sane p k.1).mine k.0

  alive_here : is_killed (l.stands p) ≡ false
  alive_here = t.killed p ∙ k.1

  lives : (q : ℕ) → is_killed (l.stands q) ≡ false → ((after.member q).living ≡ true) × ((after.member q).gone ≡ false)
  lives q e = elim (cases_eq q p) [
    | inl same ↦ subst (λ o. ((after.member o).living ≡ true) × ((after.member o).gone ≡ false)) (sym same)
        (after_living s w z fate p here h old at phase (poll.Decided slots) is, after_gone s w z fate p here h old at phase (poll.Decided slots) is)
    | inr ne ↦
        let far : after.member q ≡ (z d).member q = after_other s w z fate p here h old at phase (poll.Decided slots) is q ne in
        (ap (λ (m : Member). m.living) far ∙ (h.at d).living q ∙ ap not (sym (t.killed q) ∙ e), ap (λ (m : Member). m.gone) far ∙ (h.at d).gone q)
  ]

  -- ---- who has voted has joined, and the other way round

  voted : (q : ℕ) (v : Slot) → vote_of after q ≡ Some v → l.joined (suc d) q ≡ Some v
  voted q v e = t.joined d q ∙ sym (votes q) ∙ e

  alive_joined : (q : ℕ) → has n.present q ≡ true → is_killed (l.stands q) ≡ false → is_some (l.joined (suc d) q) ≡ true
  alive_joined q m e =
      let v : Slotted n.present slots after q = alive_slot n.present slots after q origin m (lives q e).0 (lives q e).1 in
      some_value (l.joined (suc d) q) v.slot (voted q v.slot v.vote)

  voter_joined : (q : ℕ) → has who_votes q ≡ true → is_some (l.joined (suc d) q) ≡ true
  voter_joined q m =
      let v : Slotted n.present slots after q = voter_voted (suc d) n.present slots after q distinct origin m in
      some_value (l.joined (suc d) q) v.slot (voted q v.slot v.vote)

  voter_present : (q : ℕ) → has who_votes q ≡ true → y.chapter.present q ≡ true
  voter_present q m = of (y.chapter.present q) refl
    where
      of : (b : Bool) → y.chapter.present q ≡ b → y.chapter.present q ≡ true
      of true e = e
      of false e =
          let v : Slotted n.present slots after q = voter_voted (suc d) n.present slots after q distinct origin m in
          absurd (let bad : None ≡ Some v.slot = sym (y.like.rest q (voters_among (is_join (suc d)) n.present slots q m) e).1 ∙ voted q v.slot v.vote in cc)

  -- the present set of the epoch in front, by the journal
  present_is : (q : ℕ) → is_present l (suc d - 1) q ≡ y.chapter.present q
  present_is q = ap (λ (e : ℕ). is_present l e q) (before d) ∙ ap (λ (o : Option Chapter). is_in o q) y.at

  comm_is : comm_in l (suc d - 1) ≡ n.comm
  comm_is = ap (comm_in l) (before d) ∙ ap comm_of y.at ∙ sym y.like.comm

  all_joined : (q : ℕ) → is_present l (suc d - 1) q ≡ true → is_killed (l.stands q) ≡ false → is_some (l.joined (suc d) q) ≡ true
  all_joined q a e = alive_joined q (y.like.part q (sym (present_is q) ∙ a)) e

  -- ---- what was decided before

  same_fate : (o : Option (List Slot)) → fate d ≡ o → (fate d ≡ None) ⊎ (fate d ≡ Some slots)
  same_fate None e = inl e
  same_fate (Some g) e = inr (e ∙ ap (λ (a : List Slot). Some a) (sym (agrees s w z fate p here h old at phase slots is g e)))

  era_now : era (first_era s) fate d ≡ Some x
  era_now = h.here p k.1

  next_now : (f : Option (List Slot)) → fate d ≡ f → era (first_era s) fate (suc d) ≡ next_era d (Some x) f
  next_now f e = ap (λ (a : Option Era). next_era d a (fate d)) era_now ∙ ap (λ (a : Option (List Slot)). next_era d (Some x) a) e

  -- an epoch that hasn't begun has no decision
  unborn : era (first_era s) fate (suc d) ≡ None → fate (suc d) ≡ None
  unborn none = of (fate (suc d)) refl
    where
      of : (o : Option (List Slot)) → fate (suc d) ≡ o → fate (suc d) ≡ None
      of None e = e
      of (Some g) e =
          let b : (q : ℕ) × (((z (suc d)).member q).phase ≡ Decided g) = (h.owes (suc d)).by g e in
          absurd (let bad : Outside ≡ Decided g = sym (((h.owes (suc d)).blank none).phase b.0) ∙ b.1 in cc)

  -- where it was decided before, nothing is decided anew
  all_same : fate d ≡ Some slots → (a : ℕ) → fate_now a ≡ fate a
  all_same some a = elim (cases_eq a d) [
    | inl same ↦ subst (λ b. fate_now b ≡ fate b) (sym same) (put_same fate d (Some slots) ∙ sym some)
    | inr far ↦ put_other fate d a (Some slots) far
  ]

  -- the epochs but the next are the same after the decision
  pub era_same : (e : ℕ) → e ≢ suc (w.node p).epoch → era (first_era (job_setup job)) fate_now e ≡ era (first_era (job_setup job)) fate e
  era_same e ne = elim (same_fate (fate d) refl) [
    | inl none ↦ elim (cases_lt d e) [
      | inl above ↦ late none (omega (arith, above, ne))
      | inr low ↦ era_before (first_era s) fate d (Some slots) e (omega (arith, low))
    ]
    | inr some ↦ ap (λ (f : ℕ → Option (List Slot)). era (first_era s) f e) (λ i a. all_same some a i)
  ]
    where
      late : fate d ≡ None → suc (suc d) ≤ e → era (first_era s) fate_now e ≡ era (first_era s) fate e
      late none up =
          let dead : era (first_era s) fate (suc d) ≡ None = next_now None none in
          let still : fate_now (suc d) ≡ None = put_other fate d (suc d) (Some slots) (next_apart d) ∙ unborn dead in
          era_dead (first_era s) fate_now (suc (suc d)) e up
          (ap (λ (f : Option (List Slot)). next_era (suc d) (era (first_era s) fate_now (suc d)) f) still ∙ next_none (suc d) (era (first_era s) fate_now (suc d)))
          ∙ sym (era_dead (first_era s) fate (suc d) e (omega (arith, up)) dead)

  -- ---- the node goes on

  module _ (goes : is_last (w.node p).epoch (era_of (w.node p)) slots ≡ false) where
    abbrev next : Era
    next = next_of d x slots

    abbrev m : Node
    m = arrived who_votes n

    reborn : fate d ≡ Some slots → era (first_era s) fate (suc d) ≡ Some next
    reborn some = next_now (Some slots) some ∙ cond-false {A = Option Era} (is_last d x slots) None (Some next) goes

    born : era (first_era s) fate_now (suc d) ≡ Some next
    born = next_era_is s w z fate p here h old at phase slots is goes

    second_none : era (first_era s) fate (suc (suc d)) ≡ None
    second_none = elim (same_fate (fate d) refl) [
      | inl none ↦ era_dead (first_era s) fate (suc d) (suc (suc d)) (omega arith) (next_now None none)
      | inr some ↦
          ap (λ (f : Option (List Slot)). next_era (suc d) (era (first_era s) fate (suc d)) f)
          (unjoined s w z fate p (suc d) next h (reborn some) (own_voter s w z fate p here h old at phase slots is) k.1 (((h.at (suc d)).fits p k.1).early (omega arith)))
          ∙ next_none (suc d) (era (first_era s) fate (suc d))
    ]

    -- who is present by the journal is a voter, and who has a place is present
    less : (q : ℕ) → belongs l (suc d) next.comm q ≡ true → has who_votes q ≡ true
    less q e = of (has_place next.comm q) refl
      where
        parts : (a b g i : Bool) → (b || (a && (g && not i))) ≡ true → b ≡ false → (a ≡ true) × (i ≡ false)
        parts true false true false m n = (refl, refl)
        parts true false true true m n = absurd (let bad : false ≡ true = m in cc)
        parts true false false i m n = absurd (let bad : false ≡ true = m in cc)
        parts a true g i m n = absurd (let bad : true ≡ false = n in cc)
        parts false false g i m n = absurd (let bad : false ≡ true = m in cc)

        of : (b : Bool) → has_place next.comm q ≡ b → has who_votes q ≡ true
        of true b = in_repair (has who_votes) n.comm q b
        of false b =
            let r = parts (is_present l (suc d - 1) q) (has_place next.comm q) (is_some (l.joined (suc d) q)) (is_killed (l.stands q)) e b in
            alive_voter (suc d) n.present slots after q origin (y.like.part q (sym (present_is q) ∙ r.0)) (lives q r.1).0 (lives q r.1).1 (λ v a. (h.owes d).votes q v (sym (votes q) ∙ a))

    placed_in : (q : ℕ) → has_place next.comm q ≡ true → belongs l (suc d) next.comm q ≡ true
    placed_in q e = or_left (has_place next.comm q) _ e

    mended : next.comm ≡ repaired (comm_in l (suc d - 1)) (belongs l (suc d) next.comm)
    mended =
        sym (repaired_fewer (belongs l (suc d) next.comm) (has who_votes) less n.comm placed_in)
        ∙ ap (λ (seats : List Seat). repaired seats (belongs l (suc d) next.comm)) (sym comm_is)

    -- nobody has ended where an epoch is still to begin
    none_ended : l.chapters (suc d) ≡ None → (q : ℕ) → q < procs_of job → l.stands q ≡ stand.Ended → ⊥
    none_ended none q few ended = of (cases_lt d (w.node q).epoch)
      where
        living : w.killed q ≡ false
        living = sym (t.killed q) ∙ ap is_killed ended

        over : has_ended (w.node q) ≡ true
        over = sym (gone_where_over job (l.stands q) (w.node q) (t.stands q living)) ∙ ap is_gone ended

        last : EndedAs fate (w.node q)
        last = h.over q living over

        era_none : era (first_era s) fate (suc d) ≡ None
        era_none = unborn_too l (suc d) (era (first_era s) fate (suc d)) (l.chapters (suc d)) (t.eras (suc d)) none

        era_there : era (first_era s) fate (w.node q).epoch ≡ Some (era_of (w.node q))
        era_there = h.here q living

        behind : era (first_era s) fate (suc (w.node q).epoch) ≡ None
        behind =
            ap (λ (a : Option Era). next_era (w.node q).epoch a (fate (w.node q).epoch)) era_there ∙ ap (λ (a : Option (List Slot)). next_era (w.node q).epoch (Some (era_of (w.node q))) a) last.is
            ∙ cond-true {A = Option Era} (is_last (w.node q).epoch (era_of (w.node q)) last.slots) None (Some (next_of (w.node q).epoch (era_of (w.node q)) last.slots)) last.ends

        clash : (a b : Era) → Some a ≡ None → ⊥
        clash a b e = cc

        same_epoch : (w.node q).epoch ≡ d → ⊥
        same_epoch same =
            let both : era_of (w.node q) ≡ x = some_era (era_of (w.node q)) x (sym era_there ∙ ap (era (first_era s) fate) same ∙ era_now) in
            let agree : slots ≡ last.slots = agrees s w z fate p here h old at phase slots is last.slots (ap fate (sym same) ∙ last.is) in
            let bad : true ≡ false = sym last.ends ∙ ap (λ (o : ℕ). is_last o (era_of (w.node q)) last.slots) same ∙ ap (λ (o : Era). is_last d o last.slots) both ∙ ap (is_last d x) (sym agree) ∙ goes in cc

        of : (d < (w.node q).epoch) ⊎ ((w.node q).epoch ≤ d) → ⊥
        of (inl above) = clash (era_of (w.node q)) x (sym era_there ∙ era_dead (first_era s) fate (suc d) (w.node q).epoch (omega (arith, above)) era_none)
        of (inr low) = elim (cases_eq (w.node q).epoch d) [
          | inl same ↦ same_epoch same
          | inr ne ↦ clash x x (sym era_now ∙ era_dead (first_era s) fate (suc (w.node q).epoch) d (omega (arith, low, ne)) behind)
        ]

    -- a place was lost, where whoever has one joined as final or behind a loss
    pub lossy : ((q : ℕ) (v : Slot) → l.joined (suc (w.node p).epoch) q ≡ Some v → has_place (comm_in l (w.node p).epoch) q ≡ true → (v ≡ slot.Final) ⊎ HasLoss l (w.node p).epoch) → 0 < (w.node p).epoch
        → HasLoss l (w.node p).epoch
    lossy kinds later =
        let r = one_not_final (λ q. is_final (get_or slots (seat_of n.present q) slot.Lost)) n.comm (not_all (nat_lt 0 d) _ (below d later) goes) in
        of r.0 r.1 r.2 (w.killed r.0) refl
      where
        below : (a : ℕ) → 0 < a → nat_lt 0 a ≡ true
        below a e = grind (arith, nat_tests)

        not_all : (a b : Bool) → a ≡ true → (a && b) ≡ false → b ≡ false
        not_all a b e f = grind (arith, nat_tests)

        placed : (q : ℕ) → has_place n.comm q ≡ true → has_place (comm_in l d) q ≡ true
        placed q place = ap (λ (c : List Seat). has_place c q) (ap comm_of y.at ∙ sym y.like.comm) ∙ place

        of : (q : ℕ) → has_place n.comm q ≡ true → is_final (get_or slots (seat_of n.present q) slot.Lost) ≡ false → (b : Bool) → w.killed q ≡ b → HasLoss l d
        of q place not_final true e = (q, placed q place, t.killed q ∙ e)
        of q place not_final false e =
            let in_it : has n.present q ≡ true = era_places s fate d x q later (h.here p k.1) place in
            let v : Slotted n.present slots after q = alive_slot n.present slots after q origin in_it (lives q (t.killed q ∙ e)).0 (lives q (t.killed q ∙ e)).1 in
            elim (kinds q v.slot (voted q v.slot v.vote) (placed q place)) [
              | inl final ↦ absurd (let bad : true ≡ false = sym (ap is_final (got_is slots (seat_of n.present q) v.slot v.at ∙ final)) ∙ not_final in cc)
              | inr loss ↦ loss
            ]

    begins : l.chapters (suc d) ≡ None → rules.Begins job l (suc d) next.comm
    begins none = record {
      none_ended = none_ended none;
      all_joined = all_joined;
      seated = λ q a. (present_is q ∙ voter_present q (in_repair (has who_votes) n.comm q a), voter_joined q (in_repair (has who_votes) n.comm q a));
      mended = mended;
    }

    -- an epoch that the journal has is the one that is decided
    old_next : (l.chapters (suc d) ≡ None) ⊎ Liked l (suc d) next (l.chapters (suc d))
    old_next = elim (same_fate (fate d) refl) [
      | inl none ↦ inl (unliked l (suc d) (era (first_era s) fate (suc d)) (l.chapters (suc d)) (t.eras (suc d)) (next_now None none))
      | inr some ↦ inr (liked l (suc d) next (era (first_era s) fate (suc d)) (l.chapters (suc d)) (t.eras (suc d)) (reborn some))
    ]

    one : IsTheOne job l (suc d) next.comm (l.chapters (suc d))
    one = elim old_next [
      | inl none ↦ subst (IsTheOne job l (suc d) next.comm) (sym none) (begins none)
      | inr r ↦ subst (IsTheOne job l (suc d) next.comm) (sym r.at) r.like.comm
    ]

    waits : Waits job (l.stands p) n
    waits = subst (λ a. OfStage job (l.stands p) n a) at (t.stands p k.1)

    -- the item that it writes
    abbrev pub repaired_item : Item
    repaired_item = item.Repaired (proc (w.node p).me) (epoch_no (suc (w.node p).epoch)) (length (next_of (w.node p).epoch (era_of (w.node p)) slots).comm)
        (nat_lt (length (next_of (w.node p).epoch (era_of (w.node p)) slots).comm) (ranks_of job)) (next_of (w.node p).epoch (era_of (w.node p)) slots).comm

    abbrev behind : Ledger
    behind = written job l repaired_item

    own : n.me ≡ p
    own = (h.sane p k.1).me

    pub may_repair : MayBeRepaired job l (proc (w.node p).me) (suc (w.node p).epoch) (length (next_of (w.node p).epoch (era_of (w.node p)) slots).comm)
        (nat_lt (length (next_of (w.node p).epoch (era_of (w.node p)) slots).comm) (ranks_of job)) (next_of (w.node p).epoch (era_of (w.node p)) slots).comm
    may_repair = record {
      waits = subst (λ (o : ℕ). IsWaiting (suc d) (l.stands o)) (sym own) (subst (IsWaiting (suc d)) (sym waits.stand) refl);
      one = one;
      sized = (refl, refl);
      current = unliked l (suc (suc d)) (era (first_era s) fate (suc (suc d))) (l.chapters (suc (suc d))) (t.eras (suc (suc d))) second_none;
    }

    -- ---- the ledger behind it

    -- where the process stands then
    abbrev stand_now : Stand
    stand_now = opened (facts_of job) (suc d) (role_in l (suc d) n.me) (place_in next.comm n.me) (length next.comm) (state_kept (blank (facts_of job)) (l.stands n.me))

    role_is : (e : ℕ) → d ≡ e → role_in l (suc d) n.me ≡ m.role
    role_is zero e = ap (λ (o : ℕ). role_in l (suc o) n.me) e ∙ sym (ap (λ (o : ℕ). if o == 0 then role.Initial else (if has_place n.comm n.me then role.Survivor else role.Recovered)) e)
    role_is (suc e) same =
        ap (λ (o : ℕ). role_in l (suc o) n.me) same
        ∙ ap (λ (c : List Seat). if has_place c n.me then role.Survivor else role.Recovered) (ap (comm_in l) (sym same) ∙ ap comm_of y.at ∙ sym y.like.comm)
        ∙ sym (ap (λ (b : Bool). if b then role.Initial else (if has_place n.comm n.me then role.Survivor else role.Recovered)) (ap (λ (o : ℕ). o == 0) same ∙ apart_zero e))

    kept_is : state_kept (blank (facts_of job)) (l.stands n.me) ≡ state_of n
    kept_is = ap (λ (o : ℕ). state_kept (blank (facts_of job)) (l.stands o)) own ∙ ap (state_kept (blank (facts_of job))) waits.stand

    opened_as : (place : Option ℕ) → place_in next.comm n.me ≡ place → stand_now ≡ opened (facts_of job) (suc d) m.role place (length next.comm) (state_of n)
    opened_as place e =
        ap (λ (r : Role). opened (facts_of job) (suc d) r (place_in next.comm n.me) (length next.comm) (state_kept (blank (facts_of job)) (l.stands n.me))) (role_is d refl)
        ∙ ap (λ (o : Option ℕ). opened (facts_of job) (suc d) m.role o (length next.comm) (state_kept (blank (facts_of job)) (l.stands n.me))) e
        ∙ ap (λ (o : State). opened (facts_of job) (suc d) m.role place (length next.comm) o) kept_is

    -- who is without a place never had one from epoch 1 on
    stays_blank : has_place next.comm n.me ≡ false → (nat_lt 0 d && has_place n.comm n.me) ≡ false
    stays_blank none = of (nat_lt 0 d) (has_place n.comm n.me) refl
      where
        of : (a b : Bool) → has_place n.comm n.me ≡ b → (a && b) ≡ false
        of true true e = absurd (let bad : true ≡ false = sym (keeps_place (has who_votes) n.comm n.me (ap (has who_votes) own ∙ own_voter s w z fate p here h old at phase slots is) e) ∙ none in cc)
        of true false e = refl
        of false b e = refl

    settled : Settled job stand_now m
    settled = record {
      seated = λ e. opened_as (Some (my_place m)) (place_is next.comm n.me e);
      spare = λ e. (opened_as None (unplaced next.comm n.me e), waits.empty (stays_blank e));
    }

    stand_of : behind.stands p ≡ stand_now
    stand_of = ap (λ (o : ℕ). at_key o stand_now l.stands p) own ∙ key_same p stand_now l.stands

    stand_far : (q : ℕ) → q ≢ p → behind.stands q ≡ l.stands q
    stand_far q ne = key_other n.me stand_now l.stands q (λ e. ne (e ∙ own))

    was_waiting : is_killed (l.stands p) ≡ true → ⊥
    was_waiting e = let bad : true ≡ false = sym e ∙ alive_here in cc

    still_dead : (q : ℕ) → is_killed (l.stands q) ≡ true → is_killed (behind.stands q) ≡ true
    still_dead q e = ap is_killed (stand_far q (λ same. was_waiting (subst (λ o. is_killed (l.stands o) ≡ true) same e))) ∙ e

    next_like : Like behind (suc d) (Some next) (begun_by l (suc d) next.comm (l.chapters (suc d)))
    next_like = elim old_next [
      | inl none ↦ subst (λ (o : Option Chapter). Like behind (suc d) (Some next) (begun_by l (suc d) next.comm o)) (sym none) (fresh none)
      | inr r ↦ subst (λ (o : Option Chapter). Like behind (suc d) (Some next) (begun_by l (suc d) next.comm o)) (sym r.at)
          (record { comm = r.like.comm; part = r.like.part; rest = λ q a b. let i = r.like.rest q a b in (still_dead q i.0, i.1) })
    ]
      where
        dead : (a b g i : Bool) → (b || (a && (g && not i))) ≡ false → a ≡ true → g ≡ true → i ≡ true
        dead a b g i m n o = grind (arith, nat_tests)

        fresh : l.chapters (suc d) ≡ None → LikeEra behind (suc d) next (record { comm = next.comm; present = belongs l (suc d) next.comm })
        fresh none = record {
          comm = refl;
          part = less;
          rest = λ q a b. (still_dead q (dead (is_present l (suc d - 1) q) (has_place next.comm q) (is_some (l.joined (suc d) q)) (is_killed (l.stands q)) b (present_is q ∙ voter_present q a) (voter_joined q a)), silent q);
        }
          where
            silent : (q : ℕ) → l.joined (suc (suc d)) q ≡ None
            silent q = t.joined (suc d) q ∙ ((h.owes (suc d)).blank (unborn_too l (suc d) (era (first_era s) fate (suc d)) (l.chapters (suc d)) (t.eras (suc d)) none)).vote q q

    pub repair_links : Links job p (repairs (job_setup job) (arrived (voters (is_join (suc (w.node p).epoch)) (w.node p).present slots) (w.node p))) w fate_now
        (after_turn w z p (record { phase = phase; poll = poll.Decided slots })) l (written job l repaired_item)
    repair_links = record {
      stands = stand_far;
      mine = subst (λ (o : Stand). AtStage job o m) (sym stand_of) settled;
      joined_here = λ q. t.joined d q ∙ sym (votes q);
      joined = λ a q ne. refl;
      eras = λ a. elim (cases_eq a (suc d)) [
        | inl same ↦ subst (λ b. Like behind b (era (first_era s) fate_now b) (behind.chapters b)) (sym same)
            (subst (λ (o : Option Era). Like behind (suc d) o (behind.chapters (suc d))) (sym born)
            (subst (λ (o : Option Chapter). Like behind (suc d) (Some next) o) (sym (key_same (suc d) (begun_by l (suc d) next.comm (l.chapters (suc d))) l.chapters)) next_like))
        | inr ne ↦
            subst (λ (o : Option Era). Like behind a o (behind.chapters a)) (sym (era_same a ne))
            (subst (λ (o : Option Chapter). Like behind a (era (first_era s) fate a) o) (sym (key_other (suc d) (begun_by l (suc d) next.comm (l.chapters (suc d))) l.chapters a ne))
            (like_on l behind a (era (first_era s) fate a) (l.chapters a) still_dead (λ q b g. g) (t.eras a)))
      ];
    }

  -- ---- the node ends

  module _ (last : is_last (w.node p).epoch (era_of (w.node p)) slots ≡ true) where
    no_next : era (first_era s) fate (suc d) ≡ None
    no_next = elim (same_fate (fate d) refl) [
      | inl none ↦ next_now None none
      | inr some ↦ next_now (Some slots) some ∙ cond-true {A = Option Era} (is_last d x slots) None (Some (next_of d x slots)) last
    ]

    never : era (first_era s) fate_now (suc d) ≡ None
    never =
        ap (λ (a : Option Era). next_era d a (fate_now d)) (sealed_here s w z fate p here h old at phase slots is)
        ∙ ap (λ (f : Option (List Slot)). next_era d (Some x) f) (put_same fate d (Some slots))
        ∙ cond-true {A = Option Era} (is_last d x slots) None (Some (next_of d x slots)) last

    end_same : (e : ℕ) → era (first_era s) fate_now e ≡ era (first_era s) fate e
    end_same e = elim (cases_eq e (suc d)) [
      | inl same ↦ subst (λ b. era (first_era s) fate_now b ≡ era (first_era s) fate b) (sym same) (never ∙ sym no_next)
      | inr ne ↦ era_same e ne
    ]

    last_parts : (a b : Bool) → (a && b) ≡ true → (a ≡ true) × (b ≡ true)
    last_parts a b e = (grind (arith, nat_tests), grind (arith, nat_tests))

    above : (a : ℕ) → nat_lt 0 a ≡ true → 2 ≤ suc a
    above a e = grind (arith, nat_tests)

    may_end : MayEnd job l (suc d)
    may_end =
        let parts = last_parts (nat_lt 0 d) (list_all (λ q. is_final (get_or slots (seat_of n.present q) slot.Lost)) (nodes.procs_of n.comm)) last in
        record {
          late = above d parts.0;
          final = λ q a. voted q slot.Final (all_final_voted n.present n.comm slots after q origin parts.1 (ap (λ (c : List Seat). has_place c q) (sym comm_is) ∙ a));
          all_joined = all_joined;
          unbegun = unliked l (suc d) (era (first_era s) fate (suc d)) (l.chapters (suc d)) (t.eras (suc d)) no_next;
        }

    waits_too : Waits job (l.stands p) n
    waits_too = subst (λ a. OfStage job (l.stands p) n a) at (t.stands p k.1)

    own_too : n.me ≡ p
    own_too = (h.sane p k.1).me

    pub may_ending : IsEnding job l (l.stands (w.node p).me)
    may_ending = subst (λ (o : ℕ). IsEnding job l (l.stands o)) (sym own_too) (subst (IsEnding job l) (sym waits_too.stand) may_end)

    abbrev end_ledger : Ledger
    end_ledger = written job l (item.Ended (proc n.me))

    ended_far : (q : ℕ) → q ≢ p → end_ledger.stands q ≡ l.stands q
    ended_far q ne = key_other n.me stand.Ended l.stands q (λ e. ne (e ∙ own_too))

    ended_dead : (q : ℕ) → is_killed (l.stands q) ≡ true → is_killed (end_ledger.stands q) ≡ true
    ended_dead q e = ap is_killed (ended_far q (λ same. let bad : true ≡ false = sym (subst (λ o. is_killed (l.stands o) ≡ true) same e) ∙ alive_here in cc)) ∙ e

    pub end_links : Links job p (ends (w.node p)) w fate_now (after_turn w z p (record { phase = phase; poll = poll.Decided slots })) l (written job l (item.Ended (proc (w.node p).me)))
    end_links = record {
      stands = ended_far;
      mine = ap (λ (o : ℕ). at_key o stand.Ended l.stands p) own_too ∙ key_same p stand.Ended l.stands;
      joined_here = λ q. t.joined d q ∙ sym (votes q);
      joined = λ a q ne. refl;
      eras = λ a.
          subst (λ (o : Option Era). Like end_ledger a o (l.chapters a)) (sym (end_same a)) (like_on l end_ledger a (era (first_era s) fate a) (l.chapters a) ended_dead (λ q b g. g) (t.eras a));
    }
