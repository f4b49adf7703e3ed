-- Losses keep what the world shows; and what the first world shows.
use Rattle.std.proofs.Common.{◌≡◌, ℕ, ◌≢◌, suc, Bool, true, false, ◌&&◌, List, length, Option, Some, None, inl, inr, arith, refl, subst, sym, ◌∙◌, ap}
use Rattle.std.specs.Prelude.{not, nat_lt}
use Rattle.std.proofs.lemmas.Bool.Decides.{nat_tests}
use Rattle.std.proofs.lemmas.Bool.{cases_eq}
use Rattle.fx_ballot.specs.declared.heard.Heard.{Heard}
use Rattle.fx_ballot.specs.Names.{seat_at}
use Rattle.fx_ballot.specs.Turn.{Outside, Decided}
use Rattle.fx_ballot.specs.World.{Member, put, put_link, among, start, hears, tells, kills}
use Rattle.fx_ballot.specs.World as ballot
use Rattle.fx_ballot.proofs.Face.{blank_start, blank_kill, sound_kill, caught_kill}
use Rattle.fx_comm.specs.Seats.{has_place}
use Rattle.fx_link.specs.declared.slot.Slot.{Slot}
use Rattle.fx_machine.specs.Nodes.{Node, has_ended, first_node}
use Rattle.fx_machine.specs.Setup.{Setup}
use Rattle.fx_fleet.specs.World.{World, first_world, up, loses}
use Rattle.fx_calm.proofs.Seats.{has_all}
use Rattle.fx_losses.specs.Eras.{first_era, era_of, era}
use Rattle.fx_losses.proofs.Actions.{kept_blank}
use Rattle.fx_losses.proofs.Shows.{is_begin, Fits, Sane, EndedAs, role_after, Shows, up_parts}
use Rattle.fx_losses.proofs.Texts.{put_same, put_other, of_epoch, shown}
use Rattle.fx_losses.proofs.Events.{owes_same}
use Rattle.fx_losses.proofs.Tests.{less_is}

-- ---- a loss

pub slain_not : (p q : ℕ) (k : ℕ → Bool) → put k p true q ≡ false → (q ≢ p) × (k q ≡ false)
slain_not p q k e = elim (cases_eq q p) [
  | inl same ↦ absurd (let bad : true ≡ false = sym (put_same k p true) ∙ ap (put k p true) (sym same) ∙ e in cc)
  | inr ne ↦ (ne, sym (put_other k p q true ne) ∙ e)
]

kills_phase : (p q : ℕ) (z : ballot.World) → ((kills p z).member q).phase ≡ (z.member q).phase
kills_phase p q z = grind (arith, nat_tests)

pub kills_heard : (p q c : ℕ) (z : ballot.World) → ((kills p z).member q).heard c ≡ (z.member q).heard c
kills_heard p q c z = grind (arith, nat_tests)

kills_gone : (p q : ℕ) (z : ballot.World) → ((kills p z).member q).gone ≡ (z.member q).gone
kills_gone p q z = grind (arith, nat_tests)

module _ (s : Setup) (p : ℕ) (w : World) (z : ℕ → ballot.World) (fate : ℕ → Option (List Slot)) (h : Shows s w z fate) where
  abbrev v : World
  v = loses s p w

  pub loses_others : (q : ℕ) → q ≢ p → (loses s p w).node q ≡ w.node q
  loses_others q ne = put_other w.node p q (first_node s p) ne

  -- of those that live the same holds
  survivors : (P : ℕ → Node → Type 0) → (q : ℕ) → v.killed q ≡ false → (w.killed q ≡ false → P q (w.node q)) → P q (v.node q)
  survivors P q k is = let n = slain_not p q w.killed k in subst (P q) (sym (loses_others q n.0)) (is n.1)

  pub up_survivor : (q : ℕ) → up s (loses s p w) q ≡ true → (q ≢ p) × (up s w q ≡ true)
  up_survivor q u =
      let parts = up_parts s v q u in
      let n = slain_not p q w.killed parts.1 in (
        n.0,
        sym (ap (λ (k : Bool). nat_lt q s.procs && (not k && not (has_ended (v.node q)))) (put_other w.killed p q true n.0)
            ∙ ap (λ (x : Node). nat_lt q s.procs && (not (w.killed q) && not (has_ended x))) (loses_others q n.0)) ∙ u,
      )

  far : (a b : ℕ) → b ≢ p → v.link a b ≡ w.link a b
  far a b ne = grind (arith, nat_tests)

  grown : (c : ℕ) → w.killed c ≡ true → put w.killed p true c ≡ true
  grown c e = grind (arith, nat_tests)

  pub loss_shows : Shows s (loses s p w) (λ d. kills p (z d)) fate
  loss_shows = record {
    at = λ d. record {
      fits = λ q k. survivors (λ o n. Fits d n ((kills p (z d)).member o).phase) q k (λ l. subst (λ ph. Fits d (w.node q) ph) (sym (kills_phase p q (z d))) ((h.at d).fits q l));
      heard = λ q c u. let b = up_survivor q u in kills_heard p q c (z d) ∙ (h.at d).heard q c b.1 ∙ ap (λ (n : Node). shown (suc d) n c) (sym (loses_others q b.0));
      link = λ a b ne u. let o = up_survivor b u in (h.at d).link a b ne o.1 ∙ ap (of_epoch (suc d)) (sym (far a b o.0));
      living = λ q. elim (cases_eq q p) [
        | inl same ↦ subst (λ o. ((kills p (z d)).member o).living ≡ not (put w.killed p true o)) (sym same)
            (ap (λ (x : Member). x.living) (put_same (z d).member p (record ((z d).member p) { living = false })) ∙ ap not (sym (put_same w.killed p true)))
        | inr ne ↦ ap (λ (x : Member). x.living) (put_other (z d).member p q (record ((z d).member p) { living = false }) ne) ∙ (h.at d).living q ∙ ap not (sym (put_other w.killed p q true ne))
      ];
      gone = λ q. kills_gone p q (z d) ∙ (h.at d).gone q;
    };
    owes = λ d. owes_same d (era (first_era s) fate d) (fate d) (z d) (kills p (z d)) (λ q. kills_phase p q (z d)) (λ q. ap (λ (x : Heard). x.vote) (kills_heard p q q (z d)))
        (λ n name k. record { sound = sound_kill n name p (z d) k.sound; caught = caught_kill (among n name) p (z d) k.caught }) (blank_kill p (z d)) (h.owes d);
    here = λ q k. survivors (λ o n. era (first_era s) fate n.epoch ≡ Some (era_of n)) q k (h.here q);
    role = λ q d x k e i. survivors (λ o n. n.epoch ≡ suc d → n.role ≡ role_after d (has_place x.comm o)) q k (λ l a. h.role q d x l a i) e;
    sane = λ q k. survivors (λ o n. Sane s o n) q k (h.sane q);
    over = λ q k. survivors (λ o n. has_ended n ≡ true → EndedAs fate n) q k (h.over q);
    told = λ q c e. grown c (elim (cases_eq q p) [
      | inl same ↦ absurd (let bad : false ≡ true = sym (ap (λ (n : Node). n.lost c) (put_same w.node p (first_node s p))) ∙ subst (λ o. (v.node o).lost c ≡ true) same e in cc)
      | inr ne ↦ h.told q c (sym (ap (λ (n : Node). n.lost c) (loses_others q ne)) ∙ e)
    ]);
  }

-- ---- the start

pub start_shows : (s : Setup) → Shows s (first_world s) (λ d. start) (λ d. None)
start_shows s = record {
  at = λ d. record {
    fits = λ q k. record { early = λ l. refl; now = λ e o. refl; later = λ l. absurd (omega arith); ended = λ e o. absurd (let bad : false ≡ true = e in cc) };
    heard = λ q c u. refl;
    link = λ a b ne u. refl;
    living = λ q. refl;
    gone = λ q. refl;
  };
  owes = λ d. record {
    kept = λ y e. kept_blank (length y.who) (seat_at y.who) start blank_start;
    blank = λ e. blank_start;
    fated = λ p g e. absurd (let bad : Outside ≡ Decided g = e in cc);
    votes = λ p v e. absurd (let bad : None ≡ Some v = e in cc);
    by = λ g e. absurd (let bad : None ≡ Some g = e in cc);
  };
  here = λ q k. refl;
  role = λ q d x k e i. absurd (let bad : 0 ≡ suc d = e in omega (arith, bad));
  sane = λ q k. record {
    me = refl;
    fresh = λ e. refl;
    later = λ e. absurd (let bad : false ≡ true = e in cc);
    placed = λ e. absurd (let bad : false ≡ true = e in cc);
    inside = λ ph e. absurd (let bad : true ≡ false = ap is_begin e in cc);
    mine = λ l. has_all s.procs q ∙ less_is q s.procs l;
  };
  over = λ q k e. absurd (let bad : false ≡ true = e in cc);
  told = λ q c e. absurd (let bad : false ≡ true = e in cc);
}
