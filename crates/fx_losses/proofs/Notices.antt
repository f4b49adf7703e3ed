-- Notices keep what the world shows.
use Rattle.std.proofs.Common.{◌≡◌, ℕ, ◌≢◌, suc, Bool, true, List, [], Option, inl, inr, arith, refl, subst, sym, ◌∙◌, ap}
use Rattle.std.specs.Prelude.{not}
use Rattle.std.proofs.lemmas.Bool.Decides.{nat_tests}
use Rattle.std.proofs.lemmas.Bool.{cases_eq}
use Rattle.fx_ballot.specs.declared.heard.Heard.{Heard}
use Rattle.fx_ballot.specs.Laws.{vote_of, estimate_of}
use Rattle.fx_ballot.specs.Turn.{learn_loss}
use Rattle.fx_ballot.specs.World.{Member, put, put_link, among, start, hears, tells, kills}
use Rattle.fx_ballot.specs.World as ballot
use Rattle.fx_ballot.proofs.Face.{blank_tell, sound_tell, caught_tell}
use Rattle.fx_link.specs.declared.slot.Slot.{Slot}
use Rattle.fx_machine.specs.Nodes.{Node, is_told}
use Rattle.fx_machine.specs.Setup.{Setup}
use Rattle.fx_fleet.specs.World.{World, learns}
use Rattle.fx_losses.specs.Eras.{first_era, era}
use Rattle.fx_losses.proofs.Shows.{Shows}
use Rattle.fx_losses.proofs.Texts.{put_same, put_other, of_epoch, heard_of, knowing, shown, lost_later}
use Rattle.fx_losses.proofs.Events.{Stands, Alike, not_pair, is_pair, Changed, at_changed, owes_same, alike_shows}

-- ---- a notice

changed_tells : (a b : ℕ) (z : ballot.World) → Changed a b z (tells a b z)
changed_tells a b z = record {
  phase = λ q. grind (arith, nat_tests);
  living = λ q. grind (arith, nat_tests);
  gone = λ q. grind (arith, nat_tests);
  heard = λ q c ne. other q c ne;
  link = λ c q ne. not_pair a b c q [] (z.link c q) ne;
}
  where
    mine : (c : ℕ) → c ≢ a → ((tells a b z).member b).heard c ≡ (z.member b).heard c
    mine c ne = grind (arith, nat_tests)

    elsewhere : (q c : ℕ) → q ≢ b → ((tells a b z).member q).heard c ≡ (z.member q).heard c
    elsewhere q c ne = grind (arith, nat_tests)

    other : (q c : ℕ) → ((c ≡ a) × (q ≡ b) → ⊥) → ((tells a b z).member q).heard c ≡ (z.member q).heard c
    other q c ne = elim (cases_eq q b) [
      | inl s ↦ subst (λ o. ((tells a b z).member o).heard c ≡ (z.member o).heard c) (sym s) (mine c (λ e. ne (e, s)))
      | inr o ↦ elsewhere q c o
    ]

told_heard : (a b : ℕ) (z : ballot.World) → ((tells a b z).member b).heard a ≡ learn_loss ((z.member b).heard a)
told_heard a b z = grind (arith, nat_tests)

pub tells_vote : (a b : ℕ) (z : ballot.World) (q : ℕ) → vote_of (tells a b z) q ≡ vote_of z q
tells_vote a b z q = grind (arith, nat_tests)

pub tells_estimate : (a b : ℕ) (z : ballot.World) (q : ℕ) → estimate_of (tells a b z) q ≡ estimate_of z q
tells_estimate a b z q = grind (arith, nat_tests)

module _ (s : Setup) (a b : ℕ) (w : World) (z : ℕ → ballot.World) (fate : ℕ → Option (List Slot)) (dead : w.killed a ≡ true) (h : Shows s w z fate) where
  abbrev v : World
  v = learns a b w

  node_now : v.node b ≡ is_told a (w.node b)
  node_now = put_same w.node b (is_told a (w.node b))

  pub alike_learns : Alike b w (learns a b w)
  alike_learns = record {
    mine = subst (λ n. Stands (w.node b) n) (sym node_now) (record { me = refl; epoch = refl; era = refl; role = refl; stage = refl });
    other = λ q o. put_other w.node b q (is_told a (w.node b)) o;
    killed = λ q. refl;
  }

  shown_told : (e : ℕ) → shown e (v.node b) a ≡ learn_loss (shown e (w.node b) a)
  shown_told e =
      ap (λ (n : Node). shown e n a) node_now ∙ ap (λ (t : Bool). heard_of (of_epoch e ((w.node b).texts a)) (knowing t)) (put_same (w.node b).lost a true)
      ∙ lost_later (of_epoch e ((w.node b).texts a)) (knowing ((w.node b).lost a))

  shown_untold : (e c : ℕ) → c ≢ a → shown e (v.node b) c ≡ shown e (w.node b) c
  shown_untold e c ne = ap (λ (n : Node). shown e n c) node_now ∙ ap (λ (t : Bool). heard_of (of_epoch e ((w.node b).texts c)) (knowing t)) (put_other (w.node b).lost a c true ne)

  told_before : (q c : ℕ) → c ≢ a → (v.node q).lost c ≡ (w.node q).lost c
  told_before q c ne = elim (cases_eq q b) [
    | inl same ↦ subst (λ o. (v.node o).lost c ≡ (w.node o).lost c) (sym same) (ap (λ (n : Node). n.lost c) node_now ∙ put_other (w.node b).lost a c true ne)
    | inr o ↦ ap (λ (n : Node). n.lost c) (put_other w.node b q (is_told a (w.node b)) o)
  ]

  pub notice_shows : Shows s (learns a b w) (λ d. tells a b (z d)) fate
  notice_shows =
      alike_shows s b w v z (λ d. tells a b (z d)) fate alike_learns
      (λ d. at_changed s d a b w v (z d) (tells a b (z d)) alike_learns (changed_tells a b (z d)) (λ c o. shown_untold (suc d) c o) (λ c q o. not_pair a b c q [] (w.link c q) o)
      (λ u. told_heard a b (z d) ∙ ap (λ (x : Heard). learn_loss x) ((h.at d).heard b a u) ∙ sym (shown_told (suc d)))
      (λ x u. is_pair a b [] ((z d).link a b) ∙ ap (of_epoch (suc d)) (sym (is_pair a b [] (w.link a b)))) (h.at d))
      (λ d. owes_same d (era (first_era s) fate d) (fate d) (z d) (tells a b (z d)) (changed_tells a b (z d)).phase (tells_vote a b (z d))
      (λ n name k. record { sound = sound_tell n name a b (z d) ((h.at d).living a ∙ ap not dead) k.sound; caught = caught_tell (among n name) a b (z d) k.caught })
      (blank_tell a b (z d) ((h.at d).living a ∙ ap not dead)) (h.owes d))
      (λ q c e. elim (cases_eq c a) [
        | inl same ↦ subst (λ o. w.killed o ≡ true) (sym same) dead
        | inr o ↦ h.told q c (sym (told_before q c o) ∙ e)
      ]) h
