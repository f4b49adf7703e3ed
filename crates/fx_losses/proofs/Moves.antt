-- A step of one node keeps what the world shows.
use Rattle.std.proofs.Common.{◌≡◌, ℕ, ◌≢◌, ◌==◌, suc, Bool, true, false, ◌&&◌, List, [], Option, Some, inl, inr, arith, refl, subst, sym, ◌∙◌, ap}
use Rattle.std.specs.Prelude.{if◌then◌else◌, not, nat_lt}
use Rattle.std.proofs.lemmas.Bool.Decides.{nat_tests}
use Rattle.std.proofs.lemmas.Bool.{cond_both, cases_eq}
use Rattle.fx_ballot.specs.Turn.{Message}
use Rattle.fx_ballot.specs.World.{Member, put, told_all}
use Rattle.fx_ballot.specs.World as ballot
use Rattle.fx_comm.specs.Seats.{has_place}
use Rattle.fx_link.specs.declared.slot.Slot.{Slot}
use Rattle.fx_machine.specs.Nodes.{Node, Act, has_ended}
use Rattle.fx_machine.specs.Setup.{Setup}
use Rattle.fx_machine.specs.Texts.{Text}
use Rattle.fx_fleet.specs.World.{World, up, does}
use Rattle.fx_losses.specs.Eras.{Era, first_era, era_of, era}
use Rattle.fx_losses.proofs.Eras.{Born, born, era_grows}
use Rattle.fx_losses.proofs.Shows.{Fits, At, Owes, Sane, EndedAs, role_after, Shows}
use Rattle.fx_losses.proofs.Texts.{put_same, put_other, of_epoch, shown, Acted, shown_quiet, told_none, link_shows}

-- what a step of p is in the ballot at the end of epoch d, which becomes y
pub record Move (d p : ℕ) (act : Act) (said : List Text) (to : ℕ → Bool) (z y : ballot.World) : Type 0 where
  pub other : (q : ℕ) → q ≢ p → y.member q ≡ z.member q
  pub heard : (c : ℕ) → (y.member p).heard c ≡ shown (suc d) act.node c
  pub living : (y.member p).living ≡ (z.member p).living
  pub gone : (y.member p).gone ≡ (z.member p).gone
  pub link : (a b : ℕ) → y.link a b ≡ told_all to z.link p (of_epoch (suc d) said) a b
  pub fits : Fits d act.node (y.member p).phase

-- one ballot changes
abbrev pub at_one : ℕ → ballot.World → (ℕ → ballot.World) → ℕ → ballot.World
at_one d y z e = if e == d then y else z e

same_if : (e d : ℕ) → (e == d) ≡ true → e ≡ d
same_if e d t = grind (arith, nat_tests)

apart_if : (e d : ℕ) → (e == d) ≡ false → e ≢ d
apart_if e d t = grind (arith, nat_tests)

pub split : (d : ℕ) (y : ballot.World) (z : ℕ → ballot.World) (P : ℕ → ballot.World → Type 0) → P d y → ((e : ℕ) → e ≢ d → P e (z e)) → (e : ℕ) → P e (at_one d y z e)
split d y z P a f e = cond_both {A = ballot.World} (e == d) y (z e) (P e) (λ t. subst (λ k. P k y) (sym (same_if e d t)) a) (λ t. f e (apart_if e d t))

pub one_here : (d : ℕ) (y : ballot.World) (z : ℕ → ballot.World) → at_one d y z d ≡ y
one_here d y z = grind (arith, nat_tests)

pub one_far : (d e : ℕ) (y : ballot.World) (z : ℕ → ballot.World) → e ≢ d → at_one d y z e ≡ z e
one_far d e y z ne = grind (arith, nat_tests)

module _ (s : Setup) (p : ℕ) (act : Act) (w : World) where
  pub node_same : (does s p act w).node p ≡ act.node
  node_same = put_same w.node p act.node

  pub node_other : (q : ℕ) → q ≢ p → (does s p act w).node q ≡ w.node q
  node_other q ne = put_other w.node p q act.node ne

  -- what holds of the node of each process, itself and the others
  pub each_node : (P : ℕ → Node → Type 0) → P p act.node → ((q : ℕ) → q ≢ p → P q (w.node q)) → (q : ℕ) → P q ((does s p act w).node q)
  each_node P mine others q = elim (cases_eq q p) [
    | inl same ↦ subst (λ o. P o ((does s p act w).node o)) (sym same) (subst (P p) (sym node_same) mine)
    | inr ne ↦ subst (P q) (sym (node_other q ne)) (others q ne)
  ]

  pub up_before : (q : ℕ) → up s w p ≡ true → up s (does s p act w) q ≡ true → up s w q ≡ true
  up_before q here u = elim (cases_eq q p) [
    | inl same ↦ subst (λ o. up s w o ≡ true) (sym same) here
    | inr ne ↦ sym (ap (λ (n : Node). nat_lt q s.procs && (not (w.killed q) && not (has_ended n))) (node_other q ne)) ∙ u
  ]

  module _ (said : List Text) (to : ℕ → Bool) (here : up s w p ≡ true) (acted : Acted p (w.node p) act said to) where
    pub at_move : (d : ℕ) (z y : ballot.World) → Move d p act said to z y → At s d w z → At s d (does s p act w) y
    at_move d z y m h = record {
      fits = λ q. each_node (λ o n. w.killed o ≡ false → Fits d n (y.member o).phase) (λ k. m.fits) (λ o ne k. subst (λ (x : Member). Fits d (w.node o) x.phase) (sym (m.other o ne)) (h.fits o k)) q;
      heard = λ q c u. elim (cases_eq q p) [
        | inl same ↦ subst (λ o. (y.member o).heard c ≡ shown (suc d) ((does s p act w).node o) c) (sym same) (m.heard c ∙ ap (λ n. shown (suc d) n c) (sym node_same))
        | inr ne ↦ ap (λ (x : Member). x.heard c) (m.other q ne) ∙ h.heard q c (up_before q here u) ∙ ap (λ n. shown (suc d) n c) (sym (node_other q ne))
      ];
      link = λ a b ne u. m.link a b ∙ link_shows s (suc d) p (w.node p) act said to w z.link a b acted ne (up_before b here u) (h.link a b ne (up_before b here u));
      living = λ q. elim (cases_eq q p) [
        | inl same ↦ subst (λ o. (y.member o).living ≡ not (w.killed o)) (sym same) (m.living ∙ h.living p)
        | inr ne ↦ ap (λ (x : Member). x.living) (m.other q ne) ∙ h.living q
      ];
      gone = λ q. elim (cases_eq q p) [
        | inl same ↦ subst (λ o. (y.member o).gone ≡ false) (sym same) (m.gone ∙ h.gone p)
        | inr ne ↦ ap (λ (x : Member). x.gone) (m.other q ne) ∙ h.gone q
      ];
    }

    -- it says nothing in this ballot
    pub quiet_move : (d : ℕ) (z : ballot.World) → of_epoch (suc d) said ≡ [] → Fits d act.node (z.member p).phase → At s d w z → Move d p act said to z z
    quiet_move d z none f h = record {
      other = λ q ne. refl;
      heard = λ c. h.heard p c here ∙ sym (shown_quiet p (w.node p) act said to acted (suc d) c none);
      living = refl;
      gone = refl;
      link = λ a b. sym (ap (λ (l : List Message). told_all to z.link p l a b) none ∙ told_none to z.link p a b);
      fits = f;
    }

-- a whole step: what it is in the ballot at the end of its own epoch, and that it is nothing in any other
pub record Steps (s : Setup) (p : ℕ) (act : Act) (said : List Text) (to : ℕ → Bool) (w : World) (z : ℕ → ballot.World) (y : ballot.World) : Type 0 where
  pub acted : Acted p (w.node p) act said to
  pub here : Move (w.node p).epoch p act said to (z (w.node p).epoch) y
  pub quiet : (d : ℕ) → d ≢ (w.node p).epoch → of_epoch (suc d) said ≡ []
  pub fits : (d : ℕ) → d ≢ (w.node p).epoch → Fits d act.node ((z d).member p).phase
  pub sane : Sane s p act.node

-- what it makes of the epochs: what was decided before and after, and what each ballot owes
pub record Deems (s : Setup) (p : ℕ) (act : Act) (w : World) (z : ℕ → ballot.World) (old fate : ℕ → Option (List Slot)) (y : ballot.World) : Type 0 where
  pub grows : (d : ℕ) (x : List Slot) → old d ≡ Some x → fate d ≡ Some x
  pub owes_here : Owes (w.node p).epoch (era (first_era s) fate (w.node p).epoch) (fate (w.node p).epoch) y
  pub owes : (d : ℕ) → d ≢ (w.node p).epoch → Owes d (era (first_era s) fate d) (fate d) (z d)
  pub here : era (first_era s) fate act.node.epoch ≡ Some (era_of act.node)
  pub over : has_ended act.node ≡ true → EndedAs fate act.node
  pub role : (d : ℕ) (x : Era) → act.node.epoch ≡ suc d → era (first_era s) fate d ≡ Some x → act.node.role ≡ role_after d (has_place x.comm p)

pub some_era : (x y : Era) → Some x ≡ Some y → x ≡ y
some_era x y e = cc

pub shows_step : (s : Setup) (p : ℕ) (act : Act) (said : List Text) (to : ℕ → Bool) (w : World) (z : ℕ → ballot.World) (old fate : ℕ → Option (List Slot)) (y : ballot.World) → up s w p ≡ true
    → Steps s p act said to w z y → Deems s p act w z old fate y → Shows s w z old → Shows s (does s p act w) (at_one (w.node p).epoch y z) fate
shows_step s p act said to w z old fate y here t m h = record {
  at = split (w.node p).epoch y z (λ d x. At s d (does s p act w) x) (at_move s p act w said to here t.acted (w.node p).epoch (z (w.node p).epoch) y t.here (h.at (w.node p).epoch))
      (λ d ne. at_move s p act w said to here t.acted d (z d) (z d) (quiet_move s p act w said to here t.acted d (z d) (t.quiet d ne) (t.fits d ne) (h.at d)) (h.at d));
  owes = split (w.node p).epoch y z (λ d x. Owes d (era (first_era s) fate d) (fate d) x) m.owes_here m.owes;
  here = λ q. each_node s p act w (λ o n. w.killed o ≡ false → era (first_era s) fate n.epoch ≡ Some (era_of n)) (λ k. m.here)
      (λ o ne k. era_grows (first_era s) old fate m.grows (w.node o).epoch (era_of (w.node o)) (h.here o k)) q;
  role = λ q d x k e i. each_node s p act w (λ o n. w.killed o ≡ false → n.epoch ≡ suc d → n.role ≡ role_after d (has_place x.comm o)) (λ k a. m.role d x a i) (λ o ne k a. old_role o d x k a i) q k e;
  sane = λ q k. each_node s p act w (λ o n. w.killed o ≡ false → Sane s o n) (λ k. t.sane) (λ o ne k. h.sane o k) q k;
  over = λ q. each_node s p act w (λ o n. w.killed o ≡ false → has_ended n ≡ true → EndedAs fate n) (λ k. m.over) (λ o ne k e. old_over (w.node o) (h.over o k e)) q;
  told = λ q c. each_node s p act w (λ o n. n.lost c ≡ true → w.killed c ≡ true) (λ e. h.told p c (sym (t.acted.lost c) ∙ e)) (λ o ne e. h.told o c e) q;
}
  where
    old_over : (n : Node) → EndedAs old n → EndedAs fate n
    old_over n x = record { slots = x.slots; is = m.grows n.epoch x.slots x.is; ends = x.ends }

    -- an epoch before that of a node is the same as it was
    old_role : (q d : ℕ) (x : Era) → w.killed q ≡ false → (w.node q).epoch ≡ suc d → era (first_era s) fate d ≡ Some x → (w.node q).role ≡ role_after d (has_place x.comm q)
    old_role q d x k a i =
        let n : Born d (era (first_era s) old d) (old d) (era_of (w.node q)) = born d (era (first_era s) old d) (old d) (era_of (w.node q)) (subst (λ e. era (first_era s) old e ≡ Some (era_of (w.node q))) a (h.here q k)) in
        let now : era (first_era s) fate d ≡ Some n.before = era_grows (first_era s) old fate m.grows d n.before n.at in
        h.role q d n.before k a n.at ∙ ap (λ (o : Era). role_after d (has_place o.comm q)) (some_era n.before x (sym now ∙ i))
