-- What steps and deliveries keep, where nobody is killed, holds behind calm moments and their tail.
use Rattle.std.proofs.Common.{◌≡◌, ℕ, Bool, true, false, ◌&&◌, ◌==◌, List, [], ◌∷◌, Option, Some, None, refl, sym, subst, ◌∙◌}
use Rattle.std.specs.Prelude.{if◌then◌else◌}
use Rattle.std.specs.List.{list_all}
use Rattle.fx_machine.specs.Nodes.{Act}
use Rattle.fx_machine.specs.Setup.{Setup}
use Rattle.fx_machine.specs.Steps.{next}
use Rattle.fx_machine.specs.Texts.{Text}
use Rattle.fx_fleet.specs.World.{World, up, does_if, steps, receives_front, delivers, learns, may_learn, notices}
use Rattle.fx_fleet.specs.World as world
use Rattle.fx_fleet.specs.Rounds.{Moment, Step, Rest, Deliver, Kill, Notice, Run, is_quiet, rests, receives_all, drains, attends, fair_turn, fair_round, happens, all_happen, all_over, whole}
use Rattle.fx_deeds.proofs.Whole.{until_keeps, rising_keep}
use Rattle.fx_calm.specs.Calm.{is_calm}
use Rattle.fx_calm.proofs.Lists.{chosen, same_number}

-- in such worlds nobody is killed, and a step and a delivery keep that they are such
pub record IsCalmlyKept (s : Setup) (Is : World → Type 0) : Type 0 where
  pub living : (w : World) → Is w → (p : ℕ) → w.killed p ≡ false
  pub acts : (p : ℕ) (w : World) (act : Act) → up s w p ≡ true → next s (w.node p) ≡ Some act → Is w → Is (world.does s p act w)
  pub hears : (p q : ℕ) (t : Text) (rest : List Text) (w : World) → w.link p q ≡ t ∷ rest → Is w → Is (receives_front p q (t ∷ rest) w)

rest_left : (p q : ℕ) (t : Text) (rest : List Text) (w : World) → (receives_front p q (t ∷ rest) w).link p q ≡ rest
rest_left p q t rest w =
    subst (λ (b : Bool). (if b && (q == q) then rest else w.link p q) ≡ rest) (sym (same_number p))
    (subst (λ (b : Bool). (if b then rest else w.link p q) ≡ rest) (sym (same_number q)) refl)

-- the first condition of both
first_false : (a b : Bool) → a ≡ false → (a && b) ≡ false
first_false true b e = absurd cc
first_false false b e = refl

module _ (s : Setup) (Is : World → Type 0) (k : IsCalmlyKept s Is) where
  step_keeps : (p : ℕ) (w : World) → Is w → Is (steps s p w)
  step_keeps p w is = chosen Is (up s w p) (does_if s p (next s (w.node p)) w) w (λ on. done (next s (w.node p)) refl on) (λ off. is)
    where
      done : (x : Option Act) → next s (w.node p) ≡ x → up s w p ≡ true → Is (does_if s p x w)
      done None e on = is
      done (Some act) e on = k.acts p w act on e is

  all_keep : (p q : ℕ) (ts : List Text) (w : World) → w.link p q ≡ ts → Is w → Is (receives_all p q ts w)
  all_keep p q [] w e is = is
  all_keep p q (t ∷ rest) w e is = all_keep p q rest (receives_front p q (t ∷ rest) w) (rest_left p q t rest w) (k.hears p q t rest w e is)

  front_keeps : (p q : ℕ) (w : World) → (ts : List Text) → w.link p q ≡ ts → Is w → Is (receives_front p q ts w)
  front_keeps p q w [] e is = is
  front_keeps p q w (t ∷ rest) e is = k.hears p q t rest w e is

  delivery_keeps : (p q : ℕ) (w : World) → Is w → Is (delivers s p q w)
  delivery_keeps p q w is = chosen Is (up s w q) (receives_front p q (w.link p q) w) w (λ on. front_keeps p q w (w.link p q) refl is) (λ off. is)

  -- where nobody is killed nobody is told of it
  notice_keeps : (p q : ℕ) (w : World) → Is w → Is (notices s p q w)
  notice_keeps p q w is =
      chosen Is (may_learn s p q w) (learns p q w) w
      (λ e. absurd (let bad : false ≡ true = sym (first_false (w.killed p) _ (k.living w is p)) ∙ e in cc)) (λ e. is)

  drain_keeps : (q p : ℕ) (w : World) → Is w → Is (drains q p w)
  drain_keeps q p w is = chosen Is (p == q) w (receives_all p q (w.link p q) w) (λ e. is) (λ e. all_keep p q (w.link p q) w refl is)

  rest_keeps : (fuel p : ℕ) (w : World) → Is w → Is (rests s fuel p w)
  rest_keeps fuel p w is = until_keeps Is (is_quiet s p) (steps s p) (λ x. step_keeps p x) fuel w is

  attend_keeps : (q : ℕ) (w : World) → Is w → Is (attends s q w)
  attend_keeps q w is =
      rising_keep Is (λ p. notices s p q) (λ p x. notice_keeps p q x) s.procs _ (rising_keep Is (drains q) (λ p x. drain_keeps q p x) s.procs w is)

  turn_keeps : (fuel q : ℕ) (w : World) → Is w → Is (fair_turn s fuel q w)
  turn_keeps fuel q w is = chosen Is (up s w q) (rests s fuel q (attends s q w)) w (λ on. rest_keeps fuel q (attends s q w) (attend_keeps q w is)) (λ off. is)

  round_keeps : (fuel : ℕ) (w : World) → Is w → Is (fair_round s fuel w)
  round_keeps fuel w is = rising_keep Is (fair_turn s fuel) (λ q x. turn_keeps fuel q x) s.procs w is

  moment_keeps : (fuel : ℕ) (m : Moment) (w : World) → is_calm m ≡ true → Is w → Is (happens s fuel m w)
  moment_keeps fuel (Step p) w calm is = step_keeps p w is
  moment_keeps fuel (Rest p) w calm is = rest_keeps fuel p w is
  moment_keeps fuel (Deliver p q) w calm is = delivery_keeps p q w is
  moment_keeps fuel (Kill p) w calm is = absurd cc
  moment_keeps fuel (Notice p q) w calm is = notice_keeps p q w is
  moment_keeps fuel (Run count) w calm is = rising_keep Is (λ i. fair_round s fuel) (λ i x. round_keeps fuel x) count w is

  moments_keep : (fuel : ℕ) (ms : List Moment) (w : World) → list_all is_calm ms ≡ true → Is w → Is (all_happen s fuel ms w)
  moments_keep fuel [] w calm is = is
  moments_keep fuel (m ∷ ms) w calm is =
      let both = both_true (is_calm m) (list_all is_calm ms) calm in
      moments_keep fuel ms (happens s fuel m w) both.1 (moment_keeps fuel m w both.0 is)
    where
      both_true : (a b : Bool) → (a && b) ≡ true → (a ≡ true) × (b ≡ true)
      both_true true b e = (refl, e)
      both_true false b e = absurd cc

  pub calm_always : Is (world.first_world s) → (fuel bound : ℕ) (ms : List Moment) → list_all is_calm ms ≡ true → Is (whole s fuel bound ms)
  calm_always first fuel bound ms calm =
      until_keeps Is (all_over s) (fair_round s fuel) (λ x. round_keeps fuel x) bound _ (moments_keep fuel ms (world.first_world s) calm first)
