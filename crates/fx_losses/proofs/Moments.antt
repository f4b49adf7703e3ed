-- What steps, deliveries and notices keep, and a kill of the schedule too, holds behind the whole schedule and its tail.
use Rattle.std.proofs.Common.{◌≡◌, ◌<◌, ℕ, true, false, ◌==◌, List, [], ◌∷◌, ◌++◌, Option, Some, None, refl, arith, sym, subst}
use Rattle.fx_machine.specs.Nodes.{Act}
use Rattle.fx_machine.specs.Setup.{Setup}
use Rattle.fx_machine.specs.Steps.{next}
use Rattle.fx_machine.specs.Texts.{Text}
use Rattle.fx_fleet.specs.World.{World, up, does_if, steps, receives_front, delivers, learns, may_learn, notices, loses, kills}
use Rattle.fx_fleet.specs.World as world
use Rattle.fx_fleet.specs.Rounds.{Moment, Step, Rest, Deliver, Kill, Notice, Run, is_quiet, rests, receives_all, drains, attends, fair_turn, fair_round, happens, all_happen, all_over, whole}
use Rattle.fx_deeds.proofs.Whole.{until_keeps, rising_keep, rest_left, still_up}
use Rattle.fx_calm.proofs.Lists.{Each, chosen}
use Rattle.std.proofs.lemmas.Bool.Decides.{nat_tests}
use Rattle.fx_losses.proofs.Texts.{append_none}
use Rattle.fx_losses.proofs.Schedule.{kills_of}

-- It speaks of the kills that are still to come. A step, a delivery and a notice keep it; a kill takes the first of them away.
pub record IsKeptAlong (s : Setup) (Is : List ℕ → World → Type 0) : Type 0 where
  pub acts : (ps : List ℕ) (p : ℕ) (w : World) (act : Act) → up s w p ≡ true → next s (w.node p) ≡ Some act → Is ps w → Is ps (world.does s p act w)
  pub hears : (ps : List ℕ) (p q : ℕ) (t : Text) (rest : List Text) (w : World) → up s w q ≡ true → w.link p q ≡ t ∷ rest → Is ps w → Is ps (receives_front p q (t ∷ rest) w)
  pub tells : (ps : List ℕ) (p q : ℕ) (w : World) → w.killed p ≡ true → Is ps w → Is ps (learns p q w)
  pub loses : (ps : List ℕ) (p : ℕ) (w : World) → up s w p ≡ true → Is (p ∷ ps) w → Is ps (loses s p w)
  pub passes : (ps : List ℕ) (p : ℕ) (w : World) → p < s.procs → up s w p ≡ false → Is (p ∷ ps) w → Is ps w

was_killed : (s : Setup) (p q : ℕ) (w : World) → may_learn s p q w ≡ true → w.killed p ≡ true
was_killed s p q w e = grind (arith, nat_tests, e)

module _ (s : Setup) (Is : List ℕ → World → Type 0) (k : IsKeptAlong s Is) (ps : List ℕ) where
  pub step_keeps : (p : ℕ) (w : World) → Is ps w → Is ps (steps s p w)
  step_keeps p w is = chosen (Is ps) (up s w p) (does_if s p (next s (w.node p)) w) w (λ on. done (next s (w.node p)) refl on) (λ off. is)
    where
      done : (x : Option Act) → next s (w.node p) ≡ x → up s w p ≡ true → Is ps (does_if s p x w)
      done None e on = is
      done (Some act) e on = k.acts ps p w act on e is

  -- while q attends it is up
  abbrev Attends : ℕ → World → Type 0
  Attends q w = (up s w q ≡ true) × Is ps w

  all_attend : (p q : ℕ) (ts : List Text) (w : World) → w.link p q ≡ ts → Attends q w → Attends q (receives_all p q ts w)
  all_attend p q [] w e is = is
  all_attend p q (t ∷ rest) w e is =
      all_attend p q rest (receives_front p q (t ∷ rest) w) (rest_left p q t rest w) (still_up s p q t rest w is.0, k.hears ps p q t rest w is.0 e is.1)

  front_keeps : (p q : ℕ) (w : World) → up s w q ≡ true → (ts : List Text) → w.link p q ≡ ts → Is ps w → Is ps (receives_front p q ts w)
  front_keeps p q w on [] e is = is
  front_keeps p q w on (t ∷ rest) e is = k.hears ps p q t rest w on e is

  delivery_keeps : (p q : ℕ) (w : World) → Is ps w → Is ps (delivers s p q w)
  delivery_keeps p q w is = chosen (Is ps) (up s w q) (receives_front p q (w.link p q) w) w (λ on. front_keeps p q w on (w.link p q) refl is) (λ off. is)

  notice_keeps : (p q : ℕ) (w : World) → Is ps w → Is ps (notices s p q w)
  notice_keeps p q w is = chosen (Is ps) (may_learn s p q w) (learns p q w) w (λ e. k.tells ps p q w (was_killed s p q w e) is) (λ e. is)

  drain_keeps : (q p : ℕ) (w : World) → Attends q w → Attends q (drains q p w)
  drain_keeps q p w is = chosen (Attends q) (p == q) w (receives_all p q (w.link p q) w) (λ e. is) (λ e. all_attend p q (w.link p q) w refl is)

  pub rest_keeps : (fuel p : ℕ) (w : World) → Is ps w → Is ps (rests s fuel p w)
  rest_keeps fuel p w is = until_keeps (Is ps) (is_quiet s p) (steps s p) (λ x. step_keeps p x) fuel w is

  pub attend_keeps : (q : ℕ) (w : World) → up s w q ≡ true → Is ps w → Is ps (attends s q w)
  attend_keeps q w on is =
      rising_keep (Is ps) (λ p. notices s p q) (λ p x. notice_keeps p q x) s.procs _ (rising_keep (Attends q) (drains q) (λ p x. drain_keeps q p x) s.procs w (on, is)).1

  pub turn_keeps : (fuel q : ℕ) (w : World) → Is ps w → Is ps (fair_turn s fuel q w)
  turn_keeps fuel q w is = chosen (Is ps) (up s w q) (rests s fuel q (attends s q w)) w (λ on. rest_keeps fuel q (attends s q w) (attend_keeps q w on is)) (λ off. is)

  pub round_keeps : (fuel : ℕ) (w : World) → Is ps w → Is ps (fair_round s fuel w)
  round_keeps fuel w is = rising_keep (Is ps) (fair_turn s fuel) (λ q x. turn_keeps fuel q x) s.procs w is

module _ (s : Setup) (Is : List ℕ → World → Type 0) (k : IsKeptAlong s Is) where
  -- each kill that is still to come is of a process of the job
  pub moment_keeps : (fuel : ℕ) (m : Moment) (ms : List Moment) (w : World) → Each (λ p. p < s.procs) (kills_of (m ∷ ms)) → Is (kills_of (m ∷ ms)) w → Is (kills_of ms) (happens s fuel m w)
  moment_keeps fuel (Step p) ms w few is = step_keeps s Is k (kills_of ms) p w is
  moment_keeps fuel (Rest p) ms w few is = rest_keeps s Is k (kills_of ms) fuel p w is
  moment_keeps fuel (Deliver p q) ms w few is = delivery_keeps s Is k (kills_of ms) p q w is
  moment_keeps fuel (Kill p) ms w few is = chosen (Is (kills_of ms)) (up s w p) (loses s p w) w (λ on. k.loses (kills_of ms) p w on is) (λ off. k.passes (kills_of ms) p w few.0 off is)
  moment_keeps fuel (Notice p q) ms w few is = notice_keeps s Is k (kills_of ms) p q w is
  moment_keeps fuel (Run count) ms w few is = rising_keep (Is (kills_of ms)) (λ i. fair_round s fuel) (λ i x. round_keeps s Is k (kills_of ms) fuel x) count w is

  pub fewer : (m : Moment) (ms : List Moment) → Each (λ p. p < s.procs) (kills_of (m ∷ ms)) → Each (λ p. p < s.procs) (kills_of ms)
  fewer (Step p) ms few = few
  fewer (Rest p) ms few = few
  fewer (Deliver p q) ms few = few
  fewer (Kill p) ms few = few.1
  fewer (Notice p q) ms few = few
  fewer (Run count) ms few = few

  -- behind a front of the schedule those behind it are still to come
  pub behind_front : (fuel : ℕ) (front more : List Moment) (w : World) → Each (λ p. p < s.procs) (kills_of (front ++ more)) → Is (kills_of (front ++ more)) w → Is (kills_of more) (all_happen s fuel front w)
  behind_front fuel [] more w few is = is
  behind_front fuel (m ∷ ms) more w few is = behind_front fuel ms more (happens s fuel m w) (fewer m (ms ++ more) few) (moment_keeps fuel m (ms ++ more) w few is)

  pub moments_keep : (fuel : ℕ) (ms : List Moment) (w : World) → Each (λ p. p < s.procs) (kills_of ms) → Is (kills_of ms) w → Is [] (all_happen s fuel ms w)
  moments_keep fuel ms w few is =
      behind_front fuel ms [] w (subst (λ (l : List Moment). Each (λ p. p < s.procs) (kills_of l)) (sym (append_none ms)) few) (subst (λ (l : List Moment). Is (kills_of l) w) (sym (append_none ms)) is)

  pub always_along : (ms : List Moment) → Each (λ p. p < s.procs) (kills_of ms) → Is (kills_of ms) (world.first_world s) → (fuel bound : ℕ) → Is [] (whole s fuel bound ms)
  always_along ms few first fuel bound =
      until_keeps (Is []) (all_over s) (fair_round s fuel) (λ x. round_keeps s Is k [] fuel x) bound _ (moments_keep fuel ms (world.first_world s) few first)
