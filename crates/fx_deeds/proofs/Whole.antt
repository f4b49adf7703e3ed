-- What holds at first and is kept by the four single events holds whatever happens.
use Rattle.std.proofs.lemmas.Bool.Decides.{nat_tests}
use Rattle.std.proofs.Common.{arith, ◌≡◌, ℕ, zero, suc, Bool, true, false, ◌==◌, List, [], ◌∷◌, Option, Some, None, refl}
use Rattle.std.specs.Prelude.{if◌then◌else◌}
use Rattle.fx_machine.specs.Nodes.{Act}
use Rattle.fx_machine.specs.Setup.{Setup}
use Rattle.fx_machine.specs.Steps.{next}
use Rattle.fx_machine.specs.Texts.{Text}
use Rattle.fx_fleet.specs.World.{World, first_world, up, does_if, steps, receives_front, loses, kills, delivers, learns, may_learn, notices}
use Rattle.fx_fleet.specs.Rounds.{Moment, Step, Rest, Deliver, Kill, Notice, Run, until, in_rising_order, is_quiet, rests, receives_all, drains, attends, fair_turn, fair_round, happens, all_happen, all_over, tail, whole}
use Rattle.fx_deeds.specs.Always.{IsKept}

-- ---- choices, repetitions, in_rising_order

if_keeps : {X : Type 0} (Is : X → Type 0) (b : Bool) (x y : X) → (b ≡ true → Is x) → (b ≡ false → Is y) → Is (if b then x else y)
if_keeps Is true x y a c = a refl
if_keeps Is false x y a c = c refl

pub until_keeps : {X : Type 0} (Is : X → Type 0) (done : X → Bool) (step : X → X) → ((x : X) → Is x → Is (step x)) → (n : ℕ) (x : X) → Is x → Is (until done step n x)
until_keeps Is done step keep zero x is = is
until_keeps {X} Is done step keep (suc n) x is =
    elim (done x) as (λ b. Is (elim b as (λ c. X) [ true ↦ x | false ↦ until done step n (step x) ])) [ true ↦ is | false ↦ until_keeps Is done step keep n (step x) (keep x is) ]

pub rising_keep : {X : Type 0} (Is : X → Type 0) (turn : ℕ → X → X) → ((k : ℕ) (x : X) → Is x → Is (turn k x)) → (n : ℕ) (x : X) → Is x → Is (in_rising_order turn n x)
rising_keep Is turn keep zero x is = is
rising_keep Is turn keep (suc n) x is = keep n (in_rising_order turn n x) (rising_keep Is turn keep n x is)

-- ---- the single events

pub step_keeps : (s : Setup) (Is : World → Type 0) → IsKept s Is → (p : ℕ) (w : World) → Is w → Is (steps s p w)
step_keeps s Is k p w is = if_keeps Is (up s w p) (does_if s p (next s (w.node p)) w) w (λ on. done (next s (w.node p)) refl on) (λ off. is)
  where
    done : (x : Option Act) → next s (w.node p) ≡ x → up s w p ≡ true → Is (does_if s p x w)
    done None e on = is
    done (Some act) e on = k.acts p w act on e is

front_keeps : (s : Setup) (Is : World → Type 0) → IsKept s Is → (p q : ℕ) (w : World) → up s w q ≡ true → (ts : List Text) → w.link p q ≡ ts → Is w
    → Is (receives_front p q ts w)
front_keeps s Is k p q w on [] e is = is
front_keeps s Is k p q w on (t ∷ rest) e is = k.hears p q t rest w on e is

pub delivery_keeps : (s : Setup) (Is : World → Type 0) → IsKept s Is → (p q : ℕ) (w : World) → Is w → Is (delivers s p q w)
delivery_keeps s Is k p q w is =
    if_keeps Is (up s w q) (receives_front p q (w.link p q) w) w (λ on. front_keeps s Is k p q w on (w.link p q) refl is) (λ off. is)

pub kill_keeps : (s : Setup) (Is : World → Type 0) → IsKept s Is → (p : ℕ) (w : World) → Is w → Is (kills s p w)
kill_keeps s Is k p w is = if_keeps Is (up s w p) (loses s p w) w (λ on. k.kills p w on is) (λ off. is)

was_killed : (s : Setup) (p q : ℕ) (w : World) → may_learn s p q w ≡ true → w.killed p ≡ true
was_killed s p q w e = grind (arith, nat_tests, e)

is_up : (s : Setup) (p q : ℕ) (w : World) → may_learn s p q w ≡ true → up s w q ≡ true
is_up s p q w e = grind (arith, nat_tests, e)

is_untold : (s : Setup) (p q : ℕ) (w : World) → may_learn s p q w ≡ true → (w.node q).lost p ≡ false
is_untold s p q w e = grind (arith, nat_tests, e)

pub notice_keeps : (s : Setup) (Is : World → Type 0) → IsKept s Is → (p q : ℕ) (w : World) → Is w → Is (notices s p q w)
notice_keeps s Is k p q w is =
    if_keeps Is (may_learn s p q w) (learns p q w) w (λ e. k.tells p q w (was_killed s p q w e) (is_up s p q w e) (is_untold s p q w e) is) (λ e. is)

-- ---- fair rounds

-- a delivery leaves who is up, and the rest of the link
pub still_up : (s : Setup) (p q : ℕ) (t : Text) (rest : List Text) (w : World) → up s w q ≡ true → up s (receives_front p q (t ∷ rest) w) q ≡ true
still_up s p q t rest w on = grind (arith, nat_tests, on)

pub rest_left : (p q : ℕ) (t : Text) (rest : List Text) (w : World) → (receives_front p q (t ∷ rest) w).link p q ≡ rest
rest_left p q t rest w = grind (arith, nat_tests)

-- while q attends it is up
abbrev pub Attends : (World → Type 0) → Setup → ℕ → World → Type 0
Attends Is s q w = (up s w q ≡ true) × Is w

pub all_attend : (s : Setup) (Is : World → Type 0) → IsKept s Is → (p q : ℕ) (ts : List Text) (w : World) → w.link p q ≡ ts → Attends Is s q w
    → Attends Is s q (receives_all p q ts w)
all_attend s Is k p q [] w e is = is
all_attend s Is k p q (t ∷ rest) w e is =
    all_attend s Is k p q rest (receives_front p q (t ∷ rest) w) (rest_left p q t rest w) (still_up s p q t rest w is.0, k.hears p q t rest w is.0 e is.1)

pub drain_keeps : (s : Setup) (Is : World → Type 0) → IsKept s Is → (q p : ℕ) (w : World) → Attends Is s q w → Attends Is s q (drains q p w)
drain_keeps s Is k q p w is = if_keeps (Attends Is s q) (p == q) w (receives_all p q (w.link p q) w) (λ e. is) (λ e. all_attend s Is k p q (w.link p q) w refl is)

pub rest_keeps : (s : Setup) (Is : World → Type 0) → IsKept s Is → (fuel p : ℕ) (w : World) → Is w → Is (rests s fuel p w)
rest_keeps s Is k fuel p w is = until_keeps Is (is_quiet s p) (steps s p) (λ x. step_keeps s Is k p x) fuel w is

pub attend_keeps : (s : Setup) (Is : World → Type 0) → IsKept s Is → (q : ℕ) (w : World) → up s w q ≡ true → Is w → Is (attends s q w)
attend_keeps s Is k q w on is =
    rising_keep Is (λ p. notices s p q) (λ p x. notice_keeps s Is k p q x) s.procs (in_rising_order (drains q) s.procs w)
    (rising_keep (Attends Is s q) (drains q) (λ p x. drain_keeps s Is k q p x) s.procs w (on, is)).1

pub turn_keeps : (s : Setup) (Is : World → Type 0) → IsKept s Is → (fuel q : ℕ) (w : World) → Is w → Is (fair_turn s fuel q w)
turn_keeps s Is k fuel q w is =
    if_keeps Is (up s w q) (rests s fuel q (attends s q w)) w (λ on. rest_keeps s Is k fuel q (attends s q w) (attend_keeps s Is k q w on is)) (λ off. is)

pub round_keeps : (s : Setup) (Is : World → Type 0) → IsKept s Is → (fuel : ℕ) (w : World) → Is w → Is (fair_round s fuel w)
round_keeps s Is k fuel w is = rising_keep Is (fair_turn s fuel) (λ q x. turn_keeps s Is k fuel q x) s.procs w is

-- ---- the schedule and the tail

pub event_keeps : (s : Setup) (Is : World → Type 0) → IsKept s Is → (fuel : ℕ) (e : Moment) (w : World) → Is w → Is (happens s fuel e w)
event_keeps s Is k fuel (Step p) w is = step_keeps s Is k p w is
event_keeps s Is k fuel (Rest p) w is = rest_keeps s Is k fuel p w is
event_keeps s Is k fuel (Deliver p q) w is = delivery_keeps s Is k p q w is
event_keeps s Is k fuel (Kill p) w is = kill_keeps s Is k p w is
event_keeps s Is k fuel (Notice p q) w is = notice_keeps s Is k p q w is
event_keeps s Is k fuel (Run count) w is = rising_keep Is (λ i. fair_round s fuel) (λ i x. round_keeps s Is k fuel x) count w is

pub events_keep : (s : Setup) (Is : World → Type 0) → IsKept s Is → (fuel : ℕ) (es : List Moment) (w : World) → Is w → Is (all_happen s fuel es w)
events_keep s Is k fuel [] w is = is
events_keep s Is k fuel (e ∷ es) w is = events_keep s Is k fuel es (happens s fuel e w) (event_keeps s Is k fuel e w is)

pub tail_keeps : (s : Setup) (Is : World → Type 0) → IsKept s Is → (fuel bound : ℕ) (w : World) → Is w → Is (tail s fuel bound w)
tail_keeps s Is k fuel bound w is = until_keeps Is (all_over s) (fair_round s fuel) (λ x. round_keeps s Is k fuel x) bound w is

pub always : (s : Setup) (Is : World → Type 0) → IsKept s Is → Is (first_world s) → (fuel bound : ℕ) (es : List Moment) → Is (whole s fuel bound es)
always s Is k first fuel bound es = tail_keeps s Is k fuel bound (all_happen s fuel es (first_world s)) (events_keep s Is k fuel es (first_world s) first)
