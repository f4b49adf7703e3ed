-- Facts of each node and of each world: a node is that of its process, and is told of the loss of the killed alone.
use Rattle.std.proofs.lemmas.Bool.Decides.{nat_tests}
use Rattle.std.proofs.Common.{arith, ◌≡◌, ℕ, Bool, true, false, ◌==◌, List, Some, refl, ap}
use Rattle.std.specs.Prelude.{if◌then◌else◌}
use Rattle.fx_machine.specs.Nodes.{Node, Act, first_node, receives, is_told}
use Rattle.fx_machine.specs.Setup.{Setup}
use Rattle.fx_machine.specs.Steps.{next}
use Rattle.fx_fleet.specs.Rounds.{Moment, whole}
use Rattle.fx_deeds.specs.Always.{IsKept, IsOwn, AllAre, KnowThemselves, ToldOfKilled}
use Rattle.fx_deeds.proofs.Every.{is_deed}
use Rattle.fx_deeds.proofs.Kept.{keeps}
use Rattle.fx_deeds.proofs.Whole.{always}

-- ---- facts of single nodes

-- a function changed at one number has what holds of both
put_is : {X : Type 0} (Is : X → Type 0) (b : Bool) (x y : X) → Is x → Is y → Is (if b then x else y)
put_is Is true x y a c = a
put_is Is false x y a c = c

own_kept : (s : Setup) (Is : Node → Type 0) → IsOwn s Is → IsKept s (AllAre Is)
own_kept s Is own = record {
  acts = λ p w act on e h. record { each = λ q. put_is Is (q == p) act.node (w.node q) (own.acts (w.node p) act (is_deed s (w.node p) act e) (h.each p)) (h.each q) };
  hears = λ p q t rest w on e h. record { each = λ r. put_is Is (r == q) (receives p t (w.node q)) (w.node r) (own.hears p t (w.node q) (h.each q)) (h.each r) };
  kills = λ p w on h. record { each = λ r. put_is Is (r == p) (first_node s p) (w.node r) (own.first p) (h.each r) };
  tells = λ p q w dead on untold h. record { each = λ r. put_is Is (r == q) (is_told p (w.node q)) (w.node r) (own.tells p (w.node q) (h.each q)) (h.each r) };
}

pub all_are : (s : Setup) (Is : Node → Type 0) → IsOwn s Is → (fuel bound : ℕ) (moments : List Moment) → AllAre Is (whole s fuel bound moments)
all_are s Is own fuel bound moments = always s (AllAre Is) (own_kept s Is own) (record { each = λ p. own.first p }) fuel bound moments

-- ---- a node is that of its process

same_me : (s : Setup) (n : Node) (act : Act) → next s n ≡ Some act → act.node.me ≡ n.me
same_me s n act e = (keeps s n act (is_deed s n act e)).me

pub me_kept : (s : Setup) → IsKept s KnowThemselves
me_kept s = record {
  acts = λ p w act on e h. record { me = λ q. grind (arith, nat_tests, h.me q, h.me p, same_me s (w.node p) act e) };
  hears = λ p q t rest w on e h. record { me = λ r. grind (arith, nat_tests, h.me r, h.me q) };
  kills = λ p w on h. record { me = λ r. grind (arith, nat_tests, h.me r) };
  tells = λ p q w dead on untold h. record { me = λ r. grind (arith, nat_tests, h.me r, h.me q) };
}

pub know_themselves : (s : Setup) (fuel bound : ℕ) (moments : List Moment) → KnowThemselves (whole s fuel bound moments)
know_themselves s fuel bound moments = always s KnowThemselves (me_kept s) (record { me = λ p. refl }) fuel bound moments

-- ---- one is told of the killed alone

same_lost : (s : Setup) (n : Node) (act : Act) → next s n ≡ Some act → act.node.lost ≡ n.lost
same_lost s n act e = (keeps s n act (is_deed s n act e)).lost

told_kept : (s : Setup) → IsKept s ToldOfKilled
told_kept s = record {
  acts = λ p w act on e h. record { killed = λ q c. grind (arith, nat_tests, h.killed q c, h.killed p c, ap (λ (f : ℕ → Bool). f c) (same_lost s (w.node p) act e)) };
  hears = λ p q t rest w on e h. record { killed = λ x c. grind (arith, nat_tests, h.killed x c, h.killed q c) };
  kills = λ p w on h. record { killed = λ x c. grind (arith, nat_tests, h.killed x c) };
  tells = λ p q w dead on untold h. record { killed = λ x c. grind (arith, nat_tests, dead, h.killed x c, h.killed q c) };
}

pub told_of_killed : (s : Setup) (fuel bound : ℕ) (moments : List Moment) → ToldOfKilled (whole s fuel bound moments)
told_of_killed s fuel bound moments = always s ToldOfKilled (told_kept s) (record { killed = λ q c e. absurd cc }) fuel bound moments
