-- The items of a world are only added to.
use Rattle.std.proofs.Common.{◌≡◌, ◌≤◌, ℕ, zero, suc, List, [], ◌∷◌, ◌++◌, map, refl, sym, ap, ◌∙◌, arith, append_assoc, inl, inr}
use Rattle.std.proofs.lemmas.Bool.{cases_eq}
use Rattle.std.proofs.lemmas.List.{append-nil}
use Rattle.fx_deeds.specs.Always.{IsKept}
use Rattle.fx_deeds.proofs.Whole.{step_keeps, delivery_keeps, kill_keeps, notice_keeps, rest_keeps, turn_keeps, round_keeps, event_keeps, events_keep, tail_keeps}
use Rattle.fx_fleet.specs.Rounds as rounds
use Rattle.fx_fleet.specs.Rounds.{in_rising_order, fair_round, fair_turn, happens, all_happen, rests, tail}
use Rattle.fx_fleet.specs.World.{World, send_item, steps, delivers, kills, notices}
use Rattle.fx_item.specs.declared.item.Item.{Item}
use Rattle.fx_item.specs.declared.item.Item.TheVariants as item
use Rattle.fx_machine.specs.Messages.{message_of}
use Rattle.fx_machine.specs.Numbers.{proc}
use Rattle.fx_machine.specs.Setup.{Setup}

-- one world has all items of another, and then more
pub record Grows (w x : World) : Type 0 where
  pub more : List Item
  pub items : x.items ≡ w.items ++ more

pub grows_not : (w : World) → Grows w w
grows_not w = record { more = []; items = sym (append-nil w.items) }

pub grows_on : {w x y : World} → Grows w x → Grows x y → Grows w y
grows_on {w} {x} {y} a b = record { more = a.more ++ b.more; items = b.items ∙ ap (λ (l : List Item). l ++ b.more) a.items ∙ append_assoc w.items a.more b.more }

grown_by : {w x y : World} (more : List Item) → y.items ≡ x.items ++ more → Grows w x → Grows w y
grown_by {w} {x} {y} more e a = grows_on a (record { more = more; items = e })

-- the four single events only add
pub adding : (s : Setup) (w : World) → IsKept s (Grows w)
adding s w = record {
  acts = λ p x act on e is. grown_by (act.items ++ map (send_item p) act.sends) refl is;
  hears = λ p q t rest x on e is. grown_by (item.Deliver (proc p) (proc q) (message_of t) ∷ []) refl is;
  kills = λ p x on is. grown_by (item.Kill (proc p) ∷ []) refl is;
  tells = λ p q x killed on untold is. grown_by (item.Told (proc p) (proc q) ∷ []) refl is;
}

pub step_adds : (s : Setup) (p : ℕ) (w : World) → Grows w (steps s p w)
step_adds s p w = step_keeps s (Grows w) (adding s w) p w (grows_not w)

pub rest_adds : (s : Setup) (fuel p : ℕ) (w : World) → Grows w (rests s fuel p w)
rest_adds s fuel p w = rest_keeps s (Grows w) (adding s w) fuel p w (grows_not w)

pub delivery_adds : (s : Setup) (p q : ℕ) (w : World) → Grows w (delivers s p q w)
delivery_adds s p q w = delivery_keeps s (Grows w) (adding s w) p q w (grows_not w)

pub kill_adds : (s : Setup) (p : ℕ) (w : World) → Grows w (kills s p w)
kill_adds s p w = kill_keeps s (Grows w) (adding s w) p w (grows_not w)

pub notice_adds : (s : Setup) (p q : ℕ) (w : World) → Grows w (notices s p q w)
notice_adds s p q w = notice_keeps s (Grows w) (adding s w) p q w (grows_not w)

pub turn_adds : (s : Setup) (fuel q : ℕ) (w : World) → Grows w (fair_turn s fuel q w)
turn_adds s fuel q w = turn_keeps s (Grows w) (adding s w) fuel q w (grows_not w)

pub round_adds : (s : Setup) (fuel : ℕ) (w : World) → Grows w (fair_round s fuel w)
round_adds s fuel w = round_keeps s (Grows w) (adding s w) fuel w (grows_not w)

pub moment_adds : (s : Setup) (fuel : ℕ) (m : rounds.Moment) (w : World) → Grows w (happens s fuel m w)
moment_adds s fuel m w = event_keeps s (Grows w) (adding s w) fuel m w (grows_not w)

pub moments_add : (s : Setup) (fuel : ℕ) (ms : List rounds.Moment) (w : World) → Grows w (all_happen s fuel ms w)
moments_add s fuel ms w = events_keep s (Grows w) (adding s w) fuel ms w (grows_not w)

pub tail_adds : (s : Setup) (fuel bound : ℕ) (w : World) → Grows w (tail s fuel bound w)
tail_adds s fuel bound w = tail_keeps s (Grows w) (adding s w) fuel bound w (grows_not w)

-- the turns that are left only add
pub later_turns_add : (turn : ℕ → World → World) → ((k : ℕ) (w : World) → Grows w (turn k w)) → (k n : ℕ) (w : World) → k ≤ n
    → Grows (in_rising_order turn k w) (in_rising_order turn n w)
later_turns_add turn adds k zero w le =
    let e : k ≡ 0 = omega (arith, le) in
    rw e (grows_not w)
later_turns_add turn adds k (suc n) w le = elim (cases_eq k (suc n)) [
  | inl same ↦ rw same (grows_not (in_rising_order turn (suc n) w))
  | inr apart ↦ grows_on (later_turns_add turn adds k n w (omega (arith, le, apart))) (adds n (in_rising_order turn n w))
]
