-- What it says that all ranks came to the end.
use Rattle.std.proofs.Common.{◌≡◌, ℕ, ◌<◌, ◌==◌, zero, suc, Bool, true, false, ◌||◌, ◌&&◌, List, [], ◌∷◌, length, get_or, Some, inl, inr, arith, refl, subst, sym, ◌∙◌, ap}
use Rattle.std.specs.Prelude.{if◌then◌else◌, slice_get}
use Rattle.std.specs.List.{list_all}
use Rattle.fx_ballot.specs.Laws.{vote_of, IsTrueSlot, TrueSlots}
use Rattle.fx_ballot.specs.Names.{seat_at, seat_of, has}
use Rattle.fx_ballot.specs.World as ballot
use Rattle.fx_ballot.proofs.Names.{seat_found}
use Rattle.fx_comm.specs.Seats.{Seat, has_place}
use Rattle.fx_link.specs.declared.slot.Slot.{Slot}
use Rattle.fx_link.specs.declared.slot.Slot.TheVariants as slot
use Rattle.fx_machine.specs.Ballots.{is_final}
use Rattle.fx_machine.specs.Nodes.{procs_of}
use Rattle.fx_losses.proofs.Tests.{first_of, or_itself, or_right, second_of}
use Rattle.fx_calm.proofs.Lists.{equal}

final_is : (s : Slot) → is_final s ≡ true → s ≡ slot.Final
final_is slot.Start e = absurd (let bad : false ≡ true = e in cc)
final_is slot.Spare e = absurd (let bad : false ≡ true = e in cc)
final_is slot.Error e = absurd (let bad : false ≡ true = e in cc)
final_is slot.Final e = refl
final_is slot.Yes e = absurd (let bad : false ≡ true = e in cc)
final_is (slot.Flag a) e = absurd (let bad : false ≡ true = e in cc)
final_is slot.Fresh e = absurd (let bad : false ≡ true = e in cc)
final_is slot.Kept e = absurd (let bad : false ≡ true = e in cc)
final_is slot.Gone e = absurd (let bad : false ≡ true = e in cc)
final_is (slot.NoLost a) e = absurd (let bad : false ≡ true = e in cc)
final_is (slot.NoLeft a) e = absurd (let bad : false ≡ true = e in cc)
final_is slot.Lost e = absurd (let bad : false ≡ true = e in cc)
final_is slot.Left e = absurd (let bad : false ≡ true = e in cc)

final_got : (slots : List Slot) (k : ℕ) → is_final (get_or slots k slot.Lost) ≡ true → (k < length slots) × (slice_get slots k ≡ Some slot.Final)
final_got [] zero e = absurd (let bad : false ≡ true = e in cc)
final_got [] (suc k) e = absurd (let bad : false ≡ true = e in cc)
final_got (x ∷ xs) zero e = (omega arith, ap (λ (o : Slot). Some o) (final_is x e))
final_got (x ∷ xs) (suc k) e = let r = final_got xs k e in let l : k < length xs = r.0 in (omega (arith, l), r.1)

in_list : (who : List ℕ) (q : ℕ) → seat_of who q < length who → has who q ≡ true
in_list [] q l = absurd (omega (arith, l))
in_list (x ∷ xs) q l = of (in_list xs q) (x == q) l
  where
    of : (seat_of xs q < length xs → has xs q ≡ true) → (b : Bool) → (if b then 0 else suc (seat_of xs q)) < suc (length xs) → (b || has xs q) ≡ true
    of later true m = refl
    of later false m = later (let n : suc (seat_of xs q) < suc (length xs) = m in omega (arith, n))

seated_passes : (test : ℕ → Bool) (seats : List Seat) (q : ℕ) → list_all test (procs_of seats) ≡ true → has_place seats q ≡ true → test q ≡ true
seated_passes test [] q all e = absurd (let bad : false ≡ true = e in cc)
seated_passes test (s ∷ seats) q all e = of (seated_passes test seats q) (s.1.0 == q) refl e
  where
    of : (list_all test (procs_of seats) ≡ true → has_place seats q ≡ true → test q ≡ true) → (b : Bool) → (s.1.0 == q) ≡ b → (b || has_place seats q) ≡ true → test q ≡ true
    of later true same h = ap test (sym (equal s.1.0 q same)) ∙ first_of (test s.1.0) (list_all test (procs_of seats)) all
    of later false same h = later (second_of (test s.1.0) (list_all test (procs_of seats)) all) h

-- where all that have a place have the slot `final`, each of them has voted so
pub all_final_voted : (who : List ℕ) (seats : List Seat) (slots : List Slot) (z : ballot.World) (q : ℕ) → TrueSlots (length who) (seat_at who) z slots
    → list_all (λ q. is_final (get_or slots (seat_of who q) slot.Lost)) (procs_of seats) ≡ true → has_place seats q ≡ true → vote_of z q ≡ Some slot.Final
all_final_voted who seats slots z q t all place =
    let r = final_got slots (seat_of who q) (seated_passes (λ q. is_final (get_or slots (seat_of who q) slot.Lost)) seats q all place) in
    let few : seat_of who q < length who = subst (λ (n : ℕ). seat_of who q < n) t.size r.0 in
    of (subst (λ o. IsTrueSlot z o slot.Final) (seat_found who q (in_list who q few)).1 (t.each (seat_of who q) slot.Final r.1))
  where
    of : IsTrueSlot z q slot.Final → vote_of z q ≡ Some slot.Final
    of (inl v) = v
    of (inr (inl v)) = absurd (let bad : slot.Final ≡ slot.Lost = v.0 in cc)
    of (inr (inr v)) = absurd (let bad : slot.Final ≡ slot.Left = v.0 in cc)

-- where not all have it, one doesn't
pub one_not_final : (test : ℕ → Bool) (seats : List Seat) → list_all test (procs_of seats) ≡ false → (q : ℕ) × (has_place seats q ≡ true) × (test q ≡ false)
one_not_final test [] e = absurd (let bad : true ≡ false = e in cc)
one_not_final test (s ∷ seats) e = of (one_not_final test seats) (test s.1.0) refl e
  where
    of : (list_all test (procs_of seats) ≡ false → (q : ℕ) × (has_place seats q ≡ true) × (test q ≡ false)) → (b : Bool) → test s.1.0 ≡ b → (b && list_all test (procs_of seats)) ≡ false → (q : ℕ) × (has_place (s ∷ seats) q ≡ true) × (test q ≡ false)
    of rest true is h = let r = rest h in (r.0, or_right (s.1.0 == r.0) (has_place seats r.0) r.1, r.2)
    of rest false is h = (s.1.0, or_itself s.1.0 (has_place seats s.1.0), is)
