-- Tests of numbers and truth values, and values that are there.
use Rattle.std.proofs.Common.{arith, ◌≡◌, ◌<◌, ℕ, suc, Bool, true, false, ◌&&◌, ◌||◌, ◌==◌, Some}
use Rattle.std.specs.Prelude.{not, nat_lt}
use Rattle.std.proofs.lemmas.Bool.Decides.{nat_tests}
use Rattle.fx_link.specs.declared.slot.Slot.{Slot}

pub or_left : (a b : Bool) → a ≡ true → (a || b) ≡ true
or_left a b e = grind (arith, nat_tests)

pub or_right : (a b : Bool) → b ≡ true → (a || b) ≡ true
or_right a b e = grind (arith, nat_tests)

pub or_itself : (a : ℕ) (b : Bool) → ((a == a) || b) ≡ true
or_itself a b = grind (arith, nat_tests)

pub first_of : (a b : Bool) → (a && b) ≡ true → a ≡ true
first_of a b e = grind (arith, nat_tests)

pub second_of : (a b : Bool) → (a && b) ≡ true → b ≡ true
second_of a b e = grind (arith, nat_tests)

pub both_true : (a b : Bool) → a ≡ true → b ≡ true → (a && b) ≡ true
both_true a b x y = grind (arith, nat_tests)

pub apart_zero : (e : ℕ) → (suc e == 0) ≡ false
apart_zero e = grind (arith, nat_tests)

-- an epoch behind one from 1 on isn't the first
pub not_first : (d : ℕ) → 0 < d → not (suc d == 1) ≡ true
not_first d e = grind (arith, nat_tests)

pub is_less : (a b : ℕ) → nat_lt a b ≡ true → a < b
is_less a b e = grind (arith, nat_tests)

pub less_is : (a b : ℕ) → a < b → nat_lt a b ≡ true
less_is a b e = grind (arith, nat_tests)

pub some_slot : (x y : Slot) → Some x ≡ Some y → x ≡ y
some_slot x y e = cc
