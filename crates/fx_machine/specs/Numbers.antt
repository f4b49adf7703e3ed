-- Plain numbers as the types that items and messages have, and tests of lists and of the first so many numbers.
use Rattle.std.specs.Prelude.{ℕ, zero, suc, Bool, true, false, ◌&&◌, if◌then◌else◌, ◌++◌, List, [], ◌∷◌, Option, Some, None}
use Rattle.fx_base.specs.declared.names.CallNo.{CallNo}
use Rattle.fx_base.specs.declared.names.Epoch.{Epoch}
use Rattle.fx_base.specs.declared.names.Proc.{Proc}
use Rattle.std.specs.Option.{option_or}

abbrev pub proc : ℕ → Proc
proc p = record { 0 = p }

abbrev pub epoch_no : ℕ → Epoch
epoch_no e = record { 0 = e }

abbrev pub call_no : ℕ → CallNo
call_no k = record { 0 = k }

-- the least number below n that passes the test
abbrev pub first_below : ℕ → (ℕ → Bool) → Option ℕ
first_below zero test = None
first_below (suc n) test = option_or (first_below n test) (if test n then Some n else None)

-- each one comes before the next
abbrev pub rises : {X : Type 0} → (X → X → Bool) → List X → Bool
rises before [] = true
rises before (a ∷ []) = true
rises before (a ∷ b ∷ rest) = before a b && rises before (b ∷ rest)

-- both lists have the same in the same order
abbrev pub are_alike : {X : Type 0} → (X → X → Bool) → List X → List X → Bool
are_alike same [] [] = true
are_alike same (a ∷ more) (b ∷ rest) = same a b && are_alike same more rest
are_alike same one other = false

-- what the first n numbers have, in their order
abbrev pub of_each_below : {X : Type 0} → ℕ → (ℕ → X) → List X
of_each_below zero f = []
of_each_below (suc n) f = of_each_below n f ++ f n ∷ []
