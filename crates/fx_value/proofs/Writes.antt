-- Loops that write an array from its front on.
use Rattle.std.proofs.Common.{◌≡◌, ℕ, zero, suc, ◌+◌, ◌<◌, List, [], ◌∷◌, ◌++◌, length, set, take, drop, refl, ap, ◌∙◌, arith, add-one}
use Rattle.std.specs.Prelude.{ℤ, pos}
use Rattle.fx_value.specs.Shape.{zeroed}

zero_step : (ns : List ℤ) (i : ℕ) → i < length ns → set (zeroed (take i ns) ++ drop i ns) i (pos 0) ≡ zeroed (take (suc i) ns) ++ drop (suc i) ns
zero_step [] i within = absurd (omega arith)
zero_step (n ∷ ns) zero within = refl
zero_step (n ∷ ns) (suc i) within = let less : i < length ns = omega arith in ap (λ (l : List ℤ). pos 0 ∷ l) (zero_step ns i less)

-- one number more is 0
pub zero_more : (ns now : List ℤ) (i : ℕ) → i < length ns → now ≡ zeroed (take i ns) ++ drop i ns → set now i (pos 0) ≡ zeroed (take (i + 1) ns) ++ drop (i + 1) ns
zero_more ns now i within so_far = rw (add-one) (ap (λ (l : List ℤ). set l i (pos 0)) so_far ∙ zero_step ns i within)
