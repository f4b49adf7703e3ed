-- A loop that joins two columns in the place of the first.
use Rattle.std.proofs.Common.{◌≡◌, ℕ, zero, suc, ◌+◌, ◌<◌, List, [], ◌∷◌, ◌++◌, length, get_or, take, drop, refl, ap, ◌∙◌, arith, add-one}
use Rattle.std.specs.Prelude.{ℤ, pos, set}
use Rattle.fx_value.specs.Columns.{paired}

pair_step : (op : ℤ → ℤ → ℤ) (xs ys : List ℤ) (i : ℕ) → i < length xs → i < length ys
    → set (paired op (take i xs) (take i ys) ++ drop i xs) i (op (get_or xs i (pos 0)) (get_or ys i (pos 0))) ≡ paired op (take (suc i) xs) (take (suc i) ys) ++ drop (suc i) xs
pair_step op [] ys i within beside = absurd (omega arith)
pair_step op (a ∷ xs) [] i within beside = absurd (omega arith)
pair_step op (a ∷ xs) (b ∷ ys) zero within beside = refl
pair_step op (a ∷ xs) (b ∷ ys) (suc i) within beside =
    let less : i < length xs = omega arith in let fewer : i < length ys = omega arith in
    ap (λ (l : List ℤ). op a b ∷ l) (pair_step op xs ys i less fewer)

pair_read : (op : ℤ → ℤ → ℤ) (xs ys : List ℤ) (i : ℕ) → i < length xs → i < length ys → get_or (paired op (take i xs) (take i ys) ++ drop i xs) i (pos 0) ≡ get_or xs i (pos 0)
pair_read op [] ys i within beside = absurd (omega arith)
pair_read op (a ∷ xs) [] i within beside = absurd (omega arith)
pair_read op (a ∷ xs) (b ∷ ys) zero within beside = refl
pair_read op (a ∷ xs) (b ∷ ys) (suc i) within beside =
    let less : i < length xs = omega arith in let fewer : i < length ys = omega arith in pair_read op xs ys i less fewer

-- what is joined so far, and one index more
pub paired_more : (op : ℤ → ℤ → ℤ) (xs ys now : List ℤ) (i : ℕ) → i < length xs → i < length ys → now ≡ paired op (take i xs) (take i ys) ++ drop i xs
    → set now i (op (get_or now i (pos 0)) (get_or ys i (pos 0))) ≡ paired op (take (i + 1) xs) (take (i + 1) ys) ++ drop (i + 1) xs
paired_more op xs ys now i within beside so_far =
    rw (add-one) (
    ap (λ (l : List ℤ). set l i (op (get_or l i (pos 0)) (get_or ys i (pos 0)))) so_far
    ∙ ap (λ (n : ℤ). set (paired op (take i xs) (take i ys) ++ drop i xs) i (op n (get_or ys i (pos 0)))) (pair_read op xs ys i within beside)
    ∙ pair_step op xs ys i within beside)
