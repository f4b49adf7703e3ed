-- Columns of indices, and of elements that may end before the column does.
use Rattle.std.proofs.Common.{◌≡◌, ℕ, zero, suc, ◌+◌, ◌-◌, ◌<◌, ◌≤◌, List, [], ◌∷◌, ◌++◌, length, take, drop, replicate, refl, ap, ◌∙◌, arith, add-one, add-zero}
use Rattle.std.specs.Prelude.{ℤ, pos, set}
use Rattle.fx_value.specs.Columns.{numbers_from, padded}

numbered_step : (xs : List ℤ) (i n : ℕ) → n < length xs → set (numbers_from i n ++ drop n xs) n (pos (i + n)) ≡ numbers_from i (suc n) ++ drop (suc n) xs
numbered_step [] i n within = absurd (omega arith)
numbered_step (x ∷ xs) i zero within = ap (λ (k : ℕ). pos k ∷ xs) (add-zero i)
numbered_step (x ∷ xs) i (suc n) within =
    let less : n < length xs = omega arith in let same : i + suc n ≡ i + 1 + n = omega arith in
    ap (λ (l : List ℤ). pos i ∷ l) (ap (λ (k : ℕ). set (numbers_from (i + 1) n ++ drop n xs) n (pos k)) same ∙ numbered_step xs (i + 1) n less)

-- one index more
pub numbered_more : (xs now : List ℤ) (n : ℕ) → n < length xs → now ≡ numbers_from 0 n ++ drop n xs → set now n (pos n) ≡ numbers_from 0 (n + 1) ++ drop (n + 1) xs
numbered_more xs now n within so_far =
    let same : n ≡ 0 + n = omega arith in
    rw (add-one) (ap (λ (l : List ℤ). set l n (pos n)) so_far ∙ ap (λ (k : ℕ). set (numbers_from 0 n ++ drop n xs) n (pos k)) same ∙ numbered_step xs 0 n within)

-- the front of elements that go on long enough
pub padded_front : (n : ℕ) (xs : List ℤ) → n ≤ length xs → take n xs ≡ padded n xs
padded_front zero xs enough = refl
padded_front (suc n) [] enough = absurd (omega arith)
padded_front (suc n) (x ∷ xs) enough = let less : n ≤ length xs = omega arith in ap (λ (l : List ℤ). x ∷ l) (padded_front n xs less)

padded_none : (n : ℕ) → replicate n (pos 0) ≡ padded n []
padded_none zero = refl
padded_none (suc n) = ap (λ (l : List ℤ). pos 0 ∷ l) (padded_none n)

padded_behind : (n : ℕ) (xs : List ℤ) → length xs < n → take n xs ++ replicate (n - length xs) (pos 0) ≡ padded n xs
padded_behind zero [] ends = refl
padded_behind (suc n) [] ends = let all : suc n - 0 ≡ suc n = omega arith in ap (λ (k : ℕ). replicate k (pos 0)) all ∙ padded_none (suc n)
padded_behind zero (x ∷ xs) ends = absurd (omega arith)
padded_behind (suc n) (x ∷ xs) ends =
    let less : length xs < n = omega arith in let same : suc n - suc (length xs) ≡ n - length xs = omega arith in
    ap (λ (k : ℕ). x ∷ (take n xs ++ replicate k (pos 0))) same ∙ ap (λ (l : List ℤ). x ∷ l) (padded_behind n xs less)

-- elements that end before, and zeros behind them
pub padded_past : (n : ℕ) (front xs now : List ℤ) (len : ℕ) → front ≡ [] → now ≡ front ++ xs → len ≡ length now → length xs < n → take n now ++ replicate (n - len) (pos 0) ≡ padded n xs
padded_past n front xs now len none is long ends =
    let same : now ≡ xs = is ∙ ap (λ (l : List ℤ). l ++ xs) none in
    ap (λ (k : ℕ). take n now ++ replicate (n - k) (pos 0)) long ∙ ap (λ (l : List ℤ). take n l ++ replicate (n - length l) (pos 0)) same ∙ padded_behind n xs ends
