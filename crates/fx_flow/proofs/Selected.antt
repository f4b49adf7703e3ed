-- A map of selected elements grows at its end.
use Rattle.std.proofs.Common.{◌≡◌, ℕ, ◌+◌, ◌<◌, Bool, true, false, List, [], ◌∷◌, ◌++◌, length, take, get_or, append-nil, refl, ap, sym, ◌∙◌, arith, add-one}
use Rattle.std.specs.Prelude.{ℤ, pos, if◌then◌else◌}
use Rattle.std.proofs.Math.ListN.{length-take}
use Rattle.std.specs.FinMap.{FinMap, is_sorted, put, from_sorted, insert}
use Rattle.std.specs.FinMap.Entries.{below_all}
use Rattle.std.specs.Ordering.{nat_cmp}
use Rattle.std.specs.Cmp.{nat_cmp_is}
use Rattle.std.specs.declared.cmp.Ordering.TheVariants.{Less, Greater}
use Rattle.std.proofs.lemmas.Cmp.{nat_cmp_total}
use Rattle.std.proofs.Math.Seq.{take-suc}
use Rattle.fx_base.proofs.Maps.{put_is_insert}
use Rattle.fx_flow.specs.declared.instr.Selection.{Selection}
use Rattle.fx_flow.specs.Outward.{is_selected, selected_from, selected}

less : (x y : ℕ) → x < y → nat_cmp x y ≡ Less
less x y h = sym (nat_cmp_is x y Less h)

greater : (x y : ℕ) → y < x → nat_cmp x y ≡ Greater
greater x y h = sym (nat_cmp_is x y Greater h)

length-take_within : (elements : List ℤ) (i : ℕ) → i < length elements → length (take i elements) ≡ i
length-take_within elements i below = grind (arith, length-take)

next : (elements : List ℤ) (i : ℕ) → i < length elements → take (i + 1) elements ≡ take i elements ++ get_or elements i (pos 0) ∷ []
next elements i below = rw add-one (take-suc elements i (pos 0) below)

-- ---- order

below_by : (k i : ℕ) (x : ℤ) (b : Bool) (rest : List (ℕ × ℤ)) → k < i → below_all nat_cmp k rest ≡ true → below_all nat_cmp k (if b then (i, x) ∷ rest else rest) ≡ true
below_by k i x true rest h below = rw (less k i h) below
below_by k i x false rest h below = below

below : (which : Selection) (k i : ℕ) (xs : List ℤ) → k < i → below_all nat_cmp k (selected_from which i xs) ≡ true
below which k i [] h = refl
below which k i (x ∷ xs) h = let later : k < i + 1 = omega arith in below_by k i x (is_selected which i) (selected_from which (i + 1) xs) h (below which k (i + 1) xs later)

sorted_by : (i : ℕ) (x : ℤ) (b : Bool) (rest : List (ℕ × ℤ)) → below_all nat_cmp i rest ≡ true → is_sorted nat_cmp rest ≡ true → is_sorted nat_cmp (if b then (i, x) ∷ rest else rest) ≡ true
sorted_by i x true rest below sorted = rw below sorted
sorted_by i x false rest below sorted = sorted

sorted : (which : Selection) (i : ℕ) (xs : List ℤ) → is_sorted nat_cmp (selected_from which i xs) ≡ true
sorted which i [] = refl
sorted which i (x ∷ xs) = let later : i < i + 1 = omega arith in sorted_by i x (is_selected which i) (selected_from which (i + 1) xs) (below which i (i + 1) xs later) (sorted which (i + 1) xs)

-- ---- the end

-- all keys are less
AreLess : ℕ → List (ℕ × ℤ) → Type 0
AreLess k [] = Unit {0}
AreLess k (e ∷ es) = (e.0 < k) × AreLess k es

less_by : (k i : ℕ) (x : ℤ) (b : Bool) (rest : List (ℕ × ℤ)) → i < k → AreLess k rest → AreLess k (if b then (i, x) ∷ rest else rest)
unfolding AreLess
less_by k i x true rest h are = (h, are)
less_by k i x false rest h are = are

are_less : (which : Selection) (i k : ℕ) (xs : List ℤ) → i + length xs ≡ k → AreLess k (selected_from which i xs)
unfolding AreLess
are_less which i k [] h = tt
are_less which i k (x ∷ xs) h =
    let here : i < k = omega (arith, h) in
    let later : (i + 1) + length xs ≡ k = omega (arith, h) in
    less_by k i x (is_selected which i) (selected_from which (i + 1) xs) here (are_less which (i + 1) k xs later)

put_last : (k : ℕ) (v : ℤ) (es : List (ℕ × ℤ)) → AreLess k es → put nat_cmp k v es ≡ es ++ (k, v) ∷ []
unfolding AreLess
put_last k v [] are = refl
put_last k v (e ∷ es) are = rw (greater k e.0 are.0) (ap (λ (rest : List (ℕ × ℤ)). e ∷ rest) (put_last k v es are.1))

last_by : (i : ℕ) (x : ℤ) (b : Bool) (rest more : List (ℕ × ℤ)) (whole : List (ℕ × ℤ)) → whole ≡ rest ++ more → (if b then (i, x) ∷ whole else whole) ≡ (if b then (i, x) ∷ rest else rest) ++ more
last_by i x true rest more whole is = ap (λ (l : List (ℕ × ℤ)). (i, x) ∷ l) is
last_by i x false rest more whole is = is

abbrev one_if : Bool → ℕ → ℤ → List (ℕ × ℤ)
one_if true k v = (k, v) ∷ []
one_if false k v = []

one_of : (b : Bool) (k : ℕ) (v : ℤ) → (if b then (k, v) ∷ [] else []) ≡ one_if b k v
one_of true k v = refl
one_of false k v = refl

selected_last : (which : Selection) (i k : ℕ) (xs : List ℤ) (x : ℤ) → i + length xs ≡ k → selected_from which i (xs ++ x ∷ []) ≡ selected_from which i xs ++ one_if (is_selected which k) k x
selected_last which i k [] x h = let same : i ≡ k = omega (arith, h) in rw same (one_of (is_selected which k) k x)
selected_last which i k (y ∷ xs) x h =
    let later : (i + 1) + length xs ≡ k = omega (arith, h) in
    last_by i y (is_selected which i) (selected_from which (i + 1) xs) (one_if (is_selected which k) k x) (selected_from which (i + 1) (xs ++ x ∷ [])) (selected_last which (i + 1) k xs x later)

module _ (which : Selection) (xs : List ℤ) (x : ℤ) where
  more_by : (b : Bool) → is_selected which (length xs) ≡ b → selected_from which 0 (xs ++ x ∷ []) ≡ selected_from which 0 xs ++ one_if b (length xs) x
  more_by b is = let from : 0 + length xs ≡ length xs = omega arith in selected_last which 0 (length xs) xs x from ∙ ap (λ (c : Bool). selected_from which 0 xs ++ one_if c (length xs) x) is

  -- an element that is selected is put in
  pub takes_one : is_selected which (length xs) ≡ true → insert (from_sorted {R = nat_cmp} (selected_from which 0 xs)) (length xs) x ≡ from_sorted (selected_from which 0 (xs ++ x ∷ []))
  takes_one is =
      let from : 0 + length xs ≡ length xs = omega arith in
      sym (put_is_insert nat_cmp nat_cmp_total (selected_from which 0 xs) (length xs) x (sorted which 0 xs))
      ∙ ap (λ (es : List (ℕ × ℤ)). from_sorted {R = nat_cmp} es) (put_last (length xs) x (selected_from which 0 xs) (are_less which 0 (length xs) xs from) ∙ sym (more_by true is))

  -- and another one isn't
  pub skips_one : is_selected which (length xs) ≡ false → from_sorted {R = nat_cmp} (selected_from which 0 xs) ≡ from_sorted (selected_from which 0 (xs ++ x ∷ []))
  skips_one is = ap (λ (es : List (ℕ × ℤ)). from_sorted {R = nat_cmp} es) (sym (append-nil (selected_from which 0 xs)) ∙ sym (more_by false is))

-- ---- a step

-- the map of the elements up to an index, with the one at it, if it is selected
pub puts_next : (which : Selection) (elements : List ℤ) (i : ℕ) → i < length elements → (made : FinMap nat_cmp ℤ) → made ≡ selected which (take i elements) → is_selected which i ≡ true
    → insert made i (get_or elements i (pos 0)) ≡ selected which (take (i + 1) elements)
puts_next which elements i below made is chosen =
    let x = get_or elements i (pos 0) in
    let len : length (take i elements) ≡ i = length-take_within elements i below in
    let here : is_selected which (length (take i elements)) ≡ true = rw len chosen in
    let put = rw len at (takes_one which (take i elements) x here) in
    ap (λ (m : FinMap nat_cmp ℤ). insert m i x) is ∙ put ∙ ap (selected which) (sym (next elements i below))

pub skips_next : (which : Selection) (elements : List ℤ) (i : ℕ) → i < length elements → (made : FinMap nat_cmp ℤ) → made ≡ selected which (take i elements) → is_selected which i ≡ false
    → made ≡ selected which (take (i + 1) elements)
skips_next which elements i below made is chosen =
    let len : length (take i elements) ≡ i = length-take_within elements i below in
    let here : is_selected which (length (take i elements)) ≡ false = rw len chosen in
    is ∙ skips_one which (take i elements) (get_or elements i (pos 0)) here ∙ ap (selected which) (sym (next elements i below))
