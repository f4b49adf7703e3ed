-- The column of a term, by its parts.
use Rattle.std.proofs.Common.{◌≡◌, ℕ, zero, suc, ◌+◌, List, [], ◌∷◌, ◌++◌, length, get_or, take, drop, replicate, refl, ap, sym, ◌∙◌, add-one}
use Rattle.std.specs.Prelude.{ℤ, pos, negsuc}
use Rattle.std.specs.Int.{w64, int_wrapping_add, int_wrapping_sub, int_wrapping_mul}
use Rattle.std.proofs.lemmas.List.{take_at}
use Rattle.fx_walk.specs.Values.{Sight}
use Rattle.fx_value.specs.declared.formula.Term.{Term}
use Rattle.fx_value.specs.declared.formula.Term.TheVariants as term
use Rattle.fx_value.specs.declared.formula.Term.TheOpen.{Term-F}
use Rattle.fx_value.specs.Columns.{differences, numbers_from, padded, products, sums}
use Rattle.fx_value.specs.Terms.{term_value, term_values}
use Rattle.fx_value.proofs.TermLemmas.{valued}

pub length-term_values : (t : Term) (x : Sight) (i : ℕ) (olds : List ℤ) → length (term_values t x i olds) ≡ length olds
length-term_values t x i [] = refl
length-term_values t x i (old ∷ olds) = ap suc (length-term_values t x (i + 1) olds)

-- a value that is the same at each index
constant : (t : Term) (v : ℤ) (x : Sight) → ((i : ℕ) → term_value t (record x { index = i }) ≡ v) → (i : ℕ) (olds : List ℤ) → replicate (length olds) v ≡ term_values t x i olds
constant t v x same i [] = refl
constant t v x same i (old ∷ olds) =
    ap (λ (l : List ℤ). v ∷ l) (constant t v x same (i + 1) olds) ∙ ap (λ (n : ℤ). n ∷ term_values t x (i + 1) olds) (sym (same i))

pub number_column : (n : ℤ) (x : Sight) (i : ℕ) (olds : List ℤ) → replicate (length olds) n ≡ term_values (term.Number n) x i olds
number_column n x = constant (term.Number n) n x (λ i. valued (Term-F.Number n) (term.Number n) (term.rolls-Number n) (record x { index = i }))

pub counter_column : (slot : ℕ) (x : Sight) (i : ℕ) (olds : List ℤ) → replicate (length olds) (get_or x.state.counters slot (pos 0)) ≡ term_values (term.Counter slot) x i olds
counter_column slot x = constant (term.Counter slot) (get_or x.state.counters slot (pos 0)) x (λ i. valued (Term-F.Counter slot) (term.Counter slot) (term.rolls-Counter slot) (record x { index = i }))

pub rank_column : (x : Sight) (i : ℕ) (olds : List ℤ) → replicate (length olds) (pos x.view.rank) ≡ term_values term.Rank x i olds
rank_column x = constant term.Rank (pos x.view.rank) x (λ i. valued Term-F.Rank term.Rank term.rolls-Rank (record x { index = i }))

pub size_column : (x : Sight) (i : ℕ) (olds : List ℤ) → replicate (length olds) (pos x.view.size) ≡ term_values term.Size x i olds
size_column x = constant term.Size (pos x.view.size) x (λ i. valued Term-F.Size term.Size term.rolls-Size (record x { index = i }))

pub latest_column : (group : ℕ) (x : Sight) (i : ℕ) (olds : List ℤ) → replicate (length olds) (get_or x.view.latest group (negsuc 0)) ≡ term_values (term.Latest group) x i olds
latest_column group x = constant (term.Latest group) (get_or x.view.latest group (negsuc 0)) x (λ i. valued (Term-F.Latest group) (term.Latest group) (term.rolls-Latest group) (record x { index = i }))

pub index_column : (x : Sight) (i : ℕ) (olds : List ℤ) → numbers_from i (length olds) ≡ term_values term.Index x i olds
index_column x i [] = refl
index_column x i (old ∷ olds) =
    ap (λ (l : List ℤ). pos i ∷ l) (index_column x (i + 1) olds)
    ∙ ap (λ (n : ℤ). n ∷ term_values term.Index x (i + 1) olds) (sym (valued Term-F.Index term.Index term.rolls-Index (record x { index = i })))

padded_step : (n k : ℕ) (elements : List ℤ) → padded (suc n) (drop k elements) ≡ get_or elements k (pos 0) ∷ padded n (drop (suc k) elements)
padded_step n zero [] = refl
padded_step n zero (element ∷ elements) = refl
padded_step n (suc k) [] = refl
padded_step n (suc k) (element ∷ elements) = padded_step n k elements

elements_from : (slot : ℕ) (x : Sight) (i : ℕ) (olds : List ℤ) → padded (length olds) (drop i (get_or x.state.arrays slot [])) ≡ term_values (term.Element slot) x i olds
elements_from slot x i [] = refl
elements_from slot x i (old ∷ olds) =
    let elements : List ℤ = get_or x.state.arrays slot [] in
    padded_step (length olds) i elements
    ∙ ap (λ (k : ℕ). get_or elements i (pos 0) ∷ padded (length olds) (drop k elements)) (sym (add-one i))
    ∙ ap (λ (l : List ℤ). get_or elements i (pos 0) ∷ l) (elements_from slot x (i + 1) olds)
    ∙ ap (λ (n : ℤ). n ∷ term_values (term.Element slot) x (i + 1) olds) (sym (valued (Term-F.Element slot) (term.Element slot) (term.rolls-Element slot) (record x { index = i })))

pub element_column : (slot : ℕ) (x : Sight) (olds : List ℤ) → padded (length olds) (get_or x.state.arrays slot []) ≡ term_values (term.Element slot) x 0 olds
element_column slot x olds = elements_from slot x 0 olds

pub add_column : (a b : Term) (x : Sight) (i : ℕ) (olds : List ℤ) → sums (term_values a x i olds) (term_values b x i olds) ≡ term_values (term.Add a b) x i olds
add_column a b x i [] = refl
add_column a b x i (old ∷ olds) =
    ap (λ (l : List ℤ). int_wrapping_add w64 (term_value a (record x { index = i })) (term_value b (record x { index = i })) ∷ l) (add_column a b x (i + 1) olds)
    ∙ ap (λ (n : ℤ). n ∷ term_values (term.Add a b) x (i + 1) olds) (sym (valued (Term-F.Add a b) (term.Add a b) (term.rolls-Add a b) (record x { index = i })))

pub sub_column : (a b : Term) (x : Sight) (i : ℕ) (olds : List ℤ) → differences (term_values a x i olds) (term_values b x i olds) ≡ term_values (term.Sub a b) x i olds
sub_column a b x i [] = refl
sub_column a b x i (old ∷ olds) =
    ap (λ (l : List ℤ). int_wrapping_sub w64 (term_value a (record x { index = i })) (term_value b (record x { index = i })) ∷ l) (sub_column a b x (i + 1) olds)
    ∙ ap (λ (n : ℤ). n ∷ term_values (term.Sub a b) x (i + 1) olds) (sym (valued (Term-F.Sub a b) (term.Sub a b) (term.rolls-Sub a b) (record x { index = i })))

pub mul_column : (a b : Term) (x : Sight) (i : ℕ) (olds : List ℤ) → products (term_values a x i olds) (term_values b x i olds) ≡ term_values (term.Mul a b) x i olds
mul_column a b x i [] = refl
mul_column a b x i (old ∷ olds) =
    ap (λ (l : List ℤ). int_wrapping_mul w64 (term_value a (record x { index = i })) (term_value b (record x { index = i })) ∷ l) (mul_column a b x (i + 1) olds)
    ∙ ap (λ (n : ℤ). n ∷ term_values (term.Mul a b) x (i + 1) olds) (sym (valued (Term-F.Mul a b) (term.Mul a b) (term.rolls-Mul a b) (record x { index = i })))

-- ---- what a call leaves

-- columns of one array are of one length
pub as_long : (a b : Term) (x : Sight) (olds left right : List ℤ) → left ≡ term_values a x 0 olds → right ≡ term_values b x 0 olds → length left ≡ length right
as_long a b x olds left right one other = ap length one ∙ length-term_values a x 0 olds ∙ sym (ap length other ∙ length-term_values b x 0 olds)

pub add_done : (a b t : Term) (x : Sight) (olds : List ℤ) (len : ℕ) (old left right new : List ℤ) → t ≡ term.Add a b → left ≡ term_values a x 0 olds → right ≡ term_values b x 0 olds
    → new ≡ sums left right → len ≡ length left → take len (new ++ drop (length new) old) ≡ term_values t x 0 olds
add_done a b t x olds len old left right new is one other joined long =
    let whole : new ≡ term_values t x 0 olds =
    joined ∙ ap (λ (l : List ℤ). sums l right) one ∙ ap (λ (l : List ℤ). sums (term_values a x 0 olds) l) other ∙ add_column a b x 0 olds
    ∙ ap (λ (part : Term). term_values part x 0 olds) (sym is) in
    let same : length new ≡ len = ap length whole ∙ length-term_values t x 0 olds ∙ sym (long ∙ ap length one ∙ length-term_values a x 0 olds) in
    take_at new (drop (length new) old) len same ∙ whole

pub sub_done : (a b t : Term) (x : Sight) (olds : List ℤ) (len : ℕ) (old left right new : List ℤ) → t ≡ term.Sub a b → left ≡ term_values a x 0 olds → right ≡ term_values b x 0 olds
    → new ≡ differences left right → len ≡ length left → take len (new ++ drop (length new) old) ≡ term_values t x 0 olds
sub_done a b t x olds len old left right new is one other joined long =
    let whole : new ≡ term_values t x 0 olds =
    joined ∙ ap (λ (l : List ℤ). differences l right) one ∙ ap (λ (l : List ℤ). differences (term_values a x 0 olds) l) other ∙ sub_column a b x 0 olds
    ∙ ap (λ (part : Term). term_values part x 0 olds) (sym is) in
    let same : length new ≡ len = ap length whole ∙ length-term_values t x 0 olds ∙ sym (long ∙ ap length one ∙ length-term_values a x 0 olds) in
    take_at new (drop (length new) old) len same ∙ whole

pub mul_done : (a b t : Term) (x : Sight) (olds : List ℤ) (len : ℕ) (old left right new : List ℤ) → t ≡ term.Mul a b → left ≡ term_values a x 0 olds → right ≡ term_values b x 0 olds
    → new ≡ products left right → len ≡ length left → take len (new ++ drop (length new) old) ≡ term_values t x 0 olds
mul_done a b t x olds len old left right new is one other joined long =
    let whole : new ≡ term_values t x 0 olds =
    joined ∙ ap (λ (l : List ℤ). products l right) one ∙ ap (λ (l : List ℤ). products (term_values a x 0 olds) l) other ∙ mul_column a b x 0 olds
    ∙ ap (λ (part : Term). term_values part x 0 olds) (sym is) in
    let same : length new ≡ len = ap length whole ∙ length-term_values t x 0 olds ∙ sym (long ∙ ap length one ∙ length-term_values a x 0 olds) in
    take_at new (drop (length new) old) len same ∙ whole
