-- A term has the value of the expression that it comes of.
use Rattle.std.proofs.Common.{◌≡◌, ℕ, ◌+◌, Bool, true, false, List, [], ◌∷◌, get_or, refl, ap, sym, subst, ◌∙◌}
use Rattle.std.specs.Prelude.{ℤ, pos, if◌then◌else◌}
use Rattle.std.specs.Int.{w64, int_wrapping_add, int_wrapping_sub, int_wrapping_mul}
use Rattle.fx_script.specs.declared.expr.Expr.{Expr}
use Rattle.fx_script.specs.declared.expr.Expr.TheOpen.{Expr-F}
use Rattle.fx_script.specs.declared.expr.Expr.TheViews.{roll-Expr}
use Rattle.fx_script.specs.declared.expr.Expr.TheFolds.{fold-roll-Expr, map-Expr, ind-Expr}
use Rattle.fx_check.specs.Facts.{Facts, is_array}
use Rattle.fx_check.specs.Rules.{count_of}
use Rattle.fx_walk.specs.State.{array_slot, counter_slot}
use Rattle.fx_walk.specs.Values.{Sight, value_level, value_of, values_from}
use Rattle.fx_value.specs.declared.formula.Term.{Term}
use Rattle.fx_value.specs.declared.formula.Term.TheVariants as term
use Rattle.fx_value.specs.declared.formula.Term.TheOpen.{Term-F}
use Rattle.fx_value.specs.declared.formula.Term.TheViews.{roll-Term}
use Rattle.fx_value.specs.declared.formula.Term.TheFolds.{fold-roll-Term, map-Term}
use Rattle.fx_value.specs.Terms.{term_level, term_of, term_value_level, term_value, term_values}

-- the value of a term by its parts
pub valued : (parts : Term-F Term) (t : Term) → roll-Term parts ≡ t → (x : Sight) → term_value t x ≡ term_value_level (map-Term Term (Sight → ℤ) term_value parts) x
valued parts t is x = ap (λ (value : Sight → ℤ). value x) (ap term_value (sym is) ∙ fold-roll-Term (Sight → ℤ) term_value_level parts)

abbrev IsMeant : Facts → Expr → Type 0
IsMeant f e = (x : Sight) → term_value (term_of f.names e) x ≡ value_of f e x

meant_rolled : (f : Facts) (e : Expr-F Expr)
    → ((x : Sight) → term_value (term_level f.names (map-Expr Expr Term (term_of f.names) e)) x ≡ value_level f (map-Expr Expr (Sight → ℤ) (value_of f) e) x)
    → IsMeant f (roll-Expr e)
meant_rolled f e level x =
    ap (λ (t : Term). term_value t x) (fold-roll-Expr Term (term_level f.names) e) ∙ level x
    ∙ sym (ap (λ (value : Sight → ℤ). value x) (fold-roll-Expr (Sight → ℤ) (value_level f) e))

named_value : (b : Bool) (i j : ℕ) (x : Sight) → term_value (if b then term.Element i else term.Counter j) x
    ≡ (if b then get_or (get_or x.state.arrays i []) x.index (pos 0) else get_or x.state.counters j (pos 0))
named_value true i j x = valued (Term-F.Element i) (term.Element i) (term.rolls-Element i) x
named_value false i j x = valued (Term-F.Counter j) (term.Counter j) (term.rolls-Counter j) x

meant_level : (f : Facts) (y : Expr-F ((e : Expr) × IsMeant f e)) → IsMeant f (roll-Expr (map-Expr ((e : Expr) × IsMeant f e) Expr (λ t. t.0) y))
meant_level f (Expr-F.Number n) = meant_rolled f (Expr-F.Number n) (valued (Term-F.Number n) (term.Number n) (term.rolls-Number n))
meant_level f (Expr-F.Name name) = meant_rolled f (Expr-F.Name name) (named_value (is_array f.names name) (array_slot f.names name) (counter_slot f.names name))
meant_level f Expr-F.Index = meant_rolled f Expr-F.Index (valued Term-F.Index term.Index term.rolls-Index)
meant_level f Expr-F.Rank = meant_rolled f Expr-F.Rank (valued Term-F.Rank term.Rank term.rolls-Rank)
meant_level f Expr-F.Size = meant_rolled f Expr-F.Size (valued Term-F.Size term.Size term.rolls-Size)
meant_level f (Expr-F.Latest group) = meant_rolled f (Expr-F.Latest group) (valued (Term-F.Latest (count_of group)) (term.Latest (count_of group)) (term.rolls-Latest (count_of group)))
meant_level f (Expr-F.Add a b) = meant_rolled f (Expr-F.Add a.0 b.0) (λ x.
    let left = term_of f.names a.0 in let right = term_of f.names b.0 in
    valued (Term-F.Add left right) (term.Add left right) (term.rolls-Add left right) x
    ∙ ap (λ (n : ℤ). int_wrapping_add w64 n (term_value right x)) (a.1 x) ∙ ap (λ (n : ℤ). int_wrapping_add w64 (value_of f a.0 x) n) (b.1 x))
meant_level f (Expr-F.Sub a b) = meant_rolled f (Expr-F.Sub a.0 b.0) (λ x.
    let left = term_of f.names a.0 in let right = term_of f.names b.0 in
    valued (Term-F.Sub left right) (term.Sub left right) (term.rolls-Sub left right) x
    ∙ ap (λ (n : ℤ). int_wrapping_sub w64 n (term_value right x)) (a.1 x) ∙ ap (λ (n : ℤ). int_wrapping_sub w64 (value_of f a.0 x) n) (b.1 x))
meant_level f (Expr-F.Mul a b) = meant_rolled f (Expr-F.Mul a.0 b.0) (λ x.
    let left = term_of f.names a.0 in let right = term_of f.names b.0 in
    valued (Term-F.Mul left right) (term.Mul left right) (term.rolls-Mul left right) x
    ∙ ap (λ (n : ℤ). int_wrapping_mul w64 n (term_value right x)) (a.1 x) ∙ ap (λ (n : ℤ). int_wrapping_mul w64 (value_of f a.0 x) n) (b.1 x))

pub term_value-term_of : (f : Facts) (e : Expr) (x : Sight) → term_value (term_of f.names e) x ≡ value_of f e x
term_value-term_of f = ind-Expr (IsMeant f) (λ x y is. subst (λ x. IsMeant f (roll-Expr x)) is (meant_level f y))

-- and so at each index
pub term_values-term_of : (f : Facts) (e : Expr) (x : Sight) (i : ℕ) (olds : List ℤ) → term_values (term_of f.names e) x i olds ≡ values_from f e x i olds
term_values-term_of f e x i [] = refl
term_values-term_of f e x i (old ∷ olds) =
    ap (λ (n : ℤ). n ∷ term_values (term_of f.names e) x (i + 1) olds) (term_value-term_of f e (record x { index = i }))
    ∙ ap (λ (ns : List ℤ). value_of f e (record x { index = i }) ∷ ns) (term_values-term_of f e x (i + 1) olds)
