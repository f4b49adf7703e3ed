-- What the rules of a job make the same on all ranks: the values of uniform expressions.
use Rattle.std.proofs.Common.{◌≡◌, Bool, true, false, not, List, get_or, refl, ap, sym, subst, ◌∙◌}
use Rattle.std.specs.Prelude.{ℤ, pos, negsuc, if◌then◌else◌}
use Rattle.std.specs.Int.{w64, int_wrapping_add, int_wrapping_sub, int_wrapping_mul}
use Rattle.std.proofs.lemmas.Bool.{and_parts}
use Rattle.fx_script.specs.declared.expr.Expr.{Expr}
use Rattle.fx_script.specs.declared.expr.Expr.TheOpen.{Expr-F}
use Rattle.fx_script.specs.declared.expr.Expr.TheViews.{roll-Expr}
use Rattle.fx_script.specs.declared.expr.Expr.TheFolds.{fold-roll-Expr, map-Expr, ind-Expr}
use Rattle.fx_check.specs.Facts.{Facts, is_array}
use Rattle.fx_check.specs.Rules.{expr_uniform_level, expr_uniform, count_of}
use Rattle.fx_walk.specs.declared.action.View.{View}
use Rattle.fx_walk.specs.State.{State, counter_slot}
use Rattle.fx_walk.specs.Values.{Sight, sight, value_level, value_of}
use Rattle.fx_walk.specs.Plan.{shared_of, shared_sight}

-- what two ranks see alike
record SameSight (x y : Sight) : Type 0 where
  size : x.view.size ≡ y.view.size
  latest : x.view.latest ≡ y.view.latest
  counters : x.state.counters ≡ y.state.counters

abbrev IsSame : Facts → Expr → Type 0
IsSame f e = expr_uniform f e ≡ true → (x y : Sight) → SameSight x y → value_of f e x ≡ value_of f e y

same_rolled : (f : Facts) (e : Expr-F Expr)
    → (expr_uniform_level f (map-Expr Expr Bool (expr_uniform f) e) ≡ true → (x y : Sight) → SameSight x y → value_level f (map-Expr Expr (Sight → ℤ) (value_of f) e) x ≡ value_level f (map-Expr Expr (Sight → ℤ) (value_of f) e) y)
    → IsSame f (roll-Expr e)
same_rolled f e level uniform x y same =
    let is : value_of f (roll-Expr e) ≡ value_level f (map-Expr Expr (Sight → ℤ) (value_of f) e) = fold-roll-Expr (Sight → ℤ) (value_level f) e in
    ap (λ (g : Sight → ℤ). g x) is ∙ level (sym (fold-roll-Expr Bool (expr_uniform_level f) e) ∙ uniform) x y same ∙ sym (ap (λ (g : Sight → ℤ). g y) is)

pick : (t : Bool) → not t ≡ true → (p q r s : ℤ) → q ≡ s → (if t then p else q) ≡ (if t then r else s)
pick true h p q r s e = absurd cc
pick false h p q r s e = e

same_level : (f : Facts) (y : Expr-F ((e : Expr) × IsSame f e)) → IsSame f (roll-Expr (map-Expr ((e : Expr) × IsSame f e) Expr (λ t. t.0) y))
same_level f (Expr-F.Number n) = same_rolled f (Expr-F.Number n) (λ u x y s. refl)
same_level f (Expr-F.Name name) = same_rolled f (Expr-F.Name name)
    (λ u x y s. pick (is_array f.names name) u _ _ _ _ (ap (λ (cs : List ℤ). get_or cs (counter_slot f.names name) (pos 0)) s.counters))
same_level f Expr-F.Index = same_rolled f Expr-F.Index (λ u x y s. absurd cc)
same_level f Expr-F.Rank = same_rolled f Expr-F.Rank (λ u x y s. absurd cc)
same_level f Expr-F.Size = same_rolled f Expr-F.Size (λ u x y s. ap pos s.size)
same_level f (Expr-F.Latest group) = same_rolled f (Expr-F.Latest group) (λ u x y s. ap (λ (l : List ℤ). get_or l (count_of group) (negsuc 0)) s.latest)
same_level f (Expr-F.Add a b) = same_rolled f (Expr-F.Add a.0 b.0) (λ u x y s.
    let both = and_parts (expr_uniform f a.0) (expr_uniform f b.0) u in
    ap (λ (n : ℤ). int_wrapping_add w64 n (value_of f b.0 x)) (a.1 both.0 x y s) ∙ ap (λ (n : ℤ). int_wrapping_add w64 (value_of f a.0 y) n) (b.1 both.1 x y s))
same_level f (Expr-F.Sub a b) = same_rolled f (Expr-F.Sub a.0 b.0) (λ u x y s.
    let both = and_parts (expr_uniform f a.0) (expr_uniform f b.0) u in
    ap (λ (n : ℤ). int_wrapping_sub w64 n (value_of f b.0 x)) (a.1 both.0 x y s) ∙ ap (λ (n : ℤ). int_wrapping_sub w64 (value_of f a.0 y) n) (b.1 both.1 x y s))
same_level f (Expr-F.Mul a b) = same_rolled f (Expr-F.Mul a.0 b.0) (λ u x y s.
    let both = and_parts (expr_uniform f a.0) (expr_uniform f b.0) u in
    ap (λ (n : ℤ). int_wrapping_mul w64 n (value_of f b.0 x)) (a.1 both.0 x y s) ∙ ap (λ (n : ℤ). int_wrapping_mul w64 (value_of f a.0 y) n) (b.1 both.1 x y s))

same_values : (f : Facts) (e : Expr) → IsSame f e
same_values f = ind-Expr (IsSame f) (λ x y is. subst (λ x. IsSame f (roll-Expr x)) is (same_level f y))

-- a uniform expression has the same value for a rank and for who sees only what all ranks see
pub uniform_value : (f : Facts) (e : Expr) → expr_uniform f e ≡ true → (view : View) (state : State) → value_of f e (sight view state) ≡ value_of f e (shared_sight (shared_of view state))
uniform_value f e uniform view state = same_values f e uniform (sight view state) (shared_sight (shared_of view state)) (record { size = refl; latest = refl; counters = refl })
