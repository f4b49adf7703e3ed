-- What expressions mean: whole numbers of 64 bits, whose sums, differences and products wrap.
use Rattle.std.specs.Prelude.{◌≡◌, refl, ℕ, ◌+◌, ℤ, pos, negsuc, Bool, true, false, if◌then◌else◌, List, [], ◌∷◌, get_or, int_lt, int_le}
use Rattle.std.specs.Int.{w64, int_wrapping_add, int_wrapping_sub, int_wrapping_mul}
use Rattle.std.specs.Ordering.{int_eq}
use Rattle.fx_base.specs.declared.names.Op.{Op}
use Rattle.fx_base.specs.declared.names.Op.TheVariants as op
use Rattle.fx_script.specs.declared.expr.Expr.{Expr}
use Rattle.fx_script.specs.declared.expr.Expr.TheOpen.{Expr-F}
use Rattle.fx_script.specs.declared.expr.Expr.TheFolds.{fold-Expr}
use Rattle.fx_script.specs.declared.job.Test.{Test}
use Rattle.fx_script.specs.declared.job.Test.TheVariants as test
use Rattle.fx_check.specs.Facts.{Facts, is_array}
use Rattle.fx_check.specs.Rules.{count_of}
use Rattle.fx_walk.specs.declared.action.View.{View}
use Rattle.fx_walk.specs.State.{State, counter_of, elements_of}

-- what an expression may speak of
pub record Sight : Type 0 where
  pub view : View
  pub state : State
  pub index : ℕ

-- what a statement's own expressions see: those at an index say which
abbrev pub sight : View → State → Sight
sight view state = record { view = view; state = state; index = 0 }

-- a name is the array's element at the index, or the counter's value
abbrev pub value_level : Facts → Expr-F (Sight → ℤ) → Sight → ℤ
value_level f (Expr-F.Number n) x = n
value_level f (Expr-F.Name name) x = if is_array f.names name then get_or (elements_of f x.state name) x.index (pos 0) else counter_of f x.state name
value_level f Expr-F.Index x = pos x.index
value_level f Expr-F.Rank x = pos x.view.rank
value_level f Expr-F.Size x = pos x.view.size
value_level f (Expr-F.Latest group) x = get_or x.view.latest (count_of group) (negsuc 0)
value_level f (Expr-F.Add left right) x = int_wrapping_add w64 (left x) (right x)
value_level f (Expr-F.Sub left right) x = int_wrapping_sub w64 (left x) (right x)
value_level f (Expr-F.Mul left right) x = int_wrapping_mul w64 (left x) (right x)

abbrev pub value_of : Facts → Expr → Sight → ℤ
value_of f = fold-Expr (Sight → ℤ) (value_level f)

-- the values at each index of an array from this one on
abbrev pub values_from : Facts → Expr → Sight → ℕ → List ℤ → List ℤ
values_from f value x i [] = []
values_from f value x i (old ∷ olds) = value_of f value (record x { index = i }) ∷ values_from f value x (i + 1) olds

-- how the two sides of a branch compare
abbrev pub holds : Test → ℤ → ℤ → Bool
holds test.Lt left right = int_lt left right
holds test.Le left right = int_le left right
holds test.Eq left right = int_eq left right

-- what an operation makes of two numbers
abbrev pub combined : Op → ℤ → ℤ → ℤ
combined op.Sum a b = int_wrapping_add w64 a b
combined op.Min a b = if int_lt b a then b else a
combined op.Max a b = if int_lt a b then b else a

-- and of a number and more of them, one after another
abbrev pub reduced_with : Op → ℤ → List ℤ → ℤ
reduced_with o so_far [] = so_far
reduced_with o so_far (n ∷ ns) = reduced_with o (combined o so_far n) ns

-- of all elements of an array
abbrev pub reduced : Op → List ℤ → ℤ
reduced o [] = pos 0
reduced o (n ∷ ns) = reduced_with o n ns

-- ---- rows

least_of_three : reduced op.Min (pos 3 ∷ negsuc 1 ∷ pos 5 ∷ []) ≡ negsuc 1
least_of_three = refl

greatest_of_three : reduced op.Max (negsuc 3 ∷ negsuc 1 ∷ negsuc 5 ∷ []) ≡ negsuc 1
greatest_of_three = refl

-- 2^63 - 1, 1 and 1 come to -2^63 + 1
sum_wraps : reduced op.Sum (pos 9223372036854775807 ∷ pos 1 ∷ pos 1 ∷ []) ≡ negsuc 9223372036854775806
sum_wraps = refl

-- 3 is at most 3, and not below it
at_most : holds test.Le (pos 3) (pos 3) ≡ true
at_most = refl

not_below : holds test.Lt (pos 3) (pos 3) ≡ false
not_below = refl
