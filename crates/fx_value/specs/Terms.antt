-- Expressions whose names are slots: how they come of a job's expressions, and their values.
use Rattle.std.specs.Prelude.{ℕ, ◌+◌, ℤ, pos, negsuc, if◌then◌else◌, List, [], ◌∷◌, get_or}
use Rattle.std.specs.Int.{w64, int_wrapping_add, int_wrapping_sub, int_wrapping_mul}
use Rattle.fx_script.specs.declared.expr.Expr.{Expr}
use Rattle.fx_script.specs.declared.expr.Expr.TheOpen.{Expr-F}
use Rattle.fx_script.specs.declared.expr.Expr.TheFolds.{fold-Expr}
use Rattle.fx_script.specs.declared.job.Decl.{Decl}
use Rattle.fx_check.specs.Facts.{is_array}
use Rattle.fx_check.specs.Rules.{count_of}
use Rattle.fx_walk.specs.State.{array_slot, counter_slot}
use Rattle.fx_walk.specs.Values.{Sight}
use Rattle.fx_value.specs.declared.formula.Term.{Term}
use Rattle.fx_value.specs.declared.formula.Term.TheVariants as term
use Rattle.fx_value.specs.declared.formula.Term.TheOpen.{Term-F}
use Rattle.fx_value.specs.declared.formula.Term.TheFolds.{fold-Term}

-- a name as its slot
abbrev pub named : List Decl → List ℕ → Term
named names name = if is_array names name then term.Element (array_slot names name) else term.Counter (counter_slot names name)

-- an expression with slots for its names, where these are declared
abbrev pub term_level : List Decl → Expr-F Term → Term
term_level names (Expr-F.Number n) = term.Number n
term_level names (Expr-F.Name name) = named names name
term_level names Expr-F.Index = term.Index
term_level names Expr-F.Rank = term.Rank
term_level names Expr-F.Size = term.Size
term_level names (Expr-F.Latest group) = term.Latest (count_of group)
term_level names (Expr-F.Add left right) = term.Add left right
term_level names (Expr-F.Sub left right) = term.Sub left right
term_level names (Expr-F.Mul left right) = term.Mul left right

abbrev pub term_of : List Decl → Expr → Term
term_of names = fold-Expr Term (term_level names)

-- the value of such an expression: what isn't there counts as 0, and as -1 for a stamp
abbrev pub term_value_level : Term-F (Sight → ℤ) → Sight → ℤ
term_value_level (Term-F.Number n) x = n
term_value_level (Term-F.Counter slot) x = get_or x.state.counters slot (pos 0)
term_value_level (Term-F.Element slot) x = get_or (get_or x.state.arrays slot []) x.index (pos 0)
term_value_level Term-F.Index x = pos x.index
term_value_level Term-F.Rank x = pos x.view.rank
term_value_level Term-F.Size x = pos x.view.size
term_value_level (Term-F.Latest group) x = get_or x.view.latest group (negsuc 0)
term_value_level (Term-F.Add left right) x = int_wrapping_add w64 (left x) (right x)
term_value_level (Term-F.Sub left right) x = int_wrapping_sub w64 (left x) (right x)
term_value_level (Term-F.Mul left right) x = int_wrapping_mul w64 (left x) (right x)

abbrev pub term_value : Term → Sight → ℤ
term_value = fold-Term (Sight → ℤ) term_value_level

-- the values at each index of an array from this one on
abbrev pub term_values : Term → Sight → ℕ → List ℤ → List ℤ
term_values t x i [] = []
term_values t x i (old ∷ olds) = term_value t (record x { index = i }) ∷ term_values t x (i + 1) olds
